use Rattle.std.proofs.Common.{◌≡◌, true, sym, subst}
use Rattle.dns_name.specs.Names.{Name, under}
use Rattle.zone_reads.proofs.NodeNames.{under_child}
use Rattle.zone_reads.proofs.parts.NodeChildren.get.Goals as goal

-- A name below one in the zone is in the zone.
pub node_of-requires-clause-inside : goal.node_of-requires-clause-inside
node_of-requires-clause-inside c =
    let apex = c.self.inside.version.now.apex in
    subst (λ (n : Name). under n apex ≡ true) (sym c.in-Ok.ensures.is) (under_child c.args.label.now c.self.inside.name apex c.self.invariant.1)
