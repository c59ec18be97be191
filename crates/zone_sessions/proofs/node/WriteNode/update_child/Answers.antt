use Rattle.std.proofs.Common.{◌≡◌, true, sym, subst}
use Rattle.dns_name.specs.Names.{Name, under}
use Rattle.zone_reads.proofs.NodeNames.{under_child}
use Rattle.zone_sessions.proofs.node.WriteNode.update_child.Goals as goal

-- A name below one in the zone is in the zone.
pub invariant_of-self : goal.invariant_of-self
invariant_of-self c =
    let apex = c.self.inside.session.now.pending.apex in
    subst (λ (n : Name). under n apex ≡ true) (sym c.in-Ok.ensures.is) (under_child c.args.label.now c.self.inside.name apex c.self.invariant)
