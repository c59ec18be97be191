use Rattle.std.proofs.Common.{◌≡◌, true, option_map, sym, subst, ap, ◌∙◌}
use Rattle.dns_name.specs.Names.{Name, under}
use Rattle.zone_reads.specs.Session.{Session}
use Rattle.zone_values.specs.TypedSets.{TypedSet}
use Rattle.zone_sessions.proofs.KeptApex.{cut_apex}
use Rattle.zone_sessions.proofs.node.WriteNode.make_zone_cut.Goals as goal

-- A cut keeps the apex.
pub invariant_of-self-2 : goal.invariant_of-self-2
invariant_of-self-2 c =
    let before = c.self.inside.session.now.pending in
    subst (λ (a : Name). under c.self.inside.name a ≡ true)
    (sym
    (ap (λ (s : Session). s.pending.apex) c.in_ok-make_cut.ensures.ok
    ∙ cut_apex before c.self.inside.name c.args.cut.ns.contents (option_map (λ (s : TypedSet). s.contents) c.args.cut.ds) c.args.cut.glue.items))
    c.self.invariant
