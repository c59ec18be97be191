use Rattle.std.proofs.Common.{sym, ap, ◌∙◌, subst, nat_cmp}
use Rattle.std.specs.BTreeMap.{is_at}
use Rattle.std.specs.Map.{remove_entry}
use Rattle.zone_versions.specs.Trees.{IsHeld}
use Rattle.zone_versions.specs.Held.{held_of}
use Rattle.zone_versions.proofs.Kept.{held_remove}
use Rattle.zone_versions.proofs.node.ZoneNode.without.Goals as goal

pub build-requires : goal.build-requires
build-requires c =
    subst IsHeld (sym (c.take_out.ensures ∙ ap (λ l. remove_entry (is_at (nat_cmp c.args.rtype)) (held_of l)) c.in_ok-sets.ensures))
    (held_remove (held_of c.self.inside.sets.items) c.args.rtype c.self.invariant)
