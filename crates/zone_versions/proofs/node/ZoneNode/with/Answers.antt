use Rattle.std.proofs.Common.{length, sym, ap, ◌∙◌, subst, le-leb, nat_cmp}
use Rattle.std.specs.BTreeMap.{insert_entry}
use Rattle.zone_versions.specs.Trees.{IsHeld}
use Rattle.zone_versions.specs.Held.{held_of}
use Rattle.zone_versions.proofs.Kept.{held_insert}
use Rattle.zone_versions.proofs.node.ZoneNode.with.Goals as goal

pub build-requires : goal.build-requires
build-requires c =
    subst IsHeld (sym (c.in_ok-put_in.ensures.ok ∙ ap (λ l. insert_entry nat_cmp (held_of l) c.args.rtype c.args.set.contents) c.in_ok-sets.ensures))
    (held_insert (held_of c.self.inside.sets.items) c.args.rtype c.args.set.contents (le-leb 1 (length c.args.set.contents.items) c.requires.full) c.self.invariant)
