use Rattle.std.proofs.Common.{[], ◌∷◌, ◌++◌, sym, ap, ◌∙◌, subst}
use Rattle.zone_versions.specs.Trees.{IsHeld}
use Rattle.zone_versions.specs.Held.{held_of}
use Rattle.zone_versions.proofs.Row.{one_held}
use Rattle.zone_versions.proofs.node.ZoneNode.of_one.Goals as goal

pub build-requires : goal.build-requires
build-requires c =
    subst (λ l. IsHeld (held_of l)) (sym (c.in_ok-push.ensures.items ∙ ap (λ l. l ++ (c.args.set ∷ [])) c.new-sets.ensures.items)) (one_held c.args.set c.requires.full)
