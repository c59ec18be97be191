use Rattle.std.proofs.Common.{ap, ◌∙◌}
use Rattle.zone_model.specs.Walk.{Stop}
use Rattle.zone_versions.specs.Stops.{entry_told}
use Rattle.zone_versions.proofs.Stops.{cut_shown}
use Rattle.zone_versions.proofs.walk.WalkItem.below_cut.Goals as goal

-- The owner is shown up to its case.
pub returns : goal.returns
returns c =
    c.is_below_cut.ensures ∙ cut_shown c.self.inside.version.now (entry_told c.self.inside.found) c.self.inside.owner c.self.invariant
    ∙ ap (λ (s : Stop). s.below_cut) c.self.view_is
