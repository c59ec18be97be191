use Rattle.std.proofs.Common.{sym, ap, ◌∙◌}
use Rattle.zone_changes.specs.Changes.{lacked_at}
use Rattle.zone_changes.proofs.Changing.{lacked_is_without}
use Rattle.zone_changes.proofs.SoundSets.{sound_good}
use Rattle.zone_changes.proofs.changes.lacking.Goals as goal

-- No key is left, and those looked at cover both.
pub returns : goal.returns
returns c =
    let a = c.args.version.now.sets in
    let b = c.args.other.now.sets in
    ap (lacked_at a b c.loop-key.sets) (sym c.in-None.ensures.steps.0) ∙ c.loop-key.invariant ∙ lacked_is_without a b (sound_good c.args.version.now c.keys.ensures.sound) c.args.touched.now c.requires
