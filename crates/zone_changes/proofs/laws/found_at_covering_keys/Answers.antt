use Rattle.zone_changes.proofs.Changing.{lacked_is_without}
use Rattle.zone_changes.proofs.SoundSets.{sound_good}
use Rattle.zone_changes.proofs.laws.found_at_covering_keys.Goals as goal

pub returns : goal.returns
returns c keys v w s h = lacked_is_without v.sets w.sets (sound_good v s) keys h
