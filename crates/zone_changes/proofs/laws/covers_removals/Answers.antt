use Rattle.zone_changes.proofs.Covering.{covers_clear, covers_close}
use Rattle.zone_changes.proofs.SoundSets.{covers_emptied}
use Rattle.zone_changes.proofs.laws.covers_removals.Goals as goal

pub returns-clause-below : goal.returns-clause-below
returns-clause-below c = covers_clear

pub returns-clause-zone : goal.returns-clause-zone
returns-clause-zone c = covers_emptied

pub returns-clause-strays : goal.returns-clause-strays
returns-clause-strays c = covers_close
