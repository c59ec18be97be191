-- Kinds and obstacles of the code, as the definitions have them.
use Rattle.std.specs.Prelude.{Result, Ok, Err}
use Rattle.zone_model.specs.Classify as model
use Rattle.zone_model.specs.Classify.{Kind, BadRecord, RecordVerdict}
use Rattle.zone_records.specs.declared.kinds.RecordKind.{RecordKind}
use Rattle.zone_records.specs.declared.kinds.RecordKind.TheVariants.{Normal, Cut, Alias, Outside}
use Rattle.zone_records.specs.declared.kinds.Obstacle.{Obstacle}
use Rattle.zone_records.specs.declared.kinds.Obstacle.TheVariants.{ClassMismatch, IllegalZoneCut, IllegalRecord, IllegalCname, MultipleCnames}

abbrev pub kind_seen : RecordKind → Kind
kind_seen Normal = model.Normal
kind_seen Cut = model.Cut
kind_seen Alias = model.Alias
kind_seen Outside = model.Outside

abbrev pub why_seen : Obstacle → BadRecord
why_seen ClassMismatch = model.ClassMismatch
why_seen (IllegalZoneCut rtype) = model.IllegalZoneCut rtype
why_seen (IllegalRecord rtype) = model.IllegalRecord rtype
why_seen (IllegalCname rtype) = model.IllegalCname rtype
why_seen MultipleCnames = model.MultipleCnames

abbrev pub verdict_seen : Result RecordKind Obstacle → RecordVerdict
verdict_seen (Ok kind) = model.Accepted (kind_seen kind)
verdict_seen (Err why) = model.Rejected (why_seen why)
