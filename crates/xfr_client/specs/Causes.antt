-- The refusals of the calls, as those of the definitions.
use Rattle.std.specs.Prelude.{Option, Some, None, Result, Ok, Err}
use Rattle.zone_model.specs.Edits as edits
use Rattle.zone_model.specs.Updates as updates
use Rattle.xfr_model.specs.Read as faults
use Rattle.xfr_outcomes.specs.declared.update.Error.{Error}
use Rattle.xfr_outcomes.specs.declared.update.Error.TheVariants as error
use Rattle.xfr_outcomes.specs.declared.protocol.Error as protocol
use Rattle.xfr_outcomes.specs.declared.protocol.Error.TheVariants as refusal

-- why an update is refused; want of memory, and of a version's number, is no refusal of the update
abbrev pub update_fault_of : Error → Option updates.UpdateFault
update_fault_of error.OutOfZone = Some (updates.Edit edits.OutOfZone)
update_fault_of error.NotSoaRecord = Some updates.NotSoaRecord
update_fault_of error.IncompatibleUpdate = Some (updates.Edit edits.Incompatible)
update_fault_of error.InvalidData = Some (updates.Edit edits.InvalidData)
update_fault_of error.VersionsExhausted = None
update_fault_of error.Finished = Some updates.AfterFinish
update_fault_of error.Memory = None

-- what want of memory may stand in the place of: an update that could be done, or the refusal of an edit, whose record is put in memory of its
-- own before it is tested
abbrev pub HidesEdit : Result updates.Progress updates.UpdateFault → Type 0
HidesEdit (Ok p) = Unit {0}
HidesEdit (Err (updates.Edit why)) = Unit {0}
HidesEdit (Err updates.NotSoaRecord) = ⊥
HidesEdit (Err updates.AfterFinish) = ⊥

-- why a message is refused by itself; that the end was read before isn't told of the message
abbrev pub message_fault_of : protocol.Error → Option faults.Fault
message_fault_of refusal.ParseError = None
message_fault_of refusal.NotValidXfrResponse = Some faults.NotValid
message_fault_of refusal.Malformed = Some faults.Malformed
message_fault_of refusal.Finished = None
