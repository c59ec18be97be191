-- How a transfer answers each outcome: one answer for each (RFC 5936, 6; RFC 1995, 2).
use Rattle.std.specs.Prelude.{Bool, false, ◌==◌, if◌then◌else◌, ℕ, Option, Some, None, Result, Ok, Err}
use Rattle.zone_model.specs.Edits as edits
use Rattle.zone_model.specs.Updates as updates
use Rattle.xfr_model.specs.Read as faults
use Rattle.xfr_model.specs.Applying as halts
use Rattle.xfr_course.specs.Outcome as outcomes
use Rattle.dns_wire.specs.declared.builder.PushError.TheVariants as push
use Rattle.xfr_services.specs.declared.services.ServiceError.TheVariants as service
use Rattle.xfr_outcomes.specs.Refusals.{of_update}
use Rattle.xfr_outcomes.specs.declared.outcome.SyncOk.{SyncOk}
use Rattle.xfr_outcomes.specs.declared.outcome.SyncOk.TheVariants as done
use Rattle.xfr_outcomes.specs.declared.outcome.SyncError.{SyncError}
use Rattle.xfr_outcomes.specs.declared.outcome.SyncError.TheVariants as why
use Rattle.xfr_outcomes.specs.declared.protocol.Error.TheVariants as message
use Rattle.xfr_outcomes.specs.declared.protocol.IterationError.TheVariants as item
use Rattle.xfr_outcomes.specs.declared.update.Error as errors
use Rattle.xfr_outcomes.specs.declared.update.Error.TheVariants as update

-- an edit that doesn't fit the zone
abbrev pub edit_error : edits.Refusal → errors.Error
edit_error edits.OutOfZone = update.OutOfZone
edit_error edits.Incompatible = update.IncompatibleUpdate
edit_error edits.InvalidData = update.InvalidData

-- what can't be read of the checked messages, or doesn't fit
abbrev pub fault_error : faults.Fault → SyncError
fault_error faults.OtherAnswer = why.OtherAnswer
fault_error faults.NotValid = why.Xfr message.NotValidXfrResponse
fault_error faults.Malformed = why.Xfr message.Malformed
fault_error faults.Unreadable = why.Iteration item.ParseError
fault_error faults.AfterEnd = why.Iteration item.AlreadyFinished
fault_error (faults.Refused x) = why.Update (edit_error x)

-- the answer of each outcome
abbrev pub answer_of : outcomes.Outcome → Result SyncOk SyncError
answer_of outcomes.Updated = Ok done.Updated
answer_of outcomes.UpToDate = Ok done.UpToDate
answer_of outcomes.NoSoa = Err why.NoSoa
answer_of outcomes.RequestTooLong = Err (why.Request push.ShortBuf)
answer_of outcomes.LinkFault = Err why.LinkFault
answer_of outcomes.Ended = Err why.Ended
answer_of outcomes.Short = Err (why.Short (record {}))
answer_of outcomes.Primary = Err (why.Primary service.InternalError)
answer_of outcomes.TooManyMessages = Err why.TooManyMessages
answer_of (outcomes.Tsig e) = Err (why.Tsig e)
answer_of (outcomes.Reading f) = Err (fault_error f)
answer_of outcomes.RetrySignal = Err (why.Iteration item.SingleSoaIxfrTcpRetrySignal)
answer_of outcomes.VersionsExhausted = Err why.VersionsExhausted

-- ---- by the parts of a message

-- the error of an update that isn't done
abbrev pub update_error : updates.UpdateFault → errors.Error
update_error (updates.Edit x) = edit_error x
update_error updates.NotSoaRecord = update.NotSoaRecord
update_error updates.AfterFinish = update.Finished

abbrev pub halt_error : halts.Halt → errors.Error
halt_error halts.NoNumber = update.VersionsExhausted
halt_error (halts.Denied f) = update_error f

-- the error that ends a message's updates early: an update that isn't done, a fault after them, or else the retry signal
abbrev pub ending_error : Option halts.Halt → Option faults.Fault → SyncError
ending_error (Some h) f = of_update (halt_error h)
ending_error None (Some f) = fault_error f
ending_error None None = why.Iteration item.SingleSoaIxfrTcpRetrySignal

-- whether the serial found is the one that was asked with
abbrev pub same_serial : Option ℕ → Option ℕ → Bool
same_serial (Some found) (Some asked) = asked == found
same_serial found asked = false

-- what that error is answered as: the retry signal with the serial that was asked with says that nothing is newer (RFC 1995, 2)
abbrev pub settled : Option ℕ → Option ℕ → SyncError → Result (Option SyncOk) SyncError
settled found asked (why.Iteration item.SingleSoaIxfrTcpRetrySignal) = if same_serial found asked then Ok (Some done.UpToDate) else Err (why.Iteration item.SingleSoaIxfrTcpRetrySignal)
settled found asked e = Err e
