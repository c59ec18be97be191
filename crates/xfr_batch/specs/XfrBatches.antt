-- The batches of a transfer: how its messages begin, when one is full, and what is kept of them (RFC 5936, 2.2; RFC 1995, 4).
use Rattle.std.specs.Prelude.{◌≡◌, ℕ, Bool, true, false, ◌&&◌, not, nat_le, List, [], ◌∷◌, ◌++◌, Option, Some, None, Result, Ok, Err}
use Rattle.dns_wire.specs.Wire.{Building, Header, header_in, ancount_in}
use Rattle.dns_wire.specs.Parse.{questions_in}
use Rattle.dns_wire.specs.Reply.{answer_header}
use Rattle.dns_wire.specs.declared.builder.PushError.{PushError}
use Rattle.dns_wire.specs.declared.builder.PushError.TheVariants.{ShortBuf, CountOverflow, Memory as NoMemoryToPush}
use Rattle.xfr_batch.specs.Batches.{Beginning}
use Rattle.xfr_batch.specs.ReadyMessages.{Kept}
use Rattle.xfr_batch.specs.declared.batcher.PushResult.{PushResult}
use Rattle.xfr_batch.specs.declared.xfr.BatchReadyError.{BatchReadyError}
use Rattle.xfr_batch.specs.declared.xfr.BatchReadyError.TheVariants.{PushError as NotPushed, SendError, MustFitInSingleMessage, Memory}

-- the header of a message of a transfer: id and RD of the request, QR and AA set, a query's opcode, NOERROR (RFC 5936, 2.2.1)
abbrev pub axfr_header : Header → Header
axfr_header request = record (answer_header request 0) { opcode = 0; aa = true }

-- how many octets a message may have
abbrev pub push_limit : Option ℕ → ℕ
push_limit None = 65535
push_limit (Some limit) = limit

-- what each message begins with: that header and the request's questions
abbrev pub transfer_begins : Kept → List ℕ → Beginning
transfer_begins s request = record { header = axfr_header (header_in request); questions = questions_in request; answers = []; limit = push_limit s.soft_byte_limit }

-- whether so many records are as many as a message may have
abbrev pub has_reached : Option ℕ → ℕ → Bool
has_reached None n = false
has_reached (Some limit) n = nat_le limit n

abbrev pub transfer_is_full : Kept → Building → Bool
transfer_is_full s m = has_reached s.hard_rr_limit (ancount_in m.octets)

-- whether a message is one too many: others follow it, and one is all that may be sent
abbrev pub is_one_of_many : Kept → Bool → Bool
is_one_of_many s last = s.must_fit && not last

-- one case for each answer: the message is kept behind those that are ready, or nothing changes
abbrev pub TransferReadies : Kept → Building → Bool → Result (Unit {0}) BatchReadyError → Kept → Type 0
TransferReadies s m last (Ok u) t = (is_one_of_many s last ≡ false) × (t ≡ record s { ready = s.ready ++ m ∷ [] })
TransferReadies s m last (Err MustFitInSingleMessage) t = (is_one_of_many s last ≡ true) × (t ≡ s)
TransferReadies s m last (Err Memory) t = (is_one_of_many s last ≡ false) × (t ≡ s)
TransferReadies s m last (Err SendError) t = ⊥
TransferReadies s m last (Err (NotPushed e)) t = ⊥

-- what is told where a record can't be pushed
abbrev pub batch_error_of : PushError → BatchReadyError
batch_error_of ShortBuf = NotPushed ShortBuf
batch_error_of CountOverflow = NotPushed CountOverflow
batch_error_of NoMemoryToPush = Memory

-- what a push answers, by whether an empty message has room for the record, and whether all must fit one message
abbrev pub AnswersPush : Bool → Bool → Result PushResult BatchReadyError → Type 0
AnswersPush room must_fit (Ok pushed) = room ≡ true
AnswersPush room must_fit (Err (NotPushed e)) = (room ≡ false) × (e ≡ ShortBuf)
AnswersPush room must_fit (Err MustFitInSingleMessage) = must_fit ≡ true
AnswersPush room must_fit (Err Memory) = Unit {0}
AnswersPush room must_fit (Err SendError) = ⊥

-- the first of the messages that are ready, taken out
abbrev pub TakesReady : Kept → Option Building → Kept → Type 0
TakesReady old None new = (old.ready ≡ []) × (new ≡ old)
TakesReady old (Some m) new = old ≡ record new { ready = m ∷ new.ready }
