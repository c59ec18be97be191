-- A transfer as far as it is built: what is asked, what is checked of the replies, and the course that they make (RFC 8945, 5.3; RFC 5936, 2.2).
use Rattle.std.specs.Prelude.{◌≡◌, ℕ, ◌<◌, ◌≤◌, min, length, ◌%◌, ◌^◌, Bool, true, false, not, List, [], ◌∷◌, map, Option, None, option_map, unwrap_or, Result, Ok, Err}
use Rattle.dns_rdata.specs.Records.{Record}
use Rattle.dns_rdata.specs.Soa.{serial_of}
use Rattle.dns_wire.specs.Wire.{header_in, header_of, Building, Question, same_question, Message, message_wire}
use Rattle.dns_wire.specs.Builds.{Pushes}
use Rattle.tsig_port.specs.Tsig.{TsigKey, request_tsig, signed_request}
use Rattle.tsig_port.specs.Checked.{answer_fault, taken_message, passing, first_fault}
use Rattle.tsig_port.specs.declared.errors.ValidationError.{ValidationError}
use Rattle.zone_model.specs.Version.{Version, apex_soa}
use Rattle.zone_model.specs.Answer.{apex_soa_record}
use Rattle.zone_model.specs.Commits.{Commit}
use Rattle.zone_model.specs.TransferText.{Mode, Axfr, Ixfr}
use Rattle.xfr_model.specs.Messages.{ReadMessage, type_of, message_of}
use Rattle.dns_wire.specs.declared.builder.PushError.{PushError}
use Rattle.dns_wire.specs.declared.builder.PushError.TheVariants.{ShortBuf}
use Rattle.xfr_outcomes.specs.declared.outcome.SyncError.{SyncError}
use Rattle.xfr_outcomes.specs.declared.outcome.SyncError.TheVariants as why
use Rattle.xfr_course.specs.Outcome.{Outcome, Ended, Checked, Course, needs_soa}
use Rattle.xfr_course.specs.Courses.{replies_taken, stop_after}
use Rattle.xfr_course.specs.Client.{Client, new_client, take_course}
use Rattle.xfr_client.specs.RecordForms.{HaveForms}

-- ---- the request

-- a message that only asks: all flags 0, and one question (RFC 5936, 2.1)
abbrev pub asking : ℕ → Question → List Record → Message
asking id q authority = record { header = header_of id 0; questions = q ∷ []; answers = []; authority = authority; additional = [] }

-- what a request tells of a version: nothing where the whole zone is asked for, else the first apex SOA record, and by it the serial (RFC 1995, 3)
abbrev pub authority_of : Mode → Version → List Record
authority_of Axfr v = []
authority_of Ixfr v = apex_soa_record v

abbrev pub told_serial : Mode → Version → Option ℕ
told_serial Axfr v = None
told_serial Ixfr v = option_map serial_of (apex_soa v)

-- what a secondary asks with: key, mode, moment, and the commit that is current as it asks
pub record Asking : Type 0 where
  pub key : TsigKey
  pub mode : Mode
  pub at : ℕ
  pub base : Commit

abbrev pub asks_with : TsigKey → Mode → ℕ → Commit → Asking
asks_with key mode at base = record { key = key; mode = mode; at = at; base = base }

abbrev pub asked_question : Asking → Question
asked_question a = record { qname = a.base.version.apex; qtype = type_of a.mode; qclass = a.base.version.class }

abbrev pub asked_authority : Asking → List Record
asked_authority a = authority_of a.mode a.base.version

abbrev pub asked_serial : Asking → Option ℕ
asked_serial a = told_serial a.mode a.base.version

-- the id is the low 16 bits of the moment
abbrev pub asked_id : Asking → ℕ
asked_id a = a.at % 2 ^ 16

-- the request before it is signed
abbrev pub request_message : Asking → Message
request_message a = asking (asked_id a) (asked_question a) (asked_authority a)

-- the request, signed with the fudge of 300 seconds, and its MAC
unfoldable pub asked_octets : Asking → List ℕ
asked_octets a = signed_request a.key (message_wire (request_message a)) a.at 300

unfoldable pub asked_mac : Asking → List ℕ
asked_mac a = (request_tsig a.key (message_wire (request_message a)) a.at 300).mac

-- whether there is an SOA to ask with, where one is needed
abbrev pub lacks_soa : Asking → Bool
lacks_soa a = needs_soa a.mode a.base.version

-- the request can be made: it doesn't lack an SOA, is no longer than the link and a message allow, and its authority is a record that a version stores
pub record CanAsk (a : Asking) (longest : ℕ) : Type 0 where
  pub soa : lacks_soa a ≡ false
  pub fits : length (asked_octets a) ≤ min longest 65535
  pub forms : HaveForms (asked_authority a)

-- why it can't, by the error; want of memory may come in either case
abbrev pub CantAsk : Asking → ℕ → SyncError → Type 0
CantAsk a longest why.NoSoa = lacks_soa a ≡ true
CantAsk a longest (why.Request ShortBuf) = (lacks_soa a ≡ false) × (min longest 65535 < length (asked_octets a))
CantAsk a longest why.Memory = Unit {0}
CantAsk a longest e = ⊥

-- the serial to ask with, or that there is no SOA
abbrev pub AsksWith : Mode → Version → Result (Option ℕ) SyncError → Type 0
AsksWith mode v (Ok serial) = (needs_soa mode v ≡ false) × (serial ≡ told_serial mode v)
AsksWith mode v (Err e) = (needs_soa mode v ≡ true) × (e ≡ why.NoSoa)

-- the first of these records is added, if there is one
abbrev pub PushesFirst : ℕ → List Record → Building → Result (Unit {0}) PushError → Building → Type 0
PushesFirst k [] old result new = (result ≡ Ok tt) × (new ≡ old)
PushesFirst k (r ∷ more) old result new = Pushes k r old result new

-- want of memory, or a message that is longer than it may be
abbrev pub IsTooLong : ℕ → List ℕ → SyncError → Type 0
IsTooLong most octets why.Memory = Unit {0}
IsTooLong most octets (why.Request ShortBuf) = most < length octets
IsTooLong most octets e = ⊥

-- ---- replies

-- whether the questions of a reply are one, which isn't the request's (RFC 5936, 2.2.1)
abbrev pub asks_other : Question → List Question → Bool
asks_other q [] = false
asks_other q (p ∷ []) = not (same_question q p)
asks_other q (p ∷ r ∷ more) = false

-- a message that parsed as it came and no longer does (a name in it points into the header) is read as its header alone
abbrev pub header_alone : List ℕ → ReadMessage
header_alone octets = record { header = header_in octets; questions = []; answers = []; authority = 0 }

unfoldable pub message_so_far : List ℕ → ReadMessage
message_so_far octets = unwrap_or (message_of octets) (header_alone octets)

-- a checked message as it is read: after it was taken, without its TSIG and with its original id
unfoldable pub checked_so_far : List ℕ → Checked
checked_so_far m = record { message = message_so_far (taken_message m) }

-- the first test that an answer fails after those taken before it
unfoldable pub fault_so_far : Asking → List (List ℕ) → List ℕ → Option ValidationError
fault_so_far a taken m = answer_fault a.key (asked_mac a) a.at taken m

-- ---- the course

abbrev pub asked_course : Asking → List Checked → Outcome → Course
asked_course a checked stop = record { mode = a.mode; id = asked_id a; question = asked_question a; base = a.base.version; number = a.base.number; checked = checked; stop = stop }

-- the course of a transfer in which the link handed these replies, and gave that in place of a further one
unfoldable pub course_so_far : Asking → List (List ℕ) → Outcome → Course
course_so_far a replies gave_up = asked_course a
    (map checked_so_far (passing (fault_so_far a) [] (replies_taken replies)))
    (stop_after gave_up replies (first_fault (fault_so_far a) [] (replies_taken replies)))

-- the client that has taken these replies, each of which passed
unfoldable pub client_so_far : Asking → List (List ℕ) → Client
client_so_far a taken = take_course (asked_course a [] Ended) (new_client (asked_course a [] Ended)) (map checked_so_far taken)
