-- What an interpreter keeps, and what one message makes of it.
use Rattle.std.specs.Prelude.{◌≡◌, ℕ, Bool, true, false, ◌||◌, ◌&&◌, ◌==◌, not, nat_le, if◌then◌else◌, List, [], ◌∷◌, length, map, Option, Some, None, option_map, Result, Ok, Err}
use Rattle.dns_wire.specs.Wire.{Header, Question, header_in, qdcount_in, ancount_in, nscount_in}
use Rattle.dns_wire.specs.Parse.{Parsed, parsed, questions_in, sole_question_in, answers_start, answer_readings}
use Rattle.dns_rdata.specs.Heads.{RawRecord, readable}
use Rattle.xfr_model.specs.Messages.{ReadMessage, as_read}
use Rattle.xfr_model.specs.Read.{Fault, NotValid, Malformed, message_fault, record_item, asks_transfer}
use Rattle.zone_model.specs.TransferText.{Axfr, Ixfr, is_soa}
use Rattle.dns_rdata.specs.Records.{Record}
use Rattle.zone_model.specs.Updates.{Update, DeleteAllRecords}
use Rattle.xfr_model.specs.Interpreter.{mode_asked}
use Rattle.xfr_model.specs.Machine.{Run, run_items, is_at_end, first_step}
use Rattle.xfr_model.specs.Machine as machine
use Rattle.xfr_client.specs.declared.interpreter_state.Place.{Place}
use Rattle.xfr_outcomes.specs.declared.protocol.Error.{Error}
use Rattle.xfr_outcomes.specs.declared.protocol.Error.TheVariants as error
use Rattle.xfr_client.specs.Places.{place_of, is_at_second}
use Rattle.xfr_client.specs.Items.{item_in}
use Rattle.xfr_client.specs.Rest.{Rest, asks_again}

-- whether a message was taken, the place in the text, and whether the first message asked for another way of transfer
pub record Interpreting : Type 0 where
  pub begun : Bool
  pub place : machine.Place
  pub signalled : Bool

abbrev pub interpreting_of : Option Place → Bool → Interpreting
interpreting_of None signalled = record { begun = false; place = machine.AtStart; signalled = signalled }
interpreting_of (Some p) signalled = record { begun = true; place = place_of p; signalled = signalled }

-- whether no further message is taken
abbrev pub is_over : Interpreting → Bool
is_over i = i.signalled || is_at_end i.place

-- an answer record as it is read; None where none can be read
abbrev pub answer_here : List ℕ → Option RawRecord → Option Record
answer_here octets None = None
answer_here octets (Some raw) = readable octets raw

-- what octets say up to the end of their answers, whatever stands after those: the records up to the first place where none stands
abbrev pub sections_here : List ℕ → ReadMessage
sections_here octets = record { header = header_in octets; questions = questions_in octets; answers = map (answer_here octets) (answer_readings octets); authority = nscount_in octets }

-- a message that these octets say, as far as a reader of the answers sees it
pub record IsReadAs (octets : List ℕ) (m : ReadMessage) : Type 0 where
  pub header : m.header ≡ header_in octets
  pub questions : length m.questions ≡ qdcount_in octets
  pub answers : (length m.answers == 0) ≡ (ancount_in octets == 0)
  pub authority : m.authority ≡ nscount_in octets
  pub begins : answers_start octets ≡ None → ⊥
  pub items : map (item_in octets) (answer_readings octets) ≡ map record_item m.answers
  pub sole : qdcount_in octets ≡ 1 → (q : Question) × (m.questions ≡ q ∷ []) × (sole_question_in octets ≡ Some q)

-- the run that a message without a fault makes
abbrev pub run_from : Interpreting → ReadMessage → Run
run_from i m = run_items (mode_asked m.questions) i.place (map record_item m.answers)

-- a message that is taken: what its iterator tells, and where the interpreter then stands
pub record Interprets (i : Interpreting) (m : ReadMessage) (rest : Rest) (j : Interpreting) : Type 0 where
  pub open_still : is_over i ≡ false
  pub faultless : message_fault (not i.begun) m ≡ None
  pub tells : rest ≡ record { run = run_from i m; retry = asks_again (not i.begun) (run_from i m) }
  pub stands : j ≡ record { begun = true; place = (run_from i m).place; signalled = asks_again (not i.begun) (run_from i m) }

-- the flags of a good answer (RFC 5936, 2.2.1)
abbrev pub good_header : Header → Bool
good_header h = h.qr && (h.opcode == 0) && not h.tc && (h.rcode == 0)

-- the counts of a transfer's reply (RFC 5936, 2.2)
abbrev pub good_counts : Bool → ℕ → ℕ → ℕ → Bool
good_counts first questions answers authority = not (answers == 0) && (authority == 0) && (if first then questions == 1 else nat_le questions 1)

-- whether header and counts of octets are those of a transfer's reply
abbrev pub good_head : Bool → List ℕ → Bool
good_head first octets = good_header (header_in octets) && good_counts first (qdcount_in octets) (ancount_in octets) (nscount_in octets)

-- why octets aren't taken whose answer section can't be reached
abbrev pub unreached_fault : Bool → List ℕ → Error
unreached_fault first octets = if good_head first octets then error.ParseError else error.NotValidXfrResponse

abbrev pub unreached : Interpreting → List ℕ → Error
unreached i octets = if is_over i then error.Finished else unreached_fault (not i.begun) octets

-- why a message isn't taken
abbrev pub Refuses : Interpreting → ReadMessage → Error → Type 0
Refuses i m error.Finished = is_over i ≡ true
Refuses i m error.NotValidXfrResponse = (is_over i ≡ false) × (message_fault (not i.begun) m ≡ Some NotValid)
Refuses i m error.Malformed = (is_over i ≡ false) × (message_fault (not i.begun) m ≡ Some Malformed)
Refuses i m error.ParseError = ⊥

-- a fault of a message, as an error
abbrev pub IsFault : Option Fault → Error → Type 0
IsFault f error.Finished = ⊥
IsFault f error.NotValidXfrResponse = f ≡ Some NotValid
IsFault f error.Malformed = f ≡ Some Malformed
IsFault f error.ParseError = ⊥

-- whether the question asks for changes, where it asks for a transfer
abbrev pub Asks : ReadMessage → Result Bool Error → Type 0
Asks m (Ok b) = (asks_transfer m.questions ≡ true) × (mode_asked m.questions ≡ (if b then Ixfr else Axfr))
Asks m (Err e) = (asks_transfer m.questions ≡ false) × (e ≡ error.Malformed)

-- where a first message leads after its first record
pub record Begins (m : ReadMessage) (p : Place) : Type 0 where
  pub first : Record
  pub others : List (Option Record)
  pub answers : m.answers ≡ Some first ∷ others
  pub faultless : message_fault true m ≡ None
  pub stands : place_of p ≡ (first_step (mode_asked m.questions) first).place

abbrev pub BeginsAt : ReadMessage → Result Place Error → Type 0
BeginsAt m (Ok p) = Begins m p
BeginsAt m (Err e) = IsFault (message_fault true m) e

-- where a first record leads, if it is an SOA
abbrev pub IsPlaceAt : Bool → Record → Result Place Error → Type 0
IsPlaceAt b r (Ok p) = (is_soa r ≡ true) × (place_of p ≡ (first_step (if b then Ixfr else Axfr) r).place)
IsPlaceAt b r (Err e) = (is_soa r ≡ false) × (e ≡ error.NotValidXfrResponse)

-- a message that is taken at a place: what its iterator tells, where the interpreter then stands, and whether it was asked again
pub record Taken (first : Bool) (p : machine.Place) (m : ReadMessage) (rest : Rest) (behind : Place) (signalled : Bool) : Type 0 where
  pub faultless : message_fault first m ≡ None
  pub tells : rest ≡ record { run = run_items (mode_asked m.questions) p (map record_item m.answers); retry = asks_again first (run_items (mode_asked m.questions) p (map record_item m.answers)) }
  pub stands : place_of behind ≡ (run_items (mode_asked m.questions) p (map record_item m.answers)).place
  pub signals : signalled ≡ asks_again first (run_items (mode_asked m.questions) p (map record_item m.answers))

abbrev pub TakenOr : Bool → machine.Place → ReadMessage → Result (Rest × Place × Bool) Error → Type 0
TakenOr first p m (Ok r) = Taken first p m r.0 r.1 r.2
TakenOr first p m (Err e) = IsFault (message_fault first m) e

-- what the first record says
abbrev pub told_first : machine.Place → List Update
told_first p = if is_at_second p then [] else DeleteAllRecords ∷ []
