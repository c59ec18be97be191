-- The interpreter as a machine that keeps a place: what one record, a list of records, and messages in turn make (RFC 5936, 2.2; RFC 1995, 4).
use Rattle.std.specs.Prelude.{◌≡◌, ℕ, Bool, true, false, ◌||◌, not, if◌then◌else◌, List, [], ◌∷◌, ◌++◌, Option, Some, None, is_some}
use Rattle.std.specs.Option.{option_or}
use Rattle.dns_rdata.specs.Records.{Record}
use Rattle.dns_rdata.specs.Soa.{serial_of}
use Rattle.xfr_model.specs.Messages.{ReadMessage}
use Rattle.zone_model.specs.TransferText.{Mode, Axfr, Ixfr, Text, is_soa, is_same_soa, ending, read_text}
use Rattle.zone_model.specs.Updates.{Update, DeleteAllRecords, DeleteRecord, AddRecord, BeginBatchDelete, BeginBatchAdd, Finished, updates_of}
use Rattle.xfr_model.specs.Read.{Fault, AfterEnd, Item, Good, Bad, good_records, items_of, after_end, ReadText, message_fault, read_by, retry}
use Rattle.xfr_model.specs.Interpreter.{mode_of, updates_in, new_updates, iteration_fault, is_finished, next_fault}

-- where an interpreter stands in a text; the record is the text's first one
pub data Place : Type 0 where
  AtStart : Place
  AtSecond : (first : Record) → Place
  InWhole : (first : Record) → Place
  InDeletes : (first : Record) → Place
  InAdds : (first : Record) → Place
  AtEnd : Place

abbrev pub is_at_end : Place → Bool
is_at_end AtStart = false
is_at_end (AtSecond s) = false
is_at_end (InWhole s) = false
is_at_end (InDeletes s) = false
is_at_end (InAdds s) = false
is_at_end AtEnd = true

-- what records make: the place after them, the updates that they say, and the first fault
pub record Run : Type 0 where
  pub place : Place
  pub updates : List Update
  pub fault : Option Fault

abbrev pub went : Place → List Update → Run
went p us = record { place = p; updates = us; fault = None }

-- an SOA where deletes would begin: the end, or a batch
abbrev pub end_or_batch : Record → Record → Run
end_or_batch s r = if is_same_soa s r then went AtEnd (Finished r ∷ []) else went (InDeletes s) (BeginBatchDelete r ∷ [])

-- the first record: a whole text begins by deleting all, another may yet be of either form
abbrev pub first_step : Mode → Record → Run
first_step Axfr r = went (InWhole r) (DeleteAllRecords ∷ [])
first_step Ixfr r = went (AtSecond r) []

-- one record
abbrev pub step : Mode → Place → Record → Run
step mode AtStart r = first_step mode r
step mode (AtSecond s) r = if is_soa r then end_or_batch s r else went (InWhole s) (DeleteAllRecords ∷ AddRecord r ∷ [])
step mode (InWhole s) r = if is_same_soa s r then went AtEnd (Finished r ∷ []) else went (InWhole s) (AddRecord r ∷ [])
step mode (InDeletes s) r = if is_soa r then went (InAdds s) (BeginBatchAdd r ∷ []) else went (InDeletes s) (DeleteRecord r ∷ [])
step mode (InAdds s) r = if is_soa r then end_or_batch s r else went (InAdds s) (AddRecord r ∷ [])
step mode AtEnd r = record { place = AtEnd; updates = []; fault = Some AfterEnd }

-- one run, and then another from its place
abbrev pub then_run : Run → Run → Run
then_run a b = record { place = b.place; updates = a.updates ++ b.updates; fault = option_or a.fault b.fault }

-- records in turn
abbrev pub run : Mode → Place → List Record → Run
run mode p [] = went p []
run mode p (r ∷ more) = then_run (step mode p r) (run mode (step mode p r).place more)

-- the law of the machine: what it makes of a list is what the text says that the list is read as
pub record RunSays (a : Run) (t : Text) : Type 0 where
  pub updates : a.updates ≡ updates_of t
  pub ended : is_at_end a.place ≡ is_some (ending t)
  pub fault : a.fault ≡ after_end (ending t)

abbrev pub RunsText : Type 0
RunsText = (mode : Mode) (s : Record) (more : List Record) → RunSays (run mode AtStart (s ∷ more)) (read_text mode s more)

-- .. and over two lists it runs on
abbrev pub RunsOn : Type 0
RunsOn = (mode : Mode) (p : Place) (xs ys : List Record) → run mode p (xs ++ ys) ≡ then_run (run mode p xs) (run mode (run mode p xs).place ys)

-- Messages.

-- the items of a message in turn, up to the first that isn't a record
abbrev pub run_items : Mode → Place → List Item → Run
run_items mode p [] = went p []
run_items mode p (Good r ∷ more) = then_run (step mode p r) (run_items mode (step mode p r).place more)
run_items mode p (Bad f ∷ more) = record { place = p; updates = []; fault = Some f }

-- what a reader of messages keeps: whether one was taken, and its place; and what it told so far, with the records that it read, its fault and the serial of a retry signal
pub record Reader : Type 0 where
  pub begun : Bool
  pub place : Place
  pub told : List Update
  pub records : List Record
  pub fault : Option Fault
  pub signal : Option ℕ

abbrev pub new_reader : Reader
new_reader = record { begun = false; place = AtStart; told = []; records = []; fault = None; signal = None }

-- whether a reader takes no further message
abbrev pub is_done : Reader → Bool
is_done rd = is_some rd.signal || is_some rd.fault || is_at_end rd.place

-- the serial of the SOA, if it is all that was read and the text may yet be of either form (RFC 1995, 2 and 4)
abbrev pub lone_serial : Place → Option ℕ
lone_serial AtStart = None
lone_serial (AtSecond s) = if is_soa s then Some (serial_of s.fields) else None
lone_serial (InWhole s) = None
lone_serial (InDeletes s) = None
lone_serial (InAdds s) = None
lone_serial AtEnd = None

-- the retry signal after a first message without a fault
abbrev pub signal_of : Bool → Run → Option ℕ
signal_of begun a = if begun || is_some a.fault then None else lone_serial a.place

abbrev pub reader_after : Reader → List Item → Run → Reader
reader_after rd items a = record { begun = true; place = a.place; told = rd.told ++ a.updates; records = rd.records ++ good_records items; fault = a.fault; signal = signal_of rd.begun a }

-- the items of a next message, tested as a first one if it is
abbrev pub next_items : (Bool → ReadMessage → Option Fault) → Bool → ReadMessage → List Item
next_items fault_of begun m = items_of (fault_of (not begun)) m

abbrev pub take_message : Mode → (Bool → ReadMessage → Option Fault) → Reader → ReadMessage → Reader
take_message mode fault_of rd m =
    if is_done rd then rd
    else reader_after rd (next_items fault_of rd.begun m) (run_items mode rd.place (next_items fault_of rd.begun m))

abbrev pub take_messages : Mode → (Bool → ReadMessage → Option Fault) → Reader → List ReadMessage → Reader
take_messages mode fault_of rd [] = rd
take_messages mode fault_of rd (m ∷ more) = take_messages mode fault_of (take_message mode fault_of rd m) more

-- the law of messages in turn: where no retry is signalled, a reader that takes them one by one has read what is read of the whole list
pub record ReaderSays (mode : Mode) (rd : Reader) (t : ReadText) : Type 0 where
  pub records : rd.records ≡ t.records
  pub ended : is_at_end rd.place ≡ t.ended
  pub fault : rd.fault ≡ t.fault
  pub told : rd.told ≡ updates_in mode t.records

abbrev pub ReadsInTurn : Type 0
ReadsInTurn = (mode : Mode) (fault_of : Bool → ReadMessage → Option Fault) (ms : List ReadMessage) → retry mode fault_of ms ≡ None → ReaderSays mode (take_messages mode fault_of new_reader ms) (read_by mode fault_of ms)

-- .. a retry is signalled exactly where the messages signal one
abbrev pub SignalsRetry : Type 0
SignalsRetry = (mode : Mode) (fault_of : Bool → ReadMessage → Option Fault) (ms : List ReadMessage) → (take_messages mode fault_of new_reader ms).signal ≡ retry mode fault_of ms

-- .. and then nothing was told
pub record TellsNothing (rd : Reader) : Type 0 where
  pub ended : is_at_end rd.place ≡ false
  pub fault : rd.fault ≡ None
  pub told : rd.told ≡ []

abbrev pub RetryTellsNothing : Type 0
RetryTellsNothing = (mode : Mode) (fault_of : Bool → ReadMessage → Option Fault) (ms : List ReadMessage) (n : ℕ) → retry mode fault_of ms ≡ Some n → TellsNothing (take_messages mode fault_of new_reader ms)

-- messages may be taken in two lots
abbrev pub TakesOn : Type 0
TakesOn = (mode : Mode) (fault_of : Bool → ReadMessage → Option Fault) (rd : Reader) (ms more : List ReadMessage) → take_messages mode fault_of rd (ms ++ more) ≡ take_messages mode fault_of (take_messages mode fault_of rd ms) more

abbrev pub no_messages : List ReadMessage → Bool
no_messages [] = true
no_messages (m ∷ more) = false

-- one message more, where a reader isn't done: what it adds to what is read of those before it
abbrev pub next_run : Mode → (Bool → ReadMessage → Option Fault) → Reader → ReadMessage → Run
next_run mode fault_of rd m = run_items mode rd.place (next_items fault_of rd.begun m)

pub record NextSays (mode : Mode) (fault_of : Bool → ReadMessage → Option Fault) (ms : List ReadMessage) (m : ReadMessage) (begun : Bool) (a : Run) : Type 0 where
  pub told : updates_in mode (read_by mode fault_of (ms ++ m ∷ [])).records ≡ updates_in mode (read_by mode fault_of ms).records ++ a.updates
  pub ended : (read_by mode fault_of (ms ++ m ∷ [])).ended ≡ is_at_end a.place
  pub fault : (read_by mode fault_of (ms ++ m ∷ [])).fault ≡ a.fault
  pub signal : retry mode fault_of (ms ++ m ∷ []) ≡ signal_of begun a
  pub first : begun ≡ not (no_messages ms)

abbrev pub ReadsNext : Type 0
ReadsNext = (mode : Mode) (fault_of : Bool → ReadMessage → Option Fault) (ms : List ReadMessage) (m : ReadMessage) → is_done (take_messages mode fault_of new_reader ms) ≡ false
    → NextSays mode fault_of ms m (take_messages mode fault_of new_reader ms).begun (next_run mode fault_of (take_messages mode fault_of new_reader ms) m)

-- the same in the interpreter's own words
abbrev pub reader_behind : List ReadMessage → ReadMessage → Reader
reader_behind ms m = take_messages (mode_of (ms ++ m ∷ [])) message_fault new_reader ms

abbrev pub run_behind : List ReadMessage → ReadMessage → Run
run_behind ms m = next_run (mode_of (ms ++ m ∷ [])) message_fault (reader_behind ms m) m

pub record InterpreterSays (ms : List ReadMessage) (m : ReadMessage) (begun : Bool) (a : Run) : Type 0 where
  pub updates : new_updates ms m ≡ a.updates
  pub fault : iteration_fault ms m ≡ a.fault
  pub finished : is_finished (ms ++ m ∷ []) ≡ (is_at_end a.place || is_some (signal_of begun a))
  pub message : next_fault ms m ≡ message_fault (not begun) m

abbrev pub InterpreterSteps : Type 0
InterpreterSteps = (ms : List ReadMessage) (m : ReadMessage) → is_done (reader_behind ms m) ≡ false → InterpreterSays ms m (reader_behind ms m).begun (run_behind ms m)

-- an interpreter is finished exactly where its reader has signalled a retry or is at the end
abbrev pub FinishesAsRead : Type 0
FinishesAsRead = (ms : List ReadMessage) → is_finished ms ≡ (is_some (take_messages (mode_of ms) message_fault new_reader ms).signal || is_at_end (take_messages (mode_of ms) message_fault new_reader ms).place)

-- the updates of a list begin with those of its first part
abbrev pub UpdatesOn : Type 0
UpdatesOn = (mode : Mode) (xs ys : List Record) → updates_in mode (xs ++ ys) ≡ updates_in mode xs ++ (run mode (run mode AtStart xs).place ys).updates
