-- Updates applied one by one: up to the first refusal, within the numbers left, and record by record (RFC 5936, 6; RFC 1995, 4).
use Rattle.std.specs.Prelude.{◌≡◌, ℕ, Bool, true, false, ◌++◌, ◌+◌, ◌-◌, ◌≤◌, ◌==◌, ◌&&◌, nat_lt, if◌then◌else◌, List, [], ◌∷◌, length, take, Option, Some, None, is_some, Result, Ok, Err}
use Rattle.std.specs.Option.{option_map}
use Rattle.dns_rdata.specs.Records.{Record}
use Rattle.zone_model.specs.Version.{Version}
use Rattle.zone_model.specs.Edits.{Refusal}
use Rattle.dns_wire.specs.Wire.{Question}
use Rattle.xfr_model.specs.Messages.{ReadMessage, type_of}
use Rattle.zone_model.specs.TransferText.{Mode, Text, is_text}
use Rattle.zone_model.specs.Spells.{Spelling, spell_text, spelling}
use Rattle.zone_model.specs.Updates.{Update, DeleteAllRecords, DeleteRecord, AddRecord, BeginBatchDelete, BeginBatchAdd, Finished, Progress, UpdateFault, Edit, apply_update, begin, updates_of}
use Rattle.xfr_model.specs.Interpreter.{mode_of, updates_in}
use Rattle.xfr_model.specs.Read.{Item, Good, Bad, Fault, request_fault}
use Rattle.xfr_model.specs.Machine.{Place, Run, step, run_items}

-- where updates in turn lead, up to the first that is refused
pub record Applied : Type 0 where
  pub progress : Progress
  pub refused : Option UpdateFault

abbrev pub unless_refused : Progress → (Progress → Applied) → Result Progress UpdateFault → Applied
unless_refused p next (Ok q) = next q
unless_refused p next (Err e) = record { progress = p; refused = Some e }

abbrev pub apply_all : Progress → List Update → Applied
apply_all p [] = record { progress = p; refused = None }
apply_all p (u ∷ more) = unless_refused p (λ q. apply_all q more) (apply_update p u)

-- two lists of updates in turn
abbrev pub then_applied : Applied → List Update → Applied
then_applied a more = if is_some a.refused then a else apply_all a.progress more

abbrev pub AppliesOn : Type 0
AppliesOn = (p : Progress) (us more : List Update) → apply_all p (us ++ more) ≡ then_applied (apply_all p us) more

-- the law of updates up to the first refusal: what is committed by then is what is spelt, and the refusal is the one of the record that can't be applied
pub record AppliedSays (a : Applied) (s : Spelling) : Type 0 where
  pub versions : a.progress.committed ≡ s.versions
  pub refused : a.refused ≡ option_map Edit s.fault

abbrev pub CommitsToRefusal : Type 0
CommitsToRefusal = (mode : Mode) (base : Version) (t : Text) → is_text mode t ≡ true → AppliedSays (apply_all (begin base) (updates_of t)) (spell_text base t)

-- .. and so for each list of records
abbrev pub CommitsRead : Type 0
CommitsRead = (mode : Mode) (base : Version) (rs : List Record) → AppliedSays (apply_all (begin base) (updates_in mode rs)) (spelling mode rs base)

-- what a longer list spells begins with what its first part spells, and a refusal stays
pub record SpeltOn (s t : Spelling) : Type 0 where
  pub new : List Version
  pub versions : t.versions ≡ s.versions ++ new
  pub stays : (e : Refusal) → s.fault ≡ Some e → t ≡ s

abbrev pub SpellsOn : Type 0
SpellsOn = (mode : Mode) (base : Version) (xs ys : List Record) → SpeltOn (spelling mode xs base) (spelling mode (xs ++ ys) base)

-- Numbers of versions.

-- why an update isn't done: it is refused, or its commit has no number
pub data Halt : Type 0 where
  Denied : (why : UpdateFault) → Halt
  NoNumber : Halt

-- one update, where as many versions as the limit may be committed
abbrev pub within : ℕ → Result Progress UpdateFault → Result Progress Halt
within limit (Err e) = Err (Denied e)
within limit (Ok q) = if nat_lt limit (length q.committed) then Err NoNumber else Ok q

-- where updates in turn lead, up to the first that isn't done
pub record Held : Type 0 where
  pub progress : Progress
  pub halt : Option Halt

abbrev pub unless_halted : Progress → (Progress → Held) → Result Progress Halt → Held
unless_halted p next (Ok q) = next q
unless_halted p next (Err e) = record { progress = p; halt = Some e }

abbrev pub apply_within : ℕ → Progress → List Update → Held
apply_within limit p [] = record { progress = p; halt = None }
apply_within limit p (u ∷ more) = unless_halted p (λ q. apply_within limit q more) (within limit (apply_update p u))

-- the law of the limit: what is committed is cut at the numbers that are left, and then the commit without one is what stops
pub record HeldSays (limit : ℕ) (h : Held) (s : Spelling) : Type 0 where
  pub versions : h.progress.committed ≡ take limit s.versions
  pub halt : h.halt ≡ (if nat_lt limit (length s.versions) then Some NoNumber else option_map (λ e. Denied (Edit e)) s.fault)

abbrev pub CommitsWithin : Type 0
CommitsWithin = (mode : Mode) (limit : ℕ) (base : Version) (rs : List Record) → HeldSays limit (apply_within limit (begin base) (updates_in mode rs)) (spelling mode rs base)

-- whether an update commits a version
abbrev pub commits : Update → Bool
commits DeleteAllRecords = false
commits (DeleteRecord r) = false
commits (AddRecord r) = false
commits (BeginBatchDelete r) = true
commits (BeginBatchAdd r) = false
commits (Finished r) = true

-- the law of numbers: where versions are numbered up to a greatest one from a number on, there is none left for an update exactly where it commits and the version before has the greatest
abbrev pub LastNumber : Type 0
LastNumber = (greatest number : ℕ) (p q : Progress) (u : Update) → number ≤ greatest → length p.committed ≤ greatest - number → apply_update p u ≡ Ok q
    → nat_lt (greatest - number) (length q.committed) ≡ (commits u && (number + length p.committed == greatest))

-- Finer steps, as code takes them.

-- record by record: a record's updates are applied before the next record is read
pub record Fed : Type 0 where
  pub place : Place
  pub progress : Progress
  pub halt : Option Halt
  pub fault : Option Fault

abbrev pub unless_stopped : Run → Held → Fed → Fed
unless_stopped a h rest =
    if is_some h.halt then record { place = a.place; progress = h.progress; halt = h.halt; fault = None }
    else if is_some a.fault then record { place = a.place; progress = h.progress; halt = None; fault = a.fault }
    else rest

abbrev pub feed : Mode → ℕ → Place → Progress → List Item → Fed
feed mode limit p g [] = record { place = p; progress = g; halt = None; fault = None }
feed mode limit p g (Good r ∷ more) = unless_stopped (step mode p r) (apply_within limit g (step mode p r).updates) (feed mode limit (step mode p r).place (apply_within limit g (step mode p r).updates).progress more)
feed mode limit p g (Bad f ∷ more) = record { place = p; progress = g; halt = None; fault = Some f }

-- the law of feeding: it comes to what a message's updates make, applied after the whole message was read
pub record FedSays (f : Fed) (a : Run) (h : Held) : Type 0 where
  pub progress : f.progress ≡ h.progress
  pub halt : f.halt ≡ h.halt
  pub fault : h.halt ≡ None → f.fault ≡ a.fault
  pub place : h.halt ≡ None → f.place ≡ a.place

abbrev pub FeedsRecords : Type 0
FeedsRecords = (mode : Mode) (limit : ℕ) (p : Place) (g : Progress) (xs : List Item) → FedSays (feed mode limit p g xs) (run_items mode p xs) (apply_within limit g (run_items mode p xs).updates)

-- what is denied is an edit: an update of a text never names a record that is no SOA, and none comes after the end
pub record DeniedEdit (f : UpdateFault) : Type 0 where
  pub why : Refusal
  pub is : f ≡ Edit why

abbrev pub DeniesEdits : Type 0
DeniesEdits = (mode : Mode) (limit : ℕ) (base : Version) (rs : List Record) (f : UpdateFault) → (apply_within limit (begin base) (updates_in mode rs)).halt ≡ Some (Denied f) → DeniedEdit f

-- a first message without a fault names the mode of the request
abbrev pub NamesMode : Type 0
NamesMode = (mode : Mode) (id : ℕ) (q : Question) (m : ReadMessage) (more : List ReadMessage) → q.qtype ≡ type_of mode → request_fault id q true m ≡ None → mode_of (m ∷ more) ≡ mode
