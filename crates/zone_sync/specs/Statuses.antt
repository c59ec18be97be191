-- Which status of a run comes when, and what it tells (docs/SCRIPT.md).
use Rattle.std.specs.Prelude.{◌≡◌, ◌≢◌, ◌⊎◌, ◌<◌, ◌≤◌, ℕ, List, length, map, Option, Some, option_and_then, option_map, Ok, Err, IsTrue}
use Rattle.tsig_port.specs.Tsig.{TsigKey}
use Rattle.zone_model.specs.TransferText.{Mode}
use Rattle.zone_devices.specs.Calls.{Rose}
use Rattle.zone_script.specs.Script as scripts
use Rattle.zone_script.specs.Script.{script_of}
use Rattle.zone_script.specs.ScriptReaders.{wire_readers}
use Rattle.zone_script.specs.Words.{Form, form_of, Transfer, Generate}
use Rattle.zone_sync.specs.Delivery.{WasHonest}
use Rattle.zone_report.specs.Notices.{is_fault}
use Rattle.zone_sync.specs.Reported.{Crossed, FitsLink}
use Rattle.zone_report.specs.declared.status.Status.{Status}
use Rattle.zone_report.specs.declared.status.Status.TheVariants as ends

-- the form of words that were read; others have none
abbrev pub form_read : Option (List (List ℕ)) → Option Form
form_read words = option_and_then form_of words

-- the same of words of another type, by the octets of each
abbrev pub read_by : {A : Type 0} → (A → List ℕ) → Option (List A) → Option Form
read_by octets words = form_read (option_map (map octets) words)

-- words that don't ask for a script's transfer
abbrev pub AsksNoScript : Option Form → Type 0
AsksNoScript form = (mode : Mode) (readers : ℕ) → form ≢ Some (Transfer mode readers)

-- .. nor for a zone that is made from numbers
pub record IsOther (form : Option Form) : Type 0 where
  pub no_script : AsksNoScript form
  pub no_numbers : (size seed : ℕ) → form ≢ Some (Generate size seed)

-- the form of the program's words, and the status
pub record TellsWords (form : Option Form) (status : Status) : Type 0 where
  -- words that ask for a transfer aren't answered by the usage line
  pub usage : status ≡ ends.Usage → IsOther form
  -- any others are, unless the sink fails
  pub no_form : IsOther form → (status ≡ ends.Usage) ⊎ (status ≡ ends.SinkFault)

-- the same of the link
pub record TellsLink (old new : ℕ) (status : Status) : Type 0 where
  -- its fault is told only where the count rose
  pub fault : status ≡ ends.LinkFault → Rose old new
  -- one that came is told, unless the sink fails or memory runs out
  pub told : old < new → (status ≡ ends.LinkFault) ⊎ ((status ≡ ends.SinkFault) ⊎ (status ≡ ends.Memory))

-- the octets that a source told, of words that ask for a transfer of this kind, and the status; how often source and sink had failed, and the link, before and after
pub record TellsScript (mode : Mode) (text : List ℕ) (source_old source_new sink_old sink_new : ℕ) (link : Crossed) (status : Status) : Type 0 where
  -- more octets than a script may have are too long, up to faults
  pub too_long : 16777216 < length text → (status ≡ ends.TooLong) ⊎ IsTrue (is_fault status)
  -- the first bad line of others is told, up to faults
  pub bad_line : (n : ℕ) → length text ≤ 16777216 → script_of wire_readers text ≡ Err n → (status ≡ ends.Script) ⊎ IsTrue (is_fault status)
  -- where a script is spelt and no call failed, the transfer is answered, or memory ran out
  pub completes : (script : scripts.Script TsigKey) → length text ≤ 16777216 → script_of wire_readers text ≡ Ok script
      → ¬ Rose source_old source_new → ¬ Rose sink_old sink_new → ¬ Rose link.faults_old link.faults_new
      → (status ≡ ends.Done) ⊎ ((status ≡ ends.Refused) ⊎ (status ≡ ends.Memory))
  -- where besides its parts fit each other and the link was honest, the transfer ends well, or memory ran out
  pub delivers : (script : scripts.Script TsigKey) (key : TsigKey) → length text ≤ 16777216 → script_of wire_readers text ≡ Ok script
      → FitsLink mode script key link.longest → WasHonest link.lists_old link.lists_new link.faults_old link.faults_new
      → ¬ Rose source_old source_new → ¬ Rose sink_old sink_new → (status ≡ ends.Done) ⊎ (status ≡ ends.Memory)

-- words that ask for a zone that is made from numbers, and the status; how often the sink had failed, and the link, before and after
pub record TellsNumbers (sink_old sink_new : ℕ) (link : Crossed) (status : Status) : Type 0 where
  -- where no call failed, the transfer is answered, or memory ran out
  pub completes : ¬ Rose sink_old sink_new → ¬ Rose link.faults_old link.faults_new
      → (status ≡ ends.Done) ⊎ ((status ≡ ends.Refused) ⊎ (status ≡ ends.Memory))
  -- where the link was honest, and takes the request of some hundred octets, the transfer ends well, or memory ran out
  pub delivers : 512 ≤ link.longest → WasHonest link.lists_old link.lists_new link.faults_old link.faults_new
      → ¬ Rose sink_old sink_new → (status ≡ ends.Done) ⊎ (status ≡ ends.Memory)
