-- A primary's run: the script that is read, and the stream that is served.
use Rattle.std.specs.Prelude.{◌≡◌, ◌≢◌, ◌⊎◌, ℕ, ◌<◌, ◌≤◌, Bool, true, false, List, [], ◌∷◌, length, Option, Some, None, IfSome, Result, Ok, Err}
use Rattle.tsig_port.specs.Tsig.{TsigKey}
use Rattle.xfr_services.specs.Items.{Sending}
use Rattle.zone_script.specs.Script.{Script, script_of}
use Rattle.zone_script.specs.ScriptReaders.{wire_readers}
use Rattle.zone_serving.specs.StreamServing.{ServesStream}
use Rattle.zone_serving.specs.declared.errors.ServeError.{ServeError}
use Rattle.zone_serving.specs.declared.errors.ServeError.TheVariants as stream
use Rattle.zone_serving.specs.declared.serving.Served.{Served}
use Rattle.zone_primary_run.specs.ScriptPrimaries.{PrimaryParts, primary_in}
use Rattle.zone_primary_run.specs.declared.errors.PrimaryError.{PrimaryError}
use Rattle.zone_primary_run.specs.declared.errors.PrimaryError.TheVariants as why

-- the stream that is served: what its source had and its sink took, before and after
pub record Stream : Type 0 where
  pub src_old : Option (List ℕ)
  pub src_new : Option (List ℕ)
  pub sink_old : Option (List ℕ)
  pub sink_new : Option (List ℕ)

abbrev pub stream_of : Option (List ℕ) → Option (List ℕ) → Option (List ℕ) → Option (List ℕ) → Stream
stream_of src_old src_new sink_old sink_new = record { src_old = src_old; src_new = src_new; sink_old = sink_old; sink_new = sink_new }

-- nothing was read and nothing written
abbrev pub IsUnserved : Stream → Type 0
IsUnserved s = (s.src_new ≡ s.src_old) × (s.sink_new ≡ s.sink_old)

-- the text is a script with a key, and this is its primary
pub record SpellsPrimary (text : List ℕ) (p : PrimaryParts) : Type 0 where
  pub script : Script TsigKey
  pub key : TsigKey
  pub spelt : script_of wire_readers text ≡ Ok script
  pub keyed : script.key ≡ Some key
  pub is : p ≡ primary_in script key

-- One case for each answer of a call that makes the primary of a text.
abbrev pub MakesPrimary : List ℕ → Result PrimaryParts PrimaryError → Type 0
MakesPrimary text (Ok p) = SpellsPrimary text p
MakesPrimary text (Err (why.Line n)) = script_of wire_readers text ≡ Err n
MakesPrimary text (Err why.Memory) = Unit {0}
MakesPrimary text (Err (why.Stream e)) = ⊥
MakesPrimary text (Err why.ScriptFault) = ⊥
MakesPrimary text (Err why.ScriptTooLong) = ⊥
MakesPrimary text (Err why.Words) = ⊥
MakesPrimary text (Err why.NotOpened) = ⊥
MakesPrimary text (Err why.Clock) = ⊥

-- the text's primary served the stream, which ended so
pub record ServesScript (SendsOf : PrimaryParts → List ℕ → Option (List Sending) → Type 0) (text : List ℕ) (s : Stream) (answer : Result Served ServeError) : Type 0 where
  pub primary : PrimaryParts
  pub spelt : SpellsPrimary text primary
  pub serves : ServesStream (SendsOf primary) s.src_old s.src_new s.sink_old s.sink_new answer

-- One case for each answer to a text that is to be served as a script.
abbrev pub RunsText : (PrimaryParts → List ℕ → Option (List Sending) → Type 0) → List ℕ → Stream → Result Served PrimaryError → Type 0
RunsText SendsOf text s (Ok served) = ServesScript SendsOf text s (Ok served)
RunsText SendsOf text s (Err (why.Stream e)) = ServesScript SendsOf text s (Err e) × (e ≢ stream.Memory)
RunsText SendsOf text s (Err (why.Line n)) = (script_of wire_readers text ≡ Err n) × IsUnserved s
RunsText SendsOf text s (Err why.Memory) = IsUnserved s ⊎ ServesScript SendsOf text s (Err stream.Memory)
RunsText SendsOf text s (Err why.ScriptFault) = ⊥
RunsText SendsOf text s (Err why.ScriptTooLong) = ⊥
RunsText SendsOf text s (Err why.Words) = ⊥
RunsText SendsOf text s (Err why.NotOpened) = ⊥
RunsText SendsOf text s (Err why.Clock) = ⊥

-- the source of a script, where it tells its octets, had this text, which isn't too long
pub record ReadsScript (Runs : List ℕ → Type 0) (script : Option (List ℕ)) : Type 0 where
  pub text : List ℕ
  pub told : IfSome script (λ octets. octets ≡ text)
  pub fits : length text ≤ 16777216
  pub runs : Runs text

-- One case for each answer of a run.
abbrev pub RunsPrimary : (PrimaryParts → List ℕ → Option (List Sending) → Type 0) → Option (List ℕ) → Stream → Result Served PrimaryError → Type 0
RunsPrimary SendsOf script s (Err why.ScriptFault) = IsUnserved s
RunsPrimary SendsOf script s (Err why.ScriptTooLong) = IfSome script (λ octets. 16777216 < length octets) × IsUnserved s
RunsPrimary SendsOf script s (Err why.Memory) = IsUnserved s ⊎ ReadsScript (λ text. RunsText SendsOf text s (Err why.Memory)) script
RunsPrimary SendsOf script s answer = ReadsScript (λ text. RunsText SendsOf text s answer) script

-- a script that is too long is refused as that, unless a fault or want of memory hides it
abbrev pub IsRefusedAsLong : Result Served PrimaryError → Type 0
IsRefusedAsLong answer = (answer ≡ Err why.ScriptTooLong) ⊎ ((answer ≡ Err why.ScriptFault) ⊎ (answer ≡ Err why.Memory))

-- ---- a run of the program

-- the words are one, the name of the script's file
abbrev pub file_of : List (List ℕ) → Option (List ℕ)
file_of [] = None
file_of (file ∷ []) = Some file
file_of (file ∷ word ∷ more) = None

-- it ends with this before the script is read
pub record StopsWith (e : PrimaryError) (left_old left_new : Option (List ℕ)) (s : Stream) (answer : Result Served PrimaryError) : Type 0 where
  pub told : answer ≡ Err e
  pub unread : left_new ≡ left_old
  pub unserved : IsUnserved s

-- by the moment, if it is known
abbrev pub RunsAt : (ℕ → PrimaryParts → List ℕ → Option (List Sending) → Type 0) → Option ℕ → Option (List ℕ) → Option (List ℕ) → Stream → Result Served PrimaryError → Type 0
RunsAt SendsAt None old new s answer = StopsWith why.Clock old new s answer
RunsAt SendsAt (Some at) old new s answer =
    RunsPrimary (SendsAt at) old s answer × ((text : List ℕ) → old ≡ Some text → 16777216 < length text → IsRefusedAsLong answer)

-- .. whether the file was opened
abbrev pub RunsOpened : (ℕ → PrimaryParts → List ℕ → Option (List Sending) → Type 0) → Bool → Option ℕ → Option (List ℕ) → Option (List ℕ) → Stream → Result Served PrimaryError → Type 0
RunsOpened SendsAt false at old new s answer = StopsWith why.NotOpened old new s answer
RunsOpened SendsAt true at old new s answer = RunsAt SendsAt at old new s answer

-- .. and the one word that names it
abbrev pub RunsWords : (ℕ → PrimaryParts → List ℕ → Option (List Sending) → Type 0) → Option (List ℕ) → Bool → Option ℕ → Option (List ℕ) → Option (List ℕ) → Stream → Result Served PrimaryError → Type 0
RunsWords SendsAt None opened at old new s answer = StopsWith why.Words old new s answer
RunsWords SendsAt (Some file) opened at old new s answer = RunsOpened SendsAt opened at old new s answer
