-- What the code keeps of a script as it reads it, and what it makes of each line.
use Rattle.std.specs.Prelude.{◌≡◌, ℕ, ◌+◌, Bool, true, false, ◌&&◌, ◌||◌, not, ◌==◌, nat_le, if◌then◌else◌, List, [], ◌∷◌, ◌++◌, Option, Some, None, is_some, Result, Ok, Err}
use Rattle.std.specs.Option.{option_or}
use Rattle.std.specs.Result.{result_ok}
use Rattle.dns_name.specs.Names.{Name}
use Rattle.dns_rdata.specs.Records.{Record}
use Rattle.tsig_port.specs.Tsig.{TsigKey}
use Rattle.zone_model.specs.Version.{Version}
use Rattle.zone_model.specs.Edits.{add, delete, close}
use Rattle.zone_model.specs.Difference.{Difference}
use Rattle.zone_model.specs.Offer.{difference_if}
use Rattle.zone_reads.specs.Session.{Session}
use Rattle.zone_model.specs.Commits.{Commit, next_commit}
use Rattle.zone_model.specs.Classify.{BadRecord, opened}
use Rattle.zone_records.specs.Parsed.{Parsed, empty_file, version_of}
use Rattle.zone_records.specs.Taking.{take}
use Rattle.zone_records.specs.Faults.{is_whole}
use Rattle.zone_script.specs.Script as scripts
use Rattle.zone_script.specs.Script.{stage_of, is_once, is_skipped, read_line, committed_by}
use Rattle.zone_script.specs.ScriptReaders.{wire_readers}
pub use Rattle.zone_script.specs.Lines.{is_of_class}
use Rattle.zone_script.specs.declared.opening.OpeningZone.{OpeningZone}
use Rattle.zone_script.specs.declared.reading.Zones.{Zones}
use Rattle.zone_script.specs.declared.reading.Reading.{Reading}
use Rattle.zone_script.specs.declared.reading.Opened.{Opened}
use Rattle.zone_script.specs.declared.editing.Editing.{Editing}
use Rattle.zone_script.specs.declared.script.Script.{Script}

-- a zone that opens without records
abbrev pub empty_zone : Name → ℕ → OpeningZone
empty_zone apex class = record { file = empty_file apex class; last_line = 0 }

abbrev pub empty_zones : Name → ℕ → Zones
empty_zones apex class = record { primary = empty_zone apex class; secondary = empty_zone apex class }

-- .. with what its file is after a record, at a line
abbrev pub with_file : ℕ → Result Parsed BadRecord → Result OpeningZone ℕ
with_file n (Ok file) = Ok (record { file = file; last_line = n })
with_file n (Err why) = Err n

abbrev pub take_record : OpeningZone → ℕ → Record → Result OpeningZone ℕ
take_record z n r = with_file n (take z.file r)

-- the line that refuses a zone whose records make none
abbrev pub refusal : OpeningZone → Option ℕ
refusal z = if is_whole z.file then None else Some z.last_line

abbrev pub zones_refusal : Option Zones → Option ℕ
zones_refusal None = None
zones_refusal (Some z) = option_or (refusal z.primary) (refusal z.secondary)

-- ---- the lines up to the first edit or question

-- nothing was read
abbrev pub nothing_read : Reading
nothing_read = record { stage = 0; zones = None; key = None; at_primary = 0; at_secondary = 0 }

abbrev pub may_come : Reading → ℕ → Bool
may_come k stage = nat_le k.stage stage && not (is_once stage && (k.stage == stage)) && ((stage == 1) || nat_le 1 k.stage) && (nat_le stage 2 || is_some k.key)

abbrev pub is_of_zones : Option Zones → scripts.Line TsigKey → Bool
is_of_zones None line = true
is_of_zones (Some z) line = is_of_class z.primary.file.class line

unfoldable pub may_stand : Reading → scripts.Line TsigKey → Bool
may_stand k line = may_come k (stage_of line) && is_of_zones k.zones line

abbrev pub and_zones : (OpeningZone → Zones) → Result OpeningZone ℕ → Result Zones ℕ
and_zones put (Ok z) = Ok (put z)
and_zones put (Err n) = Err n

abbrev pub into_primary : Option Zones → ℕ → Record → Result Zones ℕ
into_primary None n r = Err n
into_primary (Some z) n r = and_zones (λ p. record z { primary = p }) (take_record z.primary n r)

abbrev pub into_secondary : Option Zones → ℕ → Record → Result Zones ℕ
into_secondary None n r = Err n
into_secondary (Some z) n r = and_zones (λ s. record z { secondary = s }) (take_record z.secondary n r)

abbrev pub with_zones : Reading → ℕ → Result Zones ℕ → Result Reading ℕ
with_zones k stage (Ok z) = Ok (record k { stage = stage; zones = Some z })
with_zones k stage (Err n) = Err n

-- an edit or a question is left to be read once the zones are open
abbrev pub put_line : Reading → ℕ → scripts.Line TsigKey → Result Reading ℕ
put_line k n (scripts.ZoneLine apex class) = Ok (record k { stage = 1; zones = Some (empty_zones apex class) })
put_line k n (scripts.KeyLine key) = Ok (record k { stage = 2; key = Some key })
put_line k n (scripts.AtLine p s) = Ok (record k { stage = 3; at_primary = p; at_secondary = s })
put_line k n (scripts.PrimaryLine r) = with_zones k 4 (into_primary k.zones n r)
put_line k n (scripts.SecondaryLine r) = with_zones k 5 (into_secondary k.zones n r)
put_line k n (scripts.ChangeLine c) = Ok (record k { stage = 6 })
put_line k n (scripts.QueryLine name rtype) = Ok (record k { stage = 6 })

abbrev pub take_line : Reading → ℕ → scripts.Line TsigKey → Result Reading ℕ
take_line k n line = if may_stand k line then put_line k n line else Err n

abbrev pub take_read : Reading → ℕ → Option (scripts.Line TsigKey) → Result Reading ℕ
take_read k n None = Err n
take_read k n (Some line) = take_line k n line

abbrev pub take_text : Reading → ℕ → List ℕ → Result Reading ℕ
take_text k n text = if is_skipped text then Ok k else take_read k n (read_line wire_readers text)

-- ---- the zones are opened

abbrev pub commit_of : OpeningZone → Commit
commit_of z = record { number = 0; version = close (version_of z.file) }

abbrev pub opened_with : Reading → Zones → TsigKey → Opened
opened_with k z key = record { key = key; at_primary = k.at_primary; at_secondary = k.at_secondary; primary = commit_of z.primary; secondary = commit_of z.secondary }

abbrev pub unless : {A : Type 0} → Option ℕ → Result A ℕ → Result A ℕ
unless None r = r
unless (Some n) r = Err n

abbrev pub opened_from : Reading → ℕ → Option Zones → Option TsigKey → Result Opened ℕ
opened_from k n (Some z) (Some key) = unless (zones_refusal (Some z)) (Ok (opened_with k z key))
opened_from k n _ _ = Err n

abbrev pub open_zones : Reading → ℕ → Result Opened ℕ
open_zones k n = opened_from k n k.zones k.key

-- ---- edits and questions

-- the primary's zone as it is edited, and what else was read
pub record Edited : Type 0 where
  pub current : Commit
  pub pending : Version
  pub editing : Editing

abbrev pub edited : Session → Editing → Edited
edited s e = record { current = s.current; pending = s.pending; editing = e }

abbrev pub nothing_edited : ℕ → Editing
nothing_edited class = record { class = class; asks = false; commits = []; queries = [] }

abbrev pub with_pending : Edited → ℕ → Option Version → Result Edited ℕ
with_pending e n None = Err n
with_pending e n (Some v) = Ok (record e { pending = v })

-- what is pending is committed
abbrev pub with_commit : Edited → Edited
with_commit e =
    let c : Commit = next_commit e.current e.pending in
    record e { current = c; pending = c.version; editing = record e.editing { commits = e.editing.commits ++ (c, difference_if e.current.version c.version) ∷ [] } }

abbrev pub make_change : Edited → ℕ → scripts.Change → Result Edited ℕ
make_change e n (scripts.Plus r) = with_pending e n (result_ok (add e.pending r))
make_change e n (scripts.Minus r) = with_pending e n (result_ok (delete e.pending r))
make_change e n scripts.Commit = Ok (with_commit e)

-- no edit comes after a question
unfoldable pub may_change : Editing → scripts.Change → Bool
may_change e c = not e.asks && is_of_class e.class (scripts.ChangeLine c)

abbrev pub take_change : Edited → ℕ → scripts.Change → Result Edited ℕ
take_change e n c = if may_change e.editing c then make_change e n c else Err n

abbrev pub with_question : Editing → Name → ℕ → Editing
with_question e name rtype = record e { asks = true; queries = e.queries ++ (name, rtype) ∷ [] }

abbrev pub take_later : Edited → ℕ → scripts.Line TsigKey → Result Edited ℕ
take_later e n (scripts.ChangeLine c) = take_change e n c
take_later e n (scripts.QueryLine name rtype) = Ok (record e { editing = with_question e.editing name rtype })
take_later e n _ = Err n

abbrev pub take_later_read : Edited → ℕ → Option (scripts.Line TsigKey) → Result Edited ℕ
take_later_read e n None = Err n
take_later_read e n (Some line) = take_later e n line

abbrev pub take_later_text : Edited → ℕ → List ℕ → Result Edited ℕ
take_later_text e n text = if is_skipped text then Ok e else take_later_read e n (read_line wire_readers text)

abbrev pub take_rest : Result Edited ℕ → ℕ → List (List ℕ) → Result Edited ℕ
take_rest e n [] = e
take_rest (Err k) n (l ∷ more) = Err k
take_rest (Ok e) n (l ∷ more) = take_rest (take_later_text e n l) (n + 1) more

-- ---- the whole

abbrev pub begin : Commit → Edited
begin c = record { current = c; pending = c.version; editing = nothing_edited c.version.class }

abbrev pub editing_in : Result Edited ℕ → Result Editing ℕ
editing_in (Ok e) = Ok e.editing
editing_in (Err n) = Err n

-- what is read from a zone's opening version on
abbrev pub read_edits : Commit → ℕ → List (List ℕ) → Result Editing ℕ
read_edits c n lines = editing_in (take_rest (Ok (begin c)) n lines)

abbrev pub script_of_editing : Opened → Result Editing ℕ → Result Script ℕ
script_of_editing o (Ok k) = Ok (record { key = o.key; at_primary = o.at_primary; at_secondary = o.at_secondary; opening = o.primary; commits = k.commits; secondary = o.secondary; queries = k.queries })
script_of_editing o (Err n) = Err n

abbrev pub script_with : Opened → Result Edited ℕ → Result Script ℕ
script_with o e = script_of_editing o (editing_in e)

abbrev pub read_on : ℕ → List (List ℕ) → Result Opened ℕ → Result Script ℕ
read_on n lines (Ok o) = script_of_editing o (read_edits o.primary n lines)
read_on n lines (Err m) = Err m

abbrev pub finished : Reading → ℕ → List (List ℕ) → Result Script ℕ
finished k n lines = read_on n lines (open_zones k n)

-- versions as the commits that publish them after one, each with its difference from the one before, where there is one to tell (RFC 1995, 2)
abbrev pub told_commits : Commit → List Version → List (Commit × Option Difference)
told_commits last [] = []
told_commits last (v ∷ more) = let c : Commit = record { number = last.number + 1; version = v } in (c, difference_if last.version v) ∷ told_commits c more

-- what a read script gives: the primary's history is its opening version and the commits
pub record Gives (t : scripts.Script TsigKey) (s : Script) : Type 0 where
  pub key : t.key ≡ Some s.key
  pub at_primary : s.at_primary ≡ t.at_primary
  pub at_secondary : s.at_secondary ≡ t.at_secondary
  pub opening : s.opening ≡ record { number = 0; version = close (opened t.primary) }
  pub commits : s.commits ≡ told_commits s.opening (committed_by s.opening.version t.changes)
  pub secondary : s.secondary ≡ record { number = 0; version = close (opened t.secondary) }
  pub queries : s.queries ≡ t.queries
