-- A transfer as single updates of a session (RFC 5936, 3; RFC 1995, 4).
use Rattle.std.specs.Prelude.{◌≡◌, Bool, true, false, ◌&&◌, if◌then◌else◌, List, [], ◌∷◌, ◌++◌, map, flat_map, Option, Some, None, Result, Ok, Err}
use Rattle.std.specs.Option.{option_map_or}
use Rattle.dns_name.specs.Names.{under}
use Rattle.dns_name.specs.Records.{Record}
use Rattle.zone_model.specs.Version.{Version}
use Rattle.zone_model.specs.Edits.{Refusal, OutOfZone, Incompatible, InvalidData, with_sets, has_data, add, delete, set_soa, close}
use Rattle.zone_model.specs.TransferText.{Mode, Text, Whole, Changes, Batch, Ending, is_soa, is_text}
use Rattle.zone_model.specs.Spells.{spell_text}

-- one update
pub data Update : Type 0 where
  DeleteAllRecords : Update
  DeleteRecord : (deleted : Record) → Update
  AddRecord : (added : Record) → Update
  BeginBatchDelete : (old : Record) → Update
  BeginBatchAdd : (new : Record) → Update
  Finished : (last : Record) → Update

abbrev pub end_update : Option Ending → List Update
end_update None = []
end_update (Some end) = Finished end.last ∷ []

abbrev pub batch_updates : Batch → List Update
batch_updates b = BeginBatchDelete b.old ∷ map DeleteRecord b.deletes ++ option_map_or (λ n. BeginBatchAdd n ∷ map AddRecord b.adds) b.new []

-- the updates that a text says
abbrev pub updates_of : Text → List Update
updates_of (Whole s middle end) = DeleteAllRecords ∷ map AddRecord middle ++ end_update end
updates_of (Changes s batches end) = flat_map batch_updates batches ++ end_update end

-- what updates have done: the versions committed, what is pending, whether equal data are passed over, whether the end has come
pub record Progress : Type 0 where
  pub committed : List Version
  pub pending : Version
  pub replacing : Bool
  pub finished : Bool

-- why an update is refused
pub data UpdateFault : Type 0 where
  Edit : (why : Refusal) → UpdateFault
  NotSoaRecord : UpdateFault
  AfterFinish : UpdateFault

abbrev pub published : Progress → Progress
published p = record { committed = p.committed ++ close p.pending ∷ []; pending = close p.pending; replacing = false; finished = p.finished }

abbrev pub edited : Progress → Result Version Refusal → Result Progress UpdateFault
edited p (Ok v) = Ok (record p { pending = v })
edited p (Err e) = Err (Edit e)

abbrev pub with_soa : Progress → Record → Result Progress UpdateFault
with_soa p r = if is_soa r then Ok (record p { pending = set_soa p.pending r }) else Err NotSoaRecord

abbrev pub finish : Result Progress UpdateFault → Result Progress UpdateFault
finish (Ok p) = Ok (record (published p) { finished = true })
finish (Err e) = Err e

-- one update that isn't refused for what came before it
abbrev pub apply : Progress → Update → Result Progress UpdateFault
apply p DeleteAllRecords = Ok (record p { pending = with_sets p.pending []; replacing = true })
apply p (DeleteRecord r) = edited p (delete p.pending r)
apply p (AddRecord r) = if p.replacing && under r.owner p.pending.apex && has_data p.pending r then Ok p else edited p (add p.pending r)
apply p (BeginBatchDelete r) = Ok (published p)
apply p (BeginBatchAdd r) = with_soa p r
apply p (Finished r) = finish (with_soa p r)

-- one update: after the end, and after data that didn't fit, all are refused
abbrev pub apply_update : Progress → Update → Result Progress UpdateFault
apply_update p u = if p.finished then Err AfterFinish else apply p u

-- how progress stands after a refusal
abbrev pub after_refusal : Progress → UpdateFault → Progress
after_refusal p (Edit Incompatible) = record p { finished = true }
after_refusal p (Edit OutOfZone) = p
after_refusal p (Edit InvalidData) = p
after_refusal p NotSoaRecord = p
after_refusal p AfterFinish = p

abbrev pub settled : Progress → Result Progress UpdateFault → Progress
settled p (Ok q) = q
settled p (Err e) = after_refusal p e

-- where updates in turn lead from a version
abbrev pub begin : Version → Progress
begin base = record { committed = []; pending = base; replacing = false; finished = false }

abbrev pub progress : Progress → List Update → Progress
progress p [] = p
progress p (u ∷ more) = progress (settled p (apply_update p u)) more

-- the law of updates: where no record is refused, the updates of a text commit the versions that it spells
abbrev pub CommitsSpelling : Type 0
CommitsSpelling = (mode : Mode) (base : Version) (t : Text) → is_text mode t ≡ true → (spell_text base t).fault ≡ None → (progress (begin base) (updates_of t)).committed ≡ (spell_text base t).versions
