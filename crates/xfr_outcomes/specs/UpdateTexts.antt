-- The kinds of updates as text.
use Rattle.std.specs.Prelude.{ℕ, List, codes}
use Rattle.xfr_outcomes.specs.declared.update.ZoneUpdate.{ZoneUpdate}
use Rattle.xfr_outcomes.specs.declared.update.ZoneUpdate.TheVariants as update

abbrev pub update_text : {R : Type 0} → ZoneUpdate R → List ℕ
update_text update.DeleteAllRecords = codes "DeleteAllRecords"
update_text (update.DeleteRecord r) = codes "DeleteRecord"
update_text (update.AddRecord r) = codes "AddRecord"
update_text (update.BeginBatchDelete r) = codes "BeginBatchDelete"
update_text (update.BeginBatchAdd r) = codes "BeginBatchAdd"
update_text (update.Finished r) = codes "Finished"
