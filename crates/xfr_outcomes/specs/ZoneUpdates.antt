-- The updates of the calls, as those of the definitions.
use Rattle.dns_rdata.specs.Records.{Record}
use Rattle.zone_model.specs.Updates as updates
use Rattle.xfr_outcomes.specs.declared.update.ZoneUpdate.{ZoneUpdate}
use Rattle.xfr_outcomes.specs.declared.update.ZoneUpdate.TheVariants as update

abbrev pub update_of : ZoneUpdate Record → updates.Update
update_of update.DeleteAllRecords = updates.DeleteAllRecords
update_of (update.DeleteRecord r) = updates.DeleteRecord r
update_of (update.AddRecord r) = updates.AddRecord r
update_of (update.BeginBatchDelete r) = updates.BeginBatchDelete r
update_of (update.BeginBatchAdd r) = updates.BeginBatchAdd r
update_of (update.Finished r) = updates.Finished r
