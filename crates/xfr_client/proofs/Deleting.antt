-- One record deleted, as an update of the progress.
use Rattle.std.proofs.Common.{◌≡◌, false, Ok, Err, ap, ◌∙◌}
use Rattle.dns_rdata.specs.Records.{Record}
use Rattle.zone_model.specs.Version.{Version}
use Rattle.zone_model.specs.Edits.{Refusal, delete}
use Rattle.zone_model.specs.Updates.{Progress, Edit, DeleteRecord, apply_update, edited}
use Rattle.xfr_client.proofs.Adding.{not_finished}

pub update_deleted : (p : Progress) (r : Record) (w : Version) → p.finished ≡ false → delete p.pending r ≡ Ok w → apply_update p (DeleteRecord r) ≡ Ok (record p { pending = w })
update_deleted p r w f e = not_finished p (DeleteRecord r) f ∙ ap (edited p) e

pub update_not_deleted : (p : Progress) (r : Record) (why : Refusal) → p.finished ≡ false → delete p.pending r ≡ Err why → apply_update p (DeleteRecord r) ≡ Err (Edit why)
update_not_deleted p r why f e = not_finished p (DeleteRecord r) f ∙ ap (edited p) e
