-- What want of memory may hide of an update.
use Rattle.std.proofs.Common.{◌≡◌, Bool, true, false, Result, Ok, Err, refl, sym, subst}
use Rattle.std.specs.Prelude.{◌&&◌, if◌then◌else◌}
use Rattle.dns_name.specs.Names.{under}
use Rattle.dns_rdata.specs.Records.{Record}
use Rattle.zone_model.specs.Version.{Version}
use Rattle.zone_model.specs.TransferText.{is_soa}
use Rattle.zone_model.specs.Edits.{Refusal, delete, add, has_data, set_soa}
use Rattle.zone_model.specs.Updates.{Progress, Update, UpdateFault, NotSoaRecord, DeleteAllRecords, DeleteRecord, AddRecord, BeginBatchDelete, BeginBatchAdd, Finished, apply, apply_update, edited, finish, with_soa}
use Rattle.xfr_client.specs.Causes.{HidesEdit}
use Rattle.xfr_client.proofs.Adding.{not_finished}

hides_edited : (p : Progress) (r : Result Version Refusal) → HidesEdit (edited p r)
hides_edited p (Ok v) = tt
hides_edited p (Err e) = tt

hides_either : (passes : Bool) (p : Progress) (r : Result Version Refusal) → HidesEdit (if passes then Ok p else edited p r)
hides_either true p r = tt
hides_either false p r = hides_edited p r

hides : (p : Progress) (u : Update) → p.finished ≡ false → HidesEdit (apply p u) → HidesEdit (apply_update p u)
hides p u f h = subst HidesEdit (sym (not_finished p u f)) h

pub hides_clear : (p : Progress) → p.finished ≡ false → HidesEdit (apply_update p DeleteAllRecords)
hides_clear p f = hides p DeleteAllRecords f tt

pub hides_delete : (p : Progress) (r : Record) → p.finished ≡ false → HidesEdit (apply_update p (DeleteRecord r))
hides_delete p r f = hides p (DeleteRecord r) f (hides_edited p (delete p.pending r))

pub hides_add : (p : Progress) (r : Record) → p.finished ≡ false → HidesEdit (apply_update p (AddRecord r))
hides_add p r f = hides p (AddRecord r) f (hides_either (p.replacing && under r.owner p.pending.apex && has_data p.pending r) p (add p.pending r))

pub hides_begin : (p : Progress) (r : Record) → p.finished ≡ false → HidesEdit (apply_update p (BeginBatchDelete r))
hides_begin p r f = hides p (BeginBatchDelete r) f tt

pub hides_soa : (p : Progress) (r : Record) → p.finished ≡ false → is_soa r ≡ true → HidesEdit (apply_update p (BeginBatchAdd r))
hides_soa p r f s =
    let R : Bool → Result Progress UpdateFault = λ b. if b then Ok (record p { pending = set_soa p.pending r }) else Err NotSoaRecord in
    hides p (BeginBatchAdd r) f (subst (λ b. HidesEdit (R b)) (sym s) tt)

pub hides_end : (p : Progress) (r : Record) → p.finished ≡ false → is_soa r ≡ true → HidesEdit (apply_update p (Finished r))
hides_end p r f s =
    let R : Bool → Result Progress UpdateFault = λ b. finish (if b then Ok (record p { pending = set_soa p.pending r }) else Err NotSoaRecord) in
    hides p (Finished r) f (subst (λ b. HidesEdit (R b)) (sym s) tt)
