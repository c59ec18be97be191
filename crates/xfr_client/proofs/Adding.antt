-- One record added, as an update of the progress.
use Rattle.std.proofs.Common.{◌≡◌, Bool, true, false, Result, Ok, Err, refl, ap, ◌∙◌, sym}
use Rattle.std.specs.Prelude.{◌&&◌, not, if◌then◌else◌}
use Rattle.dns_name.specs.Names.{under}
use Rattle.dns_rdata.specs.Records.{Record}
use Rattle.zone_model.specs.Version.{Version}
use Rattle.zone_model.specs.Edits.{Refusal, OutOfZone, Incompatible, InvalidData, add, has_data, second_alias}
use Rattle.zone_model.specs.Updates.{Progress, Update, UpdateFault, Edit, AfterFinish, AddRecord, apply, apply_update, edited}

-- the order of the refusals
abbrev picked : Bool → Bool → Bool → Version → Result Version Refusal
picked u h s w = if not u then Err OutOfZone else if h then Err Incompatible else if s then Err InvalidData else Ok w

there : (rep u h s : Bool) (w : Version) → rep ≡ true → picked u h s w ≡ Err Incompatible → (rep && u && h) ≡ true
there rep true true s w k e = rw k refl
there rep true false true w k e = cc
there rep true false false w k e = cc
there rep false h s w k e = cc

elsewhere : (rep u h s : Bool) (w : Version) (res : Result Version Refusal) → picked u h s w ≡ res → (res ≡ Err Incompatible → ⊥) → (rep && u && h) ≡ false
elsewhere true true true s w res e ne = absurd (ne (sym e))
elsewhere true true false s w res e ne = refl
elsewhere true false h s w res e ne = refl
elsewhere false u h s w res e ne = refl

-- equal data are passed over
pub passed_over : (p : Progress) (r : Record) → p.replacing ≡ true → add p.pending r ≡ Err Incompatible → apply p (AddRecord r) ≡ Ok p
passed_over p r k e =
    let t : (p.replacing && under r.owner p.pending.apex && has_data p.pending r) ≡ true
    = there p.replacing (under r.owner p.pending.apex) (has_data p.pending r) (second_alias p.pending r) _ k e in
    rw t refl

-- .. or refused
pub not_passed : (p : Progress) (r : Record) → p.replacing ≡ false → add p.pending r ≡ Err Incompatible → apply p (AddRecord r) ≡ Err (Edit Incompatible)
not_passed p r k e =
    let t : (p.replacing && under r.owner p.pending.apex && has_data p.pending r) ≡ false = rw k refl in
    rw t (ap (edited p) e)

-- any other answer is that of the edit
pub edits_alike : (p : Progress) (r : Record) (res : Result Version Refusal) → add p.pending r ≡ res → (res ≡ Err Incompatible → ⊥) → apply p (AddRecord r) ≡ edited p res
edits_alike p r res e ne =
    let t : (p.replacing && under r.owner p.pending.apex && has_data p.pending r) ≡ false
    = elsewhere p.replacing (under r.owner p.pending.apex) (has_data p.pending r) (second_alias p.pending r) _ res e ne in
    rw t (ap (edited p) e)

pub added : (p : Progress) (r : Record) (w : Version) → add p.pending r ≡ Ok w → apply p (AddRecord r) ≡ Ok (record p { pending = w })
added p r w e = edits_alike p r (Ok w) e (λ h. cc)

pub refused_outside : (p : Progress) (r : Record) → add p.pending r ≡ Err OutOfZone → apply p (AddRecord r) ≡ Err (Edit OutOfZone)
refused_outside p r e = edits_alike p r (Err OutOfZone) e (λ h. cc)

pub refused_data : (p : Progress) (r : Record) → add p.pending r ≡ Err InvalidData → apply p (AddRecord r) ≡ Err (Edit InvalidData)
refused_data p r e = edits_alike p r (Err InvalidData) e (λ h. cc)

-- progress that isn't finished takes an update
pub not_finished : (p : Progress) (u : Update) → p.finished ≡ false → apply_update p u ≡ apply p u
not_finished p u f = let F : Bool → Result Progress UpdateFault = λ b. if b then Err AfterFinish else apply p u in ap F f

-- the same as updates of progress that isn't finished
pub update_passed : (p : Progress) (r : Record) → p.finished ≡ false → p.replacing ≡ true → add p.pending r ≡ Err Incompatible → apply_update p (AddRecord r) ≡ Ok p
update_passed p r f k e = not_finished p (AddRecord r) f ∙ passed_over p r k e

pub update_not_passed : (p : Progress) (r : Record) → p.finished ≡ false → p.replacing ≡ false → add p.pending r ≡ Err Incompatible → apply_update p (AddRecord r) ≡ Err (Edit Incompatible)
update_not_passed p r f k e = not_finished p (AddRecord r) f ∙ not_passed p r k e

pub update_added : (p : Progress) (r : Record) (w : Version) → p.finished ≡ false → add p.pending r ≡ Ok w → apply_update p (AddRecord r) ≡ Ok (record p { pending = w })
update_added p r w f e = not_finished p (AddRecord r) f ∙ added p r w e

pub update_outside : (p : Progress) (r : Record) → p.finished ≡ false → add p.pending r ≡ Err OutOfZone → apply_update p (AddRecord r) ≡ Err (Edit OutOfZone)
update_outside p r f e = not_finished p (AddRecord r) f ∙ refused_outside p r e

pub update_bad_data : (p : Progress) (r : Record) → p.finished ≡ false → add p.pending r ≡ Err InvalidData → apply_update p (AddRecord r) ≡ Err (Edit InvalidData)
update_bad_data p r f e = not_finished p (AddRecord r) f ∙ refused_data p r e
