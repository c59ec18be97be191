-- What is sent of versions whose records have wire forms, and a version as its walk tells it.
use Rattle.std.proofs.Common.{◌≡◌, ℕ, ◌^◌, ◌<◌, Bool, true, false, if◌then◌else◌, List, [], ◌∷◌, map, refl, sym, subst, Some, None}
use Rattle.std.specs.Prelude.{IsTrue, is_some}
use Rattle.std.specs.List.{All, AllByRecursion, last_or}
use Rattle.std.proofs.lemmas.List.Elements.{All-head, All-tail}
use Rattle.dns_name.specs.Names.{Name, same_name, is_name}
use Rattle.dns_rdata.specs.Records.{Field, is_data}
use Rattle.zone_model.specs.Version.{RecordSet, Key, Sets, Version}
use Rattle.zone_model.specs.Answer.{highest_cut}
use Rattle.zone_model.specs.Walk.{Stop, shown_owner, walk}
use Rattle.zone_model.specs.TransferText.{Mode, Axfr, Ixfr}
use Rattle.zone_model.specs.Offer.{Offer, IsHistory, text_of, whole_text}
use Rattle.zone_model.proofs.ChangesText.{last_published}
use Rattle.zone_model.proofs.Folded.{same_name-Decides}
use Rattle.xfr_client.specs.SoFar.{authority_of}
use Rattle.zone_sync.specs.Forms.{HaveForms, IsEntry, IsWritableStop, IsWritable}
use Rattle.zone_sync.specs.Fitting.{told_offer}
use Rattle.zone_sync.proofs.HonestNames.{same_is_name}
use Rattle.zone_sync.proofs.WritableVersions.{IsWritableDifference, history_differences, soa_forms, whole_forms, text_forms}

-- the last of a history
last_of : (history : List Version) (u : Version) → last_or None history ≡ Some u → AllByRecursion IsWritable history → IsWritable u
last_of [] u e a = absurd (cc e)
last_of (v ∷ more) u e a = last_published IsWritable v more u e a

pub told_forms : (offer : Offer) (mode : Mode) (asked : ℕ) (history : List Version) → IsHistory (told_offer mode offer) history → AllByRecursion IsWritable history → HaveForms (text_of offer mode asked)
told_forms offer Axfr asked history h a = whole_forms offer.version (last_of history offer.version h.ends a)
told_forms offer Ixfr asked history h a =
    text_forms offer Ixfr asked (last_of history offer.version h.ends a) (subst (AllByRecursion IsWritableDifference) (sym h.tells) (history_differences history a))

pub asked_forms : (mode : Mode) (base : Version) → IsWritable base → HaveForms (authority_of mode base)
asked_forms Axfr base h = tt
asked_forms Ixfr base h = soa_forms base h

-- ---- a walk

-- data of one type
pub pieces : {D : Type 0} (type : D → ℕ) (fields : D → List Field) (rtype : ℕ) (ds : List D) → All (λ d. type d ≡ rtype) ds → AllByRecursion (λ d. IsTrue (is_data (type d) (fields d))) ds
    → AllByRecursion (λ x. IsTrue (is_data rtype x)) (map fields ds)
pieces type fields rtype [] same a = tt
pieces type fields rtype (d ∷ ds) same a =
    (subst (λ t. IsTrue (is_data t (fields d))) (All-head (λ x. type x ≡ rtype) d ds same) a.0, pieces type fields rtype ds (All-tail (λ x. type x ≡ rtype) d ds same) a.1)

module _ (v : Version) (apex : IsTrue (is_name v.apex)) (class : v.class < 2 ^ 16) where
  -- an owner that is shown as the apex is that, in lower case
  own_name : (n : Name) → IsTrue (is_name (shown_owner v n)) → IsTrue (is_name n)
  own_name n h = by (same_name n v.apex) refl h
    where
      by : (b : Bool) → same_name n v.apex ≡ b → IsTrue (is_name (if b then v.apex else n)) → IsTrue (is_name n)
      by true e shown = same_is_name v.apex n ((same_name-Decides v.apex n).1 (sym ((same_name-Decides n v.apex).0 e))) apex
      by false e shown = shown

  entries : (es : Sets) → AllByRecursion IsWritableStop (map (λ (e : Key × RecordSet). record { owner = shown_owner v e.0.0; rtype = e.0.1; contents = e.1; below_cut = is_some (highest_cut v e.0.0) }) es) → AllByRecursion IsEntry es
  entries [] a = tt
  entries (e ∷ es) a = (record { owner = own_name e.0.0 a.0.owner; rtype = a.0.rtype; contents = a.0.contents }, entries es a.1)

  pub walked : AllByRecursion IsWritableStop (walk v) → IsWritable v
  walked a = record { apex = apex; class = class; sets = entries v.sets a }
