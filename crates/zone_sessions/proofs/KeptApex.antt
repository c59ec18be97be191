-- Edits keep a version's apex and class.
use Rattle.std.proofs.Common.{◌≡◌, ℕ, ◌==◌, Bool, true, false, ◌||◌, not, if◌then◌else◌, List, [], ◌∷◌, ◌++◌, length, fold, refl, ap, ◌∙◌, Option, unwrap_or, Result, Ok, Err, OnOk, OnErr}
use Rattle.std.specs.BTreeMap.{insert_entry}
use Rattle.dns_name.specs.Names.{Name}
use Rattle.dns_name.specs.Names as names
use Rattle.dns_numbers.specs.Codes.{type_ns, type_ds}
use Rattle.dns_rdata.specs.Records.{Record}
use Rattle.zone_model.specs.Version.{RecordSet, Version, key_cmp}
use Rattle.zone_model.specs.Edits.{with_sets, put_set, remove_set, has_data, add_glue, make_cut, distinct_set}
use Rattle.zone_versions.specs.Nodes.{is_address_in, with_glue}

-- the apex and the class
abbrev pub place : Version → Name × ℕ
place v = (v.apex, v.class)

pub put_place : (v : Version) (n : Name) (t : ℕ) (s : RecordSet) → place (put_set v n t s) ≡ place v
put_place v n t s = by (length s.items == 0)
  where
    by : (b : Bool) → place (if b then remove_set v n t else with_sets v (insert_entry key_cmp v.sets (names.fold n, t) s)) ≡ place v
    by true = refl
    by false = refl

glue_place : (v : Version) (r : Record) → place (add_glue v r) ≡ place v
glue_place v r = by (not (is_address_in v r) || has_data v r)
  where
    by : (b : Bool) → place (if b then v else with_glue v r) ≡ place v
    by true = refl
    by false = put_place v r.owner r.rtype _

glues_place : (v : Version) (rs : List Record) → place (fold add_glue v rs) ≡ place v
glues_place v [] = refl
glues_place v (r ∷ rs) = glues_place (add_glue v r) rs ∙ glue_place v r

pub cut_place : (v : Version) (n : Name) (s : RecordSet) (d : Option RecordSet) (rs : List Record) → place (make_cut v n s d rs) ≡ place v
cut_place v n s d rs =
    let servers : RecordSet = distinct_set s in
    let signer : RecordSet = distinct_set (unwrap_or d (record { ttl = 0; items = [] })) in
    glues_place (put_set (put_set v n type_ns servers) n type_ds signer) rs ∙ put_place (put_set v n type_ns servers) n type_ds signer ∙ put_place v n type_ns servers

pub cut_apex : (v : Version) (n : Name) (s : RecordSet) (d : Option RecordSet) (rs : List Record) → (make_cut v n s d rs).apex ≡ v.apex
cut_apex v n s d rs = ap (λ (p : Name × ℕ). p.0) (cut_place v n s d rs)

-- an edit, done or refused, of a version that was taken out
pub kept : {T E : Type 0} (r : Result T E) (u v w x : Version) → v ≡ u → OnOk r (w ≡ x) → OnErr r (w ≡ v) → place x ≡ place v → place w ≡ place u
kept (Ok t) u v w x taken ok err h = ap place ok ∙ h ∙ ap place taken
kept (Err e) u v w x taken ok err h = ap place err ∙ ap place taken
