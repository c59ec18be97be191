-- Two versions are the same, set by set of their trees; and the stops of a version are its sets.
use Rattle.std.proofs.Common.{◌≡◌, is_some, ◌&&◌, List, [], ◌∷◌, map, refl, sym, ap, subst, ◌∙◌, bytes_eq}
use Rattle.std.specs.List.{AllByRecursion, list_all, list_any}
use Rattle.std.specs.List.Sorted.{IsStrictlySortedBy}
use Rattle.std.specs.Cmp.Lexicographic.{pointwise, bytes_decides}
use Rattle.std.specs.Map.{keys_of}
use Rattle.std.proofs.lemmas.Bool.Decides.{same_from_decides}
use Rattle.std.proofs.lemmas.List.Folds.{list_all-map}
use Rattle.dns_name.specs.Names.{Name, fold, same_name}
use Rattle.dns_rdata.specs.Records.{Field, same_data}
use Rattle.name_keys.specs.NameKeys.{name_key}
use Rattle.name_keys.proofs.Reading.{one_key}
use Rattle.zone_model.specs.Version.{RecordSet, Key, Sets, Version, key_cmp, same_entry}
use Rattle.zone_model.specs.Walk.{Stop, shown_owner}
use Rattle.zone_model.specs.Answer.{highest_cut}
use Rattle.zone_model.proofs.Folded.{IsFolded}
use Rattle.zone_model.proofs.Valid.{valid_good}
use Rattle.zone_model.proofs.Phases.{shown_folds}
use Rattle.zone_versions.specs.Held.{told}
use Rattle.zone_reads.specs.Stops.{same_told, key_of, entry_of, VisitsOnce}

-- names are the same where their keys are (RFC 4343, 3)
same_by_keys_of : (m n : Name) → bytes_eq (name_key m) (name_key n) ≡ same_name m n
same_by_keys_of m n =
    same_from_decides (bytes_eq (name_key m) (name_key n)) (same_name m n) (bytes_decides (name_key m) (name_key n)) (one_key m n)

-- .. and in lower case label by label
pub same_by_keys : (m n : Name) → fold m ≡ m → fold n ≡ n → bytes_eq (name_key m) (name_key n) ≡ pointwise bytes_eq m n
same_by_keys m n f g = same_by_keys_of m n ∙ (λ i. pointwise bytes_eq (f i) (g i))

-- the sets as a tree gives them are compared as entries
pub same_sets : (es fs : Sets) → pointwise same_entry es fs ≡ pointwise same_told (map told es) (map told fs)
same_sets [] [] = refl
same_sets [] (q ∷ fs) = refl
same_sets (p ∷ es) [] = refl
same_sets (p ∷ es) (q ∷ fs) = λ i. same_entry p q && same_sets es fs i

-- data that have their equals among others, read through what they stand for
module _ {D : Type 0} (f : D → List Field) where
  pub all_among : (xs : List D) (ys zs : List (List Field)) → map f xs ≡ zs → list_all (λ x. list_any (same_data (f x)) ys) xs ≡ list_all (λ z. list_any (same_data z) ys) zs
  all_among xs ys zs is = sym (list_all-map (λ z. list_any (same_data z) ys) f xs) ∙ ap (list_all (λ z. list_any (same_data z) ys)) is

-- the stops of a version are its sets
abbrev stops : Version → Sets → List Stop
stops v es = map (λ (e : Key × RecordSet). record { owner = shown_owner v e.0.0; rtype = e.0.1; contents = e.1; below_cut = is_some (highest_cut v e.0.0) }) es

entries_read : (v : Version) (es : Sets) → AllByRecursion IsFolded (keys_of es) → map entry_of (stops v es) ≡ es
entries_read v [] f = refl
entries_read v (e ∷ es) f = λ i. (((shown_folds v e.0.0 ∙ f.0) i, e.0.1), e.1) ∷ entries_read v es f.1 i

keys_read : (v : Version) (es : Sets) → AllByRecursion IsFolded (keys_of es) → map key_of (stops v es) ≡ keys_of es
keys_read v [] f = refl
keys_read v (e ∷ es) f = λ i. ((shown_folds v e.0.0 ∙ f.0) i, e.0.1) ∷ keys_read v es f.1 i

pub visits_once : VisitsOnce
visits_once v h =
    let folded = (valid_good v h).folded in
    (entries_read v v.sets folded, subst (λ keys. IsStrictlySortedBy key_cmp keys) (sym (keys_read v v.sets folded)) h.ordered)
