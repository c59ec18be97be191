-- An edit builds few nodes.
use Rattle.std.proofs.Common.{◌≡◌, ℕ, ◌+◌, ◌-◌, ◌≤◌, Bool, true, false, cond, ◌&&◌, not, ◌==◌, if◌then◌else◌, List, [], ◌∷◌, length, filter, refl, sym, ap, ◌∙◌, true≢false, ⊎_elim, arith, Option, Some, None}
use Rattle.std.specs.Cmp.{first_so, second_so}
use Rattle.std.specs.Str.{str_to_ascii_lowercase}
use Rattle.std.proofs.lemmas.List.{length-map}
use Rattle.dns_name.specs.Names.{Name, fold, under, upwards}
use Rattle.zone_model.specs.Version.{RecordSet, Version, key_cmp, exists}
use Rattle.zone_model.specs.Edits.{with_sets}
use Rattle.std.specs.BTreeMap.{insert_entry}
use Rattle.zone_versions.specs.Trees.{in_tree, with_set, touches, built}
use Rattle.zone_versions.proofs.Above.{under_cases, under_root, under_longest}
use Rattle.zone_versions.proofs.Existing.{apex_in_tree}

module _ (v w : Version) (same : w.apex ≡ v.apex) where
  abbrev begins : Name → Bool
  begins n = in_tree w n && not (in_tree v n)

  below : (n : Name) → begins n ≡ true → (under n v.apex ≡ true) × (fold n ≡ fold v.apex → ⊥)
  below n h = (
    ap (under n) (sym same) ∙ first_so (under n w.apex) (exists w n) (first_so (in_tree w n) (not (in_tree v n)) h),
    λ e. true≢false (sym (second_so (in_tree w n) (not (in_tree v n)) h) ∙ ap not (apex_in_tree v n e)),
  )

  abbrev root_if : Bool → List Name
  root_if b = cond b ([] ∷ []) []

  few_begin : (n : Name) → length (filter begins (upwards n)) ≤ length n - length v.apex
  few_begin [] = by (begins []) refl
    where
      by : (b : Bool) → begins [] ≡ b → length (root_if b) ≤ 0 - length v.apex
      by true e = absurd ((below [] e).1 (under_root v.apex (below [] e).0))
      by false e = omega arith
  few_begin (l ∷ n) = by (begins (l ∷ n)) refl (few_begin n)
    where
      long : under (l ∷ n) v.apex ≡ true → (fold (l ∷ n) ≡ fold v.apex → ⊥) → length v.apex ≤ length n
      long u apart = ⊎_elim (λ e. absurd (apart e)) (λ r. under_longest n v.apex r) (under_cases l n v.apex u)

      by : (b : Bool) → begins (l ∷ n) ≡ b → length (filter begins (upwards n)) ≤ length n - length v.apex → length (cond b ((l ∷ n) ∷ filter begins (upwards n)) (filter begins (upwards n))) ≤ length (l ∷ n) - length v.apex
      by true e h = let k : length v.apex ≤ length n = long (below (l ∷ n) e).0 (below (l ∷ n) e).1 in omega arith
      by false e h = omega arith

at_most_one : (b : Bool) → (if b then 1 else 0) ≤ 1
at_most_one true = omega arith
at_most_one false = omega arith

few_of : (v w : Version) → w.apex ≡ v.apex → (owner : Name) (rtype : ℕ) → built v w owner rtype ≤ length owner - length v.apex + 1
few_of v w same owner rtype =
    let few = few_begin v w same (fold owner) in
    let l : length (fold owner) ≡ length owner = length-map owner str_to_ascii_lowercase in
    let one = at_most_one (in_tree v owner && in_tree w owner && touches v w owner rtype) in
    omega (arith, few, l, one)

pub few_built : (v : Version) (owner : Name) (rtype : ℕ) (s : Option RecordSet) → built v (with_set v owner rtype s) owner rtype ≤ length owner - length v.apex + 1
few_built v owner rtype None = few_of v (with_set v owner rtype None) refl owner rtype
few_built v owner rtype (Some s) = few_of v (with_set v owner rtype (Some s)) (by (length s.items == 0)) owner rtype
  where
    by : (b : Bool) → (if b then with_set v owner rtype None else with_sets v (insert_entry key_cmp v.sets (fold owner, rtype) s)).apex ≡ v.apex
    by true = refl
    by false = refl
