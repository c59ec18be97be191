-- What an edit of a list of data leaves of its index.
use Rattle.std.proofs.Common.{◌≡◌, Bool, true, false, cond, ◌||◌, ◌&&◌, not, List, [], ◌∷◌, ◌++◌, refl, sym, ap, ◌∙◌, subst}
use Rattle.std.specs.Ordering.{is_eq}
use Rattle.std.specs.List.{list_any, filter}
use Rattle.std.specs.BTreeSet.{BTreeSet, Updates, IsUnchanged}
use Rattle.std.proofs.lemmas.List.Folds.{list_any-append}
use Rattle.std.proofs.lemmas.Map.Views.{any-filter_same}
use Rattle.dns_rdata.specs.Records.{Field, same_data}
use Rattle.dns_rdata.specs.SameData.{same_data_equiv}
use Rattle.dns_rdata.specs.DataOrder.{data_cmp}
use Rattle.dns_rdata.specs.DataTies.{data_ties}
use Rattle.zone_values.specs.DataIndex.{Indexes}

-- an index of the same keys
pub kept : (s n : BTreeSet (List Field)) → IsUnchanged s n → (items : List (List Field)) → Indexes items s → Indexes items n
kept s n e items was d = ap (list_any (λ k. is_eq (data_cmp d k))) e ∙ was d

either : (b c : Bool) → cond b true c ≡ (c || (b || false))
either true true = refl
either true false = refl
either false true = refl
either false false = refl

-- a datum put last
pub with_last : (s n : BTreeSet (List Field)) (k : List Field) → Updates data_cmp s n k true → (items : List (List Field)) → Indexes items s → Indexes (items ++ k ∷ []) n
with_last s n k u items was d =
    u.0 d ∙ (λ i. cond (sym (data_ties k d) i) true (was d i)) ∙ ap (λ b. cond b true (list_any (same_data d) items)) (same_data_equiv.symm k d)
    ∙ either (same_data d k) (list_any (same_data d) items) ∙ sym (list_any-append (same_data d) items (k ∷ []))

neither : (b c : Bool) → cond b false c ≡ (not b && c)
neither true c = refl
neither false c = refl

-- equal data taken out
without_key : (s n : BTreeSet (List Field)) (k : List Field) → Updates data_cmp s n k false → (items : List (List Field)) → Indexes items s
    → Indexes (filter (λ d. not (same_data k d)) items) n
without_key s n k u items was d =
    u.0 d ∙ (λ i. cond (sym (data_ties k d) i) false (was d i)) ∙ neither (same_data k d) (list_any (same_data d) items)
    ∙ sym (any-filter_same (same_data d) (λ x. not (same_data k x)) (not (same_data k d)) alike items)
  where
    alike : (x : List Field) → same_data d x ≡ true → not (same_data k x) ≡ not (same_data k d)
    alike x e = ap not (same_data_equiv.symm k x ∙ sym (same_data_equiv.congr d x k e) ∙ same_data_equiv.symm d k)

pub without_item : (s n : BTreeSet (List Field)) (k d : List Field) → k ≡ d → Updates data_cmp s n k false → (items : List (List Field)) → Indexes items s
    → Indexes (filter (λ x. not (same_data d x)) items) n
without_item s n k d e u = without_key s n d (subst (λ l. Updates data_cmp s n l false) e u)
