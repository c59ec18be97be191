-- Sets put into a version in their order.
use Rattle.std.proofs.Common.{◌≡◌, [], ◌∷◌, ◌++◌, refl, ap, ◌∙◌, Less}
use Rattle.std.specs.List.{AllByRecursion}
use Rattle.std.specs.List.Sorted.{IsStrictlySortedBy}
use Rattle.std.specs.BTreeMap.{insert_entry}
use Rattle.std.specs.Map.{keys_of}
use Rattle.std.specs.Ordering.{ordering_reverse, match_ordering}
use Rattle.std.proofs.lemmas.Map.Keys.{sorted_head, sorted_tail}
use Rattle.zone_model.specs.Version.{RecordSet, Key, Sets, key_cmp}
use Rattle.zone_model.proofs.Folded.{key_total}

next_all : (P : Key → Type 0) (es : Sets) (e : Key × RecordSet) (rest : Sets) → AllByRecursion P (keys_of (es ++ e ∷ rest)) → P e.0
next_all P [] e rest a = a.0
next_all P (d ∷ es) e rest a = next_all P es e rest a.1

-- the next set comes last
pub put_last : (es : Sets) (e : Key × RecordSet) (rest : Sets) → IsStrictlySortedBy key_cmp (keys_of (es ++ e ∷ rest)) → insert_entry key_cmp es e.0 e.1 ≡ es ++ e ∷ []
put_last [] e rest s = refl
put_last (d ∷ es) e rest s =
    ap (λ o. match_ordering o (e ∷ d ∷ es) ((d.0, e.1) ∷ es) (d ∷ insert_entry key_cmp es e.0 e.1))
    (key_total.antisymm e.0 d.0 ∙ ap ordering_reverse (next_all (λ k. key_cmp d.0 k ≡ Less) es e rest (sorted_head key_cmp d.0 (keys_of (es ++ e ∷ rest)) s)))
    ∙ ap (λ l. d ∷ l) (put_last es e rest (sorted_tail key_cmp d.0 (keys_of (es ++ e ∷ rest)) s))
