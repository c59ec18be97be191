-- What a write in place makes of entries in order.
use Rattle.std.proofs.Common.{◌≡◌, ℕ, true, cond, List, [], ◌∷◌, refl, sym, ap, ◌∙◌, true≢false, Ordering, Less, Equal, Greater, Option, Some, None, option_map, unwrap_or, is_some, is_eq, nat_cmp, subst, ◌≤◌, length, Result, Ok, Err, OnOk, OnErr}
use Rattle.std.specs.Ordering.{match_ordering}
use Rattle.std.specs.Cmp.{IsTotalOrder, nat_cmp_total}
use Rattle.std.specs.List.Sorted.{IsStrictlySortedBy}
use Rattle.std.specs.BTreeMap.{insert_entry, is_at}
use Rattle.std.specs.Map.{keys_of, lookup, set_value}
use Rattle.std.proofs.lemmas.Map.{lookup-none}
use Rattle.std.proofs.lemmas.Map.Keys.{sorted_tail}
use Rattle.std.proofs.lemmas.Map.Entries.{none_below_head}
use Rattle.std.proofs.lemmas.Map.Steps.{set_value_same}
use Rattle.zone_model.specs.Version.{RecordSet}
use Rattle.dns_name.specs.Names.{Name}
use Rattle.zone_versions.specs.Trees.{NodeSets, Nodes, type_in}
use Rattle.zone_versions.specs.Ways.{put_steps}

module _ {K X : Type 0} {R : K → K → Ordering} (o : IsTotalOrder R) where
  -- a value written where a key stands is an insertion
  pub write_is_insertion : (es : List (K × X)) (k : K) (s w : X) → IsStrictlySortedBy R (keys_of es) → lookup (is_at (R k)) es ≡ Some s → set_value (is_at (R k)) es w ≡ insert_entry R es k w
  write_is_insertion [] k s w h f = absurd (true≢false (sym (ap is_some f)))
  write_is_insertion (e ∷ es) k s w h f = by (R k e.0) refl f (λ g. write_is_insertion es k s w (sorted_tail R e.0 (keys_of es) h) g)
    where
      by : (r : Ordering) → R k e.0 ≡ r → cond (is_eq r) (Some e.1) (lookup (is_at (R k)) es) ≡ Some s → (lookup (is_at (R k)) es ≡ Some s → set_value (is_at (R k)) es w ≡ insert_entry R es k w)
          → cond (is_eq r) ((e.0, w) ∷ es) (e ∷ set_value (is_at (R k)) es w) ≡ match_ordering r ((k, w) ∷ e ∷ es) ((e.0, w) ∷ es) (e ∷ insert_entry R es k w)
      by Less p g later =
          let none : lookup (is_at (R k)) (e ∷ es) ≡ None = lookup-none _ (e ∷ es) (none_below_head o k e es h p) in
          absurd (true≢false (ap is_some (sym f ∙ none)))
      by Equal p g later = refl
      by Greater p g later = ap (λ l. e ∷ l) (later g)

  -- and what stands there is written without effect
  pub insert_same : (es : List (K × X)) (k : K) (s : X) → IsStrictlySortedBy R (keys_of es) → lookup (is_at (R k)) es ≡ Some s → insert_entry R es k s ≡ es
  insert_same es k s h f = sym (write_is_insertion es k s s h f) ∙ set_value_same (is_at (R k)) es s f

  -- .. whether the write succeeds or leaves all as it was
  pub same_either_way : {T E : Type 0} (r : Result T E) (now es : List (K × X)) (k : K) (s : X) → IsStrictlySortedBy R (keys_of es) → lookup (is_at (R k)) es ≡ Some s → OnOk r (now ≡ insert_entry R es k s) → OnErr r (now ≡ es) → now ≡ es
  same_either_way (Ok x) now es k s h f ok err = ok ∙ insert_same es k s h f
  same_either_way (Err e) now es k s h f ok err = err

-- an edit of a set that is there counts one
pub one_counted : (nodes : Nodes) (n : Name) (t : ℕ) (s : RecordSet) (x : Option NodeSets) → is_some (type_in x t) ≡ true → put_steps nodes n t s x ≡ 1
one_counted nodes n t s None h = absurd (true≢false (sym h))
one_counted nodes n t s (Some held) h = refl
