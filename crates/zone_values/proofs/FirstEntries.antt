-- The first entry after a key.
use Rattle.std.proofs.Common.{◌≡◌, Bool, true, false, cond, ◌&&◌, List, [], ◌∷◌, refl, sym, ap, is_lt, Option, Some, None, option_map}
use Rattle.std.specs.List.{find}
use Rattle.std.specs.Map.Iter.{TakesFirst}
use Rattle.std.specs.BTreeMap.Range.{entries_between}
use Rattle.std.specs.declared.ops.Bound.TheVariants.{Excluded, Unbounded}
use Rattle.zone_model.specs.Version.{Key, key_cmp}

abbrev pub head_of : {X : Type 0} → List X → Option X
head_of [] = None
head_of (x ∷ xs) = Some x

-- what `next` of a map's iterator gives
pub takes_head : {A X : Type 0} (shows : A → X) (s : List X) (r : Option A) (t : List X) → TakesFirst shows s r t → option_map shows r ≡ head_of s
takes_head shows s None t h = ap head_of (sym h.0)
takes_head shows s (Some x) t h = ap head_of (sym h)

-- the first of what a range after a key holds
pub first_of_range : {X : Type 0} (k : Key) (es : List (Key × X)) → head_of (entries_between key_cmp (Excluded k) Unbounded es) ≡ find (λ (e : Key × X). is_lt (key_cmp k e.0)) es
first_of_range k [] = refl
first_of_range {X} k (e ∷ es) = by (is_lt (key_cmp k e.0)) (first_of_range k es)
  where
    by : (b : Bool) → head_of (entries_between key_cmp (Excluded k) Unbounded es) ≡ find (λ (f : Key × X). is_lt (key_cmp k f.0)) es
        → head_of (cond (b && true) (e ∷ entries_between key_cmp (Excluded k) Unbounded es) (entries_between key_cmp (Excluded k) Unbounded es)) ≡ cond b (Some e) (find (λ (f : Key × X). is_lt (key_cmp k f.0)) es)
    by true h = refl
    by false h = h
