-- Entries in order, and parts of them.
use Rattle.std.proofs.Common.{◌≡◌, ℕ, ◌+◌, ◌-◌, ◌≤◌, ◌<◌, Bool, true, false, List, [], ◌∷◌, ◌++◌, map, take, drop, get_or, length, refl, sym, ap, ◌∙◌, subst, subst₂, Less, inl, inr, ⊎_elim, eq-or-lt_of_le, arith}
use Rattle.std.specs.List.{AllByRecursion, AllWithin}
use Rattle.std.specs.List.Sorted.{IsStrictlySortedBy, IsPartitionedBy}
use Rattle.std.specs.Map.{keys_of}
use Rattle.std.specs.declared.sync.Arc.{Arc}
use Rattle.std.specs.Arc.{arc_value}
use Rattle.std.proofs.lemmas.List.{get_or-map, length-map, length-take-le, length-drop, get_or-take, get_or-drop, take-map, drop-map}
use Rattle.std.proofs.lemmas.List.Elements.{recursion_from_All}
use Rattle.std.proofs.lemmas.Map.Keys.{sorted_head, sorted_tail, Less-from_sorted}
use Rattle.paged_map.specs.declared.marks.Mark.{Mark}
use Rattle.paged_map.specs.Octets.{octets_cmp, passes, reaches}
use Rattle.paged_map.specs.Pages.{Ascend, Passed, Ahead, Unreached, values_in}
use Rattle.paged_map.proofs.MarkOrder.{passes_reached, unreached_rises, ahead_unreached}

pub sorted_none : IsStrictlySortedBy octets_cmp []
unfolding IsStrictlySortedBy
sorted_none = tt

pub sorted_cons : (k : List ℕ) (ks : List (List ℕ)) → AllByRecursion (λ y. octets_cmp k y ≡ Less) ks → IsStrictlySortedBy octets_cmp ks → IsStrictlySortedBy octets_cmp (k ∷ ks)
unfolding IsStrictlySortedBy
sorted_cons k ks a s = (a, s)

pub map_map : {X Y Z : Type 0} (f : X → Y) (h : Y → Z) (xs : List X) → map h (map f xs) ≡ map (λ x. h (f x)) xs
map_map f h [] = refl
map_map f h (x ∷ xs) = ap (λ l. h (f x) ∷ l) (map_map f h xs)

module _ {X : Type 0} where
  module _ (P : X → Type 0) where
    pub all_joined : (xs ys : List X) → AllByRecursion P xs → AllByRecursion P ys → AllByRecursion P (xs ++ ys)
    all_joined [] ys a b = b
    all_joined (x ∷ xs) ys a b = (a.0, all_joined xs ys a.1 b)

    pub all_front : (xs ys : List X) → AllByRecursion P (xs ++ ys) → AllByRecursion P xs
    all_front [] ys a = tt
    all_front (x ∷ xs) ys a = (a.0, all_front xs ys a.1)

    pub all_back : (xs ys : List X) → AllByRecursion P (xs ++ ys) → AllByRecursion P ys
    all_back [] ys a = a
    all_back (x ∷ xs) ys a = all_back xs ys a.1

    -- what holds of each below a place and of each from there on
    pub all_take : (xs : List X) (i : ℕ) → i ≤ length xs → AllWithin P xs 0 i → AllByRecursion P (take i xs)
    all_take xs i fits w =
        recursion_from_All P (take i xs) (λ k d h.
        let less : k < i = subst (λ n. k < n) (length-take-le i xs fits) h in
        subst P (sym (get_or-take i xs k d less)) (w k d (omega arith) less))

    pub all_drop : (xs : List X) (i : ℕ) → AllWithin P xs i (length xs) → AllByRecursion P (drop i xs)
    all_drop xs i w =
        recursion_from_All P (drop i xs) (λ k d h.
        let less : k < length xs - i = subst (λ n. k < n) (length-drop i xs) h in
        subst P (sym (get_or-drop i xs k d)) (w (i + k) d (omega arith) (omega (arith, less))))

  -- no search goes past a key that fails its test, where the keys ascend
  pub parted_by : (test : List ℕ → Bool) → ((x y : List ℕ) → octets_cmp x y ≡ Less → test y ≡ true → test x ≡ true)
      → (key : X → List ℕ) (xs : List X) → IsStrictlySortedBy octets_cmp (map key xs) → IsPartitionedBy (λ x. test (key x)) xs
  parted_by test falls key xs s i j d up below at =
      ⊎_elim (λ e. subst (λ k. test (key (get_or xs k d)) ≡ true) (sym e) at) (λ less.
      let before : i < length xs = omega (arith, less, below) in
      let h : octets_cmp (get_or (map key xs) i []) (get_or (map key xs) j []) ≡ Less = Less-from_sorted octets_cmp (map key xs) i j [] s less (subst (λ n. j < n) (sym (length-map xs key)) below) in
      falls (key (get_or xs i d)) (key (get_or xs j d)) (subst₂ (λ a b. octets_cmp a b ≡ Less) (get_or-map key xs i d [] before) (get_or-map key xs j d [] below) h) at) (eq-or-lt_of_le up)

-- the key of a shared entry
abbrev pub key_in : {V Z : Type 0} → Arc (List ℕ × V) Z → List ℕ
key_in {V} {Z} y = (arc_value y).0

abbrev pub Es : Type 0 → Type 0
Es V = List (List ℕ × V)

module _ {V : Type 0} where
  abbrev pub AllBelow : List ℕ → Es V → Type 0
  AllBelow k es = AllByRecursion (λ y. octets_cmp k y ≡ Less) (keys_of es)

  pub below_front : (k : List ℕ) (xs ys : Es V) → AllBelow k (xs ++ ys) → AllBelow k xs
  below_front k [] ys a = tt
  below_front k (x ∷ xs) ys a = (a.0, below_front k xs ys a.1)

  pub below_back : (k : List ℕ) (xs ys : Es V) → AllBelow k (xs ++ ys) → AllBelow k ys
  below_back k [] ys a = a
  below_back k (x ∷ xs) ys a = below_back k xs ys a.1

  pub ascend_back : (xs ys : Es V) → Ascend (xs ++ ys) → Ascend ys
  ascend_back [] ys s = s
  ascend_back (x ∷ xs) ys s = ascend_back xs ys (sorted_tail octets_cmp x.0 (keys_of (xs ++ ys)) s)

  pub ascend_front : (xs ys : Es V) → Ascend (xs ++ ys) → Ascend xs
  ascend_front [] ys s = sorted_none
  ascend_front (x ∷ xs) ys s = sorted_cons x.0 (keys_of xs) (below_front x.0 xs ys (sorted_head octets_cmp x.0 (keys_of (xs ++ ys)) s)) (ascend_front xs ys (sorted_tail octets_cmp x.0 (keys_of (xs ++ ys)) s))

  -- what stands before a key to which a page reaches is before the mark
  pub passed_front : (m : Mark) (xs : Es V) (e : List ℕ × V) (ys : Es V) → Ascend (xs ++ (e ∷ ys)) → reaches m e.0 ≡ true → Passed m xs
  passed_front m [] e ys s r = tt
  passed_front m (x ∷ xs) e ys s r =
      (passes_reached m x.0 e.0 (below_back x.0 xs (e ∷ ys) (sorted_head octets_cmp x.0 (keys_of (xs ++ (e ∷ ys))) s)).0 r, passed_front m xs e ys (sorted_tail octets_cmp x.0 (keys_of (xs ++ (e ∷ ys))) s) r)

  -- what stands after a key to which no page reaches isn't reached either
  unreached_rest : (m : Mark) (k : List ℕ) (es : Es V) → AllBelow k es → reaches m k ≡ false → Unreached m es
  unreached_rest m k [] b f = tt
  unreached_rest m k (e ∷ es) b f = (unreached_rises m k e.0 b.0 f, unreached_rest m k es b.1 f)

  pub unreached_all : (m : Mark) (e : List ℕ × V) (es : Es V) → Ascend (e ∷ es) → reaches m e.0 ≡ false → Unreached m (e ∷ es)
  unreached_all m e es s f = (f, unreached_rest m e.0 es (sorted_head octets_cmp e.0 (keys_of es) s) f)

  pub ahead_of_unreached : (m : Mark) (es : Es V) → Unreached m es → Ahead m es
  ahead_of_unreached m [] u = tt
  ahead_of_unreached m (e ∷ es) u = (ahead_unreached m e.0 u.0, ahead_of_unreached m es u.1)

  -- the entries of a page are shared: what holds of each is said of what they are
  pub keys_of_values : {Z : Type 0} (es : List (Arc (List ℕ × V) Z)) → keys_of (values_in es) ≡ map key_in es
  keys_of_values es = map_map arc_value (λ e. e.0) es

  all_values : {Z : Type 0} (P : List ℕ × V → Type 0) (es : List (Arc (List ℕ × V) Z)) → AllByRecursion (λ y. P (arc_value y)) es → AllByRecursion P (values_in es)
  all_values P [] a = tt
  all_values P (e ∷ es) a = (a.0, all_values P es a.1)

  pub passed_part : {Z : Type 0} (m : Mark) (es : List (Arc (List ℕ × V) Z)) (i : ℕ) → i ≤ length es → AllWithin (λ y. passes m (key_in y) ≡ true) es 0 i → Passed m (take i (values_in es))
  passed_part m es i fits w = subst (Passed m) (sym (take-map arc_value i es)) (all_values (λ e. passes m e.0 ≡ true) (take i es) (all_take (λ y. passes m (key_in y) ≡ true) es i fits w))

  pub ahead_part : {Z : Type 0} (m : Mark) (es : List (Arc (List ℕ × V) Z)) (i : ℕ) → AllWithin (λ y. passes m (key_in y) ≡ false) es i (length es) → Ahead m (drop i (values_in es))
  ahead_part m es i w = subst (Ahead m) (sym (drop-map arc_value i es)) (all_values (λ e. passes m e.0 ≡ false) (drop i es) (all_drop (λ y. passes m (key_in y) ≡ false) es i w))
