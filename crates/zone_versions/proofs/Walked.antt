-- The sets of nodes in order, with their owners.
use Rattle.std.proofs.Common.{◌≡◌, ℕ, ◌<◌, ◌≤◌, Bool, true, false, cond, List, [], ◌∷◌, ◌++◌, map, filter, find, drop, refl, sym, ap, ◌∙◌, arith, true≢false, if◌then◌else◌, Ordering, Less, Equal, Greater, Option, Some, None, is_eq, is_lt, is_le, nat_cmp, option_map, Bor}
use Rattle.std.specs.Ordering.{ordering_then, MatchOrdering}
use Rattle.std.specs.Cmp.{nat_cmp_total, nat_cmp_is, ranks}
use Rattle.std.specs.Iterator.{YieldsFirst}
use Rattle.std.specs.List.{AllByRecursion}
use Rattle.std.specs.List.Sorted.{IsStrictlySortedBy}
use Rattle.std.specs.Map.{keys_of}
use Rattle.std.specs.Map.Iter.{TakesFirst, deref}
use Rattle.std.proofs.lemmas.List.{map-append}
use Rattle.std.proofs.lemmas.List.Elements.{filter-append}
use Rattle.std.proofs.lemmas.Map.Keys.{sorted_head}
use Rattle.dns_name.specs.Names.{Name, canonical_cmp}
use Rattle.dns_name.specs.NameOrder.{canonical_total}
use Rattle.zone_model.specs.Version.{RecordSet, Key, Sets, key_cmp}
use Rattle.zone_values.specs.TypedSets.{TypedSet}
use Rattle.zone_versions.specs.Held.{typed_sets, told, told_at, after_type}
use Rattle.zone_values.specs.TypedEntries.{typed}
use Rattle.zone_versions.specs.Trees.{NodeSets, Nodes, sets_of_node, sets_of}
use Rattle.zone_versions.proofs.Flat.{sets_filtered}

-- ---- the sets of one node after a type

abbrev pub after_typed : ℕ → List TypedSet → List TypedSet
after_typed t sets = filter (λ (s : TypedSet). is_lt (nat_cmp t s.rtype)) sets

abbrev pub types_of : List TypedSet → List ℕ
types_of sets = map (λ (s : TypedSet). s.rtype) sets

pub typed_types : (held : NodeSets) → types_of (typed_sets held) ≡ keys_of held
typed_types [] = refl
typed_types (e ∷ held) = ap (λ l. e.0 ∷ l) (typed_types held)

pub typed_after : (t : ℕ) (held : NodeSets) → after_typed t (typed_sets held) ≡ typed_sets (after_type t held)
typed_after t [] = refl
typed_after t (e ∷ held) = by (is_lt (nat_cmp t e.0)) (typed_after t held)
  where
    by : (b : Bool) → after_typed t (typed_sets held) ≡ typed_sets (after_type t held)
        → cond b (typed e.0 e.1 ∷ after_typed t (typed_sets held)) (after_typed t (typed_sets held)) ≡ typed_sets (cond b (e ∷ after_type t held) (after_type t held))
    by true h = ap (λ l. typed e.0 e.1 ∷ l) h
    by false h = h

-- a set after a type, and all behind it
pub all_after : (t : ℕ) (s : TypedSet) (sets : List TypedSet) → IsStrictlySortedBy nat_cmp (types_of (s ∷ sets)) → nat_cmp t s.rtype ≡ Less → after_typed t (s ∷ sets) ≡ s ∷ sets
all_after t s sets h l =
    ap (λ o. cond (is_lt o) (s ∷ after_typed t sets) (after_typed t sets)) l ∙ ap (λ r. s ∷ r) (behind sets (sorted_head nat_cmp s.rtype (types_of sets) h))
  where
    behind : (rest : List TypedSet) → AllByRecursion (λ u. nat_cmp s.rtype u ≡ Less) (types_of rest) → after_typed t rest ≡ rest
    behind [] b = refl
    behind (r ∷ rest) b =
        ap (λ o. cond (is_lt o) (r ∷ after_typed t rest) (after_typed t rest)) (nat_cmp_total.trans t s.rtype r.rtype l b.0) ∙ ap (λ x. r ∷ x) (behind rest b.1)

pub not_after : (t : ℕ) (s : TypedSet) (sets : List TypedSet) → is_lt (nat_cmp t s.rtype) ≡ false → after_typed t (s ∷ sets) ≡ after_typed t sets
not_after t s sets h = ap (λ b. cond b (s ∷ after_typed t sets) (after_typed t sets)) h

-- a step over a set whose list is known
pub stepped : (xs : List TypedSet) (r : Option (Bor TypedSet)) (t : List TypedSet) (s : TypedSet) (rest : List TypedSet) → TakesFirst deref xs r t → xs ≡ s ∷ rest → t ≡ rest
stepped xs None t s rest h e = h.1 ∙ ap (drop 1) (sym h.0 ∙ e)
stepped xs (Some x) t s rest h e = ap (drop 1) (sym h ∙ e)

pub later : (t u : ℕ) → t < u → nat_cmp t u ≡ Less
later t u h = sym (nat_cmp_is t u Less h)

pub not_later : (t u : ℕ) → u ≤ t → is_lt (nat_cmp t u) ≡ false
not_later t u h = by (nat_cmp t u) (ranks t u)
  where
    by : (r : Ordering) → MatchOrdering r (t < u) (t ≡ u) (u < t) → is_lt r ≡ false
    by Less k = absurd (omega arith)
    by Equal k = refl
    by Greater k = refl

-- ---- the sets of all nodes

told_node : (m : Name) (held : NodeSets) → map told (sets_of_node (m, held)) ≡ told_at m (typed_sets held)
told_node m [] = refl
told_node m (e ∷ held) = ap (λ l. (m, typed e.0 e.1) ∷ l) (told_node m held)

pub next_node : (m : Name) (held : NodeSets) (nodes : Nodes) → told_at m (typed_sets held) ++ map told (sets_of nodes) ≡ map told (sets_of ((m, held) ∷ nodes))
next_node m held nodes = sym (map-append told (sets_of_node (m, held)) (sets_of nodes) ∙ ap (λ l. l ++ map told (sets_of nodes)) (told_node m held))

-- ---- those after an owner and type

abbrev pub is_after : Name → ℕ → Key × RecordSet → Bool
is_after o t e = is_lt (key_cmp (o, t) e.0)

node_after : (o m : Name) (t : ℕ) (held : NodeSets) → is_le (canonical_cmp o m) ≡ true
    → filter (is_after o t) (sets_of_node (m, held)) ≡ sets_of_node (m, if is_eq (canonical_cmp o m) then after_type t held else held)
node_after o m t [] h = by (is_eq (canonical_cmp o m))
  where
    by : (b : Bool) → ◌≡◌ {A = Sets} [] (sets_of_node (m, if b then [] else []))
    by true = refl
    by false = refl
node_after o m t (e ∷ held) h = by (canonical_cmp o m) h (node_after o m t held h)
  where
    rest : Sets
    rest = filter (is_after o t) (sets_of_node (m, held))

    here : (b : Bool) → rest ≡ sets_of_node (m, after_type t held) → cond b (((m, e.0), e.1) ∷ rest) rest ≡ sets_of_node (m, cond b (e ∷ after_type t held) (after_type t held))
    here true k = ap (λ l. ((m, e.0), e.1) ∷ l) k
    here false k = k

    by : (r : Ordering) → is_le r ≡ true → rest ≡ sets_of_node (m, if is_eq r then after_type t held else held)
        → cond (is_lt (ordering_then r (nat_cmp t e.0))) (((m, e.0), e.1) ∷ rest) rest ≡ sets_of_node (m, if is_eq r then after_type t (e ∷ held) else (e ∷ held))
    by Less g k = ap (λ l. ((m, e.0), e.1) ∷ l) k
    by Equal g k = here (is_lt (nat_cmp t e.0)) k
    by Greater g k = absurd (true≢false (sym g))

-- the owner is before all of these nodes
rest_after : (o : Name) (t : ℕ) (nodes : Nodes) → AllByRecursion (λ n. canonical_cmp o n ≡ Less) (keys_of nodes) → filter (is_after o t) (sets_of nodes) ≡ sets_of nodes
rest_after o t [] a = refl
rest_after o t (e ∷ nodes) a =
    filter-append (is_after o t) (sets_of_node e) (sets_of nodes)
    ∙ (λ i. (node_after o e.0 t e.1 (ap is_le a.0) ∙ ap (λ r. sets_of_node (e.0, if is_eq r then after_type t e.1 else e.1)) a.0) i ++ rest_after o t nodes a.1 i)

less_all : (o m : Name) → is_le (canonical_cmp o m) ≡ true → (ks : List Name) → AllByRecursion (λ n. canonical_cmp m n ≡ Less) ks → AllByRecursion (λ n. canonical_cmp o n ≡ Less) ks
less_all o m h [] a = tt
less_all o m h (n ∷ ks) a = (by (canonical_cmp o m) refl, less_all o m h ks a.1)
  where
    by : (r : Ordering) → canonical_cmp o m ≡ r → canonical_cmp o n ≡ Less
    by Less q = canonical_total.trans o m n q a.0
    by Equal q = canonical_total.congr o m n q ∙ a.0
    by Greater q = absurd (true≢false (sym h ∙ ap is_le q))

pub after_nodes : (o : Name) (t : ℕ) (m : Name) (held : NodeSets) (nodes : Nodes) → IsStrictlySortedBy canonical_cmp (keys_of ((m, held) ∷ nodes)) → is_le (canonical_cmp o m) ≡ true
    → told_at m (typed_sets (if is_eq (canonical_cmp o m) then after_type t held else held)) ++ map told (sets_of nodes) ≡ map told (filter (is_after o t) (sets_of ((m, held) ∷ nodes)))
after_nodes o t m held nodes s h =
    next_node m (if is_eq (canonical_cmp o m) then after_type t held else held) nodes
    ∙ ap (map told)
    (sym
    (filter-append (is_after o t) (sets_of_node (m, held)) (sets_of nodes)
    ∙ (λ i. node_after o m t held h i ++ rest_after o t nodes (less_all o m h (keys_of nodes) (sorted_head canonical_cmp m (keys_of nodes) s)) i)))

filter_twice : {X : Type 0} (p q : X → Bool) → ((x : X) → p x ≡ true → q x ≡ true) → (xs : List X) → filter p (filter q xs) ≡ filter p xs
filter_twice p q f [] = refl
filter_twice {X} p q f (x ∷ xs) = by (q x) refl (p x) refl (filter_twice p q f xs)
  where
    by : (b : Bool) → q x ≡ b → (c : Bool) → p x ≡ c → filter p (filter q xs) ≡ filter p xs → filter p (cond b (x ∷ filter q xs) (filter q xs)) ≡ cond c (x ∷ filter p xs) (filter p xs)
    by true e c g h = ap (λ d. cond d (x ∷ filter p (filter q xs)) (filter p (filter q xs))) g ∙ ap (λ l. cond c (x ∷ l) l) h
    by false e true g h = absurd (true≢false (sym (f x g) ∙ e))
    by false e false g h = h

pub after_filtered : (o : Name) (t : ℕ) (nodes : Nodes) → filter (is_after o t) (sets_of (filter (λ (e : Name × NodeSets). is_le (canonical_cmp o e.0)) nodes)) ≡ filter (is_after o t) (sets_of nodes)
after_filtered o t nodes =
    ap (filter (is_after o t)) (sets_filtered (λ n. is_le (canonical_cmp o n)) nodes) ∙ filter_twice (is_after o t) (λ (e : Key × RecordSet). is_le (canonical_cmp o e.0.0)) (λ e. not_before e (canonical_cmp o e.0.0)) (sets_of nodes)
  where
    not_before : (e : Key × RecordSet) (r : Ordering) → is_lt (ordering_then r (nat_cmp t e.0.1)) ≡ true → is_le r ≡ true
    not_before e Less h = refl
    not_before e Equal h = refl
    not_before e Greater h = absurd (true≢false (sym h))

pub kept_pass : (p : Name → Bool) (nodes : Nodes) → AllByRecursion (λ n. p n ≡ true) (keys_of (filter (λ (e : Name × NodeSets). p e.0) nodes))
kept_pass p [] = tt
kept_pass p (e ∷ nodes) = by (p e.0) refl (kept_pass p nodes)
  where
    rest : Nodes
    rest = filter (λ (e : Name × NodeSets). p e.0) nodes

    by : (b : Bool) → p e.0 ≡ b → AllByRecursion (λ n. p n ≡ true) (keys_of rest) → AllByRecursion (λ n. p n ≡ true) (keys_of (cond b (e ∷ rest) rest))
    by true h k = (h, k)
    by false h k = k

-- ---- the first

abbrev head_of : {A : Type 0} → List A → Option A
head_of [] = None
head_of (x ∷ xs) = Some x

taken : {A : Type 0} (xs : List A) (r : Option A) (t : List A) → YieldsFirst (λ (s : List A). s) xs r t → r ≡ head_of xs
taken xs None t h = sym (ap head_of h.0)
taken xs (Some x) t h = sym (ap head_of h)

found_first : (p : Key × RecordSet → Bool) (es : Sets) → head_of (map told (filter p es)) ≡ option_map told (find p es)
found_first p [] = refl
found_first p (e ∷ es) = by (p e) (found_first p es)
  where
    by : (b : Bool) → head_of (map told (filter p es)) ≡ option_map told (find p es) → head_of (map told (cond b (e ∷ filter p es) (filter p es))) ≡ option_map told (cond b (Some e) (find p es))
    by true h = refl
    by false h = h

pub first_told : (p : Key × RecordSet → Bool) (es : Sets) (xs : List (Name × TypedSet)) (r : Option (Name × TypedSet)) (t : List (Name × TypedSet))
    → xs ≡ map told (filter p es) → YieldsFirst (λ (s : List (Name × TypedSet)). s) xs r t → r ≡ option_map told (find p es)
first_told p es xs r t e h = taken xs r t h ∙ ap head_of e ∙ found_first p es
