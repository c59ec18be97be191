-- The sets of a name stand together in the order of keys, each before those of later types.
use Rattle.std.proofs.Common.{◌≡◌, ℕ, ◌==◌, Bool, true, false, cond, if◌then◌else◌, List, [], ◌∷◌, length, reverse, filter, refl, sym, ap, subst, ◌∙◌, true≢false, Ordering, Less, Equal, Greater, is_le, is_lt, is_eq, nat_cmp, bytes_eq, Bor, Option, Some, None, option_map, is_some, unwrap_or, ne_eqb}
use Rattle.std.specs.Option.{option_copied}
use Rattle.std.specs.Iterator.{YieldsFirstRef}
use Rattle.std.specs.List.{AllByRecursion, find}
use Rattle.std.specs.List.Sorted.{IsStrictlySortedBy}
use Rattle.std.specs.Map.{keys_of}
use Rattle.std.specs.Ordering.{ordering_then, ordering_reverse}
use Rattle.std.specs.Cmp.{tied_itself}
use Rattle.std.specs.Cmp.Lexicographic.{slice_cmp, pointwise, pointwise_decides, bytes_decides, lists_ties, lists_total, texts_ties, nat_list_cmp_total}
use Rattle.std.proofs.lemmas.Map.Keys.{sorted_head, sorted_tail}
use Rattle.std.proofs.lemmas.List.{reverse-reverse}
use Rattle.dns_name.specs.Names.{Name, fold, same_name}
use Rattle.zone_model.specs.Version.{RecordSet, Key, Sets, Version, IsValid, key_cmp, set_in, set_at}
use Rattle.zone_model.specs.Walk.{Stop, shown_owner, next_stop}
use Rattle.zone_model.proofs.Folded.{IsFolded, key_total, fold-fold, same_name-Decides, same_name_alike}
use Rattle.zone_model.proofs.Ordered.{at_head, below_all}
use Rattle.zone_model.proofs.Valid.{valid_good}
use Rattle.zone_values.specs.TypedSets.{TypedSet}
use Rattle.zone_values.specs.TypedEntries.{typed}
use Rattle.zone_versions.specs.Stops.{stop_of, first_from}
use Rattle.zone_versions.proofs.Stops.{first_behind}
use Rattle.zone_reads.specs.Parts.{sets_with_types}
use Rattle.zone_reads.specs.NameSets.{is_own, behind, left_of, first_type}
use Rattle.zone_reads.proofs.Existence.{turned_labels, from_name, names_rise, not_so}

abbrev pub Sorted : Sets → Type 0
Sorted sets = IsStrictlySortedBy key_cmp (keys_of sets)

abbrev pub AllBehind : Key → Sets → Type 0
AllBehind k es = AllByRecursion (λ y. key_cmp k y ≡ Less) (keys_of es)

abbrev pub AllFolded : Sets → Type 0
AllFolded es = AllByRecursion IsFolded (keys_of es)

-- ---- owners and a name

both_ways : (xs ys : Name) → is_le (slice_cmp (slice_cmp nat_cmp) xs ys) ≡ true → is_le (slice_cmp (slice_cmp nat_cmp) ys xs) ≡ true → xs ≡ ys
both_ways xs ys p q = by (slice_cmp (slice_cmp nat_cmp) xs ys) refl
  where
    turned : slice_cmp (slice_cmp nat_cmp) ys xs ≡ ordering_reverse (slice_cmp (slice_cmp nat_cmp) xs ys)
    turned = (lists_total nat_list_cmp_total).antisymm ys xs

    by : (r : Ordering) → slice_cmp (slice_cmp nat_cmp) xs ys ≡ r → xs ≡ ys
    by Less e = absurd (true≢false (sym q ∙ ap is_le (turned ∙ ap ordering_reverse e)))
    by Equal e = (pointwise_decides bytes_decides xs ys).0 (lists_ties (slice_cmp nat_cmp) texts_ties xs ys ∙ ap is_eq e)
    by Greater e = absurd (true≢false (sym p ∙ ap is_le e))

-- a folded owner is a name's where they are equal
pub is_owner : (n : Name) (k : Key) → IsFolded k → pointwise bytes_eq k.0 (fold n) ≡ same_name k.0 n
is_owner n k f = ap (λ m. pointwise bytes_eq m (fold n)) (sym f)

pub same_turned : (k n : Name) → same_name k n ≡ true → turned_labels k ≡ turned_labels n
same_turned k n t = ap reverse ((pointwise_decides bytes_decides (fold k) (fold n)).0 t)

turned_same : (k n : Name) → turned_labels k ≡ turned_labels n → same_name k n ≡ true
turned_same k n e = (pointwise_decides bytes_decides (fold k) (fold n)).1 (sym (reverse-reverse (fold k)) ∙ ap reverse e ∙ reverse-reverse (fold n))

pub le_itself : (xs ys : Name) → xs ≡ ys → is_le (slice_cmp (slice_cmp nat_cmp) xs ys) ≡ true
le_itself xs ys e = ap (λ x. is_le (slice_cmp (slice_cmp nat_cmp) x ys)) e ∙ ap is_le (tied_itself (lists_total nat_list_cmp_total) ys)

-- after an entry that isn't before the name and isn't the name's, none is the name's
pub none_own : (n : Name) (e : Key) (es : Sets) → is_le (slice_cmp (slice_cmp nat_cmp) (turned_labels n) (turned_labels e.0)) ≡ true → same_name e.0 n ≡ false
    → AllBehind e es → AllFolded es → filter (is_own n) es ≡ []
none_own n e [] h out a fs = refl
none_own n e (g ∷ es) h out a fs =
    let apart : pointwise bytes_eq g.0.0 (fold n) ≡ false = is_owner n g.0 fs.0 ∙ not_so (same_name g.0.0 n) (λ t.
    let rises = subst (λ x. is_le (slice_cmp (slice_cmp nat_cmp) (turned_labels e.0) x) ≡ true) (same_turned g.0.0 n t) (names_rise e g.0 a.0) in
    true≢false (sym (turned_same e.0 n (sym (both_ways (turned_labels n) (turned_labels e.0) h rises))) ∙ out)) in
    ap (λ b. cond b (g ∷ filter (is_own n) es) (filter (is_own n) es)) apart ∙ none_own n e es h out a.1 fs.1

-- ---- what begins at a name or after it

abbrev pub Begins : Name → Sets → Type 0
Begins n [] = Unit {0}
Begins n (e ∷ es) = (is_le (slice_cmp (slice_cmp nat_cmp) (turned_labels n) (turned_labels e.0.0)) ≡ true) × AllBehind e.0 es × IsFolded e.0 × AllFolded es

all_filtered : (P : Key → Type 0) (p : Key × RecordSet → Bool) (es : Sets) → AllByRecursion P (keys_of es) → AllByRecursion P (keys_of (filter p es))
all_filtered P p [] h = tt
all_filtered P p (e ∷ es) h = by (p e) (all_filtered P p es h.1)
  where
    by : (b : Bool) → AllByRecursion P (keys_of (filter p es)) → AllByRecursion P (keys_of (cond b (e ∷ filter p es) (filter p es)))
    by true later = (h.0, later)
    by false later = later

begins : (n : Name) (p : Key × RecordSet → Bool) → ((e : Key × RecordSet) → p e ≡ true → is_le (slice_cmp (slice_cmp nat_cmp) (turned_labels n) (turned_labels e.0.0)) ≡ true)
    → (es : Sets) → Sorted es → AllFolded es → Begins n (filter p es)
begins n p f [] s fs = tt
begins n p f (e ∷ es) s fs = by (p e) refl (begins n p f es (sorted_tail key_cmp e.0 (keys_of es) s) fs.1)
  where
    by : (b : Bool) → p e ≡ b → Begins n (filter p es) → Begins n (cond b (e ∷ filter p es) (filter p es))
    by true h later = (f e h, all_filtered (λ y. key_cmp e.0 y ≡ Less) p es (sorted_head key_cmp e.0 (keys_of es) s), fs.0, all_filtered IsFolded p es fs.1)
    by false h later = later

abbrev pub first_entry : Sets → Option (Key × RecordSet)
first_entry [] = None
first_entry (e ∷ es) = Some e

found_first : (p : Key × RecordSet → Bool) (es : Sets) → find p es ≡ first_entry (filter p es)
found_first p [] = refl
found_first p (e ∷ es) = by (p e) (found_first p es)
  where
    by : (b : Bool) → find p es ≡ first_entry (filter p es) → cond b (Some e) (find p es) ≡ first_entry (cond b (e ∷ filter p es) (filter p es))
    by true h = refl
    by false h = h

-- the type of an entry that is a name's
abbrev pub own_type : Name → Option (Key × RecordSet) → Option ℕ
own_type n None = None
own_type n (Some e) = if same_name e.0.0 n then Some e.0.1 else None

pub own_then : (n : Name) (k : Key) (s : RecordSet) → true ≡ same_name k.0 n → own_type n (Some (k, s)) ≡ Some k.1
own_then n k s h = ap (λ b. cond b (Some k.1) None) (sym h)

pub own_else : (n : Name) (k : Key) (s : RecordSet) → false ≡ same_name k.0 n → own_type n (Some (k, s)) ≡ None
own_else n k s h = ap (λ b. cond b (Some k.1) None) (sym h)

own_next : (n : Name) (rest : Sets) → Begins n rest → own_type n (first_entry rest) ≡ first_type (filter (is_own n) rest)
own_next n [] b = refl
own_next n (e ∷ es) b = sym (ap (λ c. first_type (cond c (e ∷ filter (is_own n) es) (filter (is_own n) es))) (is_owner n e.0 b.2) ∙ here (same_name e.0.0 n) refl)
  where
    here : (c : Bool) → same_name e.0.0 n ≡ c → first_type (cond c (e ∷ filter (is_own n) es) (filter (is_own n) es)) ≡ cond c (Some e.0.1) None
    here true u = refl
    here false u = ap first_type (none_own n e.0 es b.0 u b.1 b.3)

-- ---- the least type

filter_twice : {X : Type 0} (p q : X → Bool) → ((x : X) → p x ≡ true → q x ≡ true) → (xs : List X) → filter p (filter q xs) ≡ filter p xs
filter_twice p q f [] = refl
filter_twice {X} p q f (x ∷ xs) = by (q x) refl (p x) refl (filter_twice p q f xs)
  where
    by : (b : Bool) → q x ≡ b → (c : Bool) → p x ≡ c → filter p (filter q xs) ≡ filter p xs → filter p (cond b (x ∷ filter q xs) (filter q xs)) ≡ cond c (x ∷ filter p xs) (filter p xs)
    by true e c g h = ap (λ d. cond d (x ∷ filter p (filter q xs)) (filter p (filter q xs))) g ∙ ap (λ l. cond c (x ∷ l) l) h
    by false e true g h = absurd (true≢false (sym (f x g) ∙ e))
    by false e false g h = h

abbrev not_before : Name → Key × RecordSet → Bool
not_before n e = is_le (key_cmp (fold n, 0) e.0)

own_not_before : (n : Name) (e : Key × RecordSet) → is_own n e ≡ true → not_before n e ≡ true
own_not_before n e h =
    let owner : e.0.0 ≡ fold n = (pointwise_decides bytes_decides e.0.0 (fold n)).0 h in
    from_name n e.0 ∙ le_itself (turned_labels n) (turned_labels e.0.0) (sym (ap turned_labels owner ∙ ap reverse (fold-fold n)))

pub least_of_name : (v : Version) (n : Name) (found : Option (Key × RecordSet)) → IsValid v → found ≡ first_from v n → own_type n found ≡ first_type (left_of v n None)
least_of_name v n found h e =
    ap (own_type n) (e ∙ found_first (not_before n) v.sets)
    ∙ own_next n (filter (not_before n) v.sets) (begins n (not_before n) (λ f p. sym (from_name n f.0) ∙ p) v.sets h.ordered (valid_good v h).folded)
    ∙ ap first_type (filter_twice (is_own n) (not_before n) (own_not_before n) v.sets)

-- ---- the type after one

after_is_le : (n : Name) (t : ℕ) (e : Key × RecordSet) → is_lt (key_cmp (fold n, t) e.0) ≡ true → is_le (slice_cmp (slice_cmp nat_cmp) (turned_labels n) (turned_labels e.0.0)) ≡ true
after_is_le n t e h =
    ap (λ m. is_le (slice_cmp (slice_cmp nat_cmp) (reverse m) (turned_labels e.0.0))) (sym (fold-fold n)) ∙ by (slice_cmp (slice_cmp nat_cmp) (reverse (fold (fold n))) (turned_labels e.0.0)) h
  where
    by : (o : Ordering) → is_lt (ordering_then o (nat_cmp t e.0.1)) ≡ true → is_le o ≡ true
    by Less k = refl
    by Equal k = refl
    by Greater k = absurd (true≢false (sym k))

-- an owner as it is shown
shown_folds : (v : Version) (n : Name) → fold (shown_owner v n) ≡ fold n
shown_folds v n = by (same_name n v.apex) refl
  where
    by : (b : Bool) → same_name n v.apex ≡ b → fold (if b then v.apex else n) ≡ fold n
    by true h = sym ((same_name-Decides n v.apex).0 h)
    by false h = refl

-- the type of a stop that is a name's
abbrev pub shown_type : Name → Option Stop → Option ℕ
shown_type n None = None
shown_type n (Some s) = if same_name s.owner n then Some s.rtype else None

pub shown_then : (n : Name) (s : Stop) → true ≡ same_name s.owner n → shown_type n (Some s) ≡ Some s.rtype
shown_then n s h = ap (λ b. cond b (Some s.rtype) None) (sym h)

pub shown_else : (n : Name) (s : Stop) → false ≡ same_name s.owner n → shown_type n (Some s) ≡ None
shown_else n s h = ap (λ b. cond b (Some s.rtype) None) (sym h)

shown_is : (v : Version) (n : Name) (o : Option (Key × RecordSet)) → shown_type n (option_map (stop_of v) o) ≡ own_type n o
shown_is v n None = refl
shown_is v n (Some e) = ap (λ b. if b then Some e.0.1 else None) (same_name_alike (shown_owner v e.0.0) e.0.0 n n (shown_folds v e.0.0) refl)

pub next_of_name : (v : Version) (n : Name) (t : ℕ) (r : Option Stop) → IsValid v → r ≡ next_stop v n t → shown_type n r ≡ first_type (left_of v n (Some t))
next_of_name v n t r h e =
    let k : Key = (fold n, t) in
    let p : Key × RecordSet → Bool = λ f. is_lt (key_cmp k f.0) in
    ap (shown_type n) (e ∙ first_behind v k v.sets) ∙ shown_is v n (find p v.sets) ∙ ap (own_type n) (found_first p v.sets)
    ∙ own_next n (behind k v.sets) (begins n p (after_is_le n t) v.sets h.ordered (valid_good v h).folded)

-- ---- what is left after one

all_kept : (k : Key) (es : Sets) → AllBehind k es → behind k es ≡ es
all_kept k [] a = refl
all_kept k (e ∷ es) a = ap (λ o. cond (is_lt o) (e ∷ behind k es) (behind k es)) a.0 ∙ ap (λ l. e ∷ l) (all_kept k es a.1)

behind_head : (e : Key × RecordSet) (es : Sets) → Sorted (e ∷ es) → behind e.0 (e ∷ es) ≡ es
behind_head e es s = ap (λ o. cond (is_lt o) (e ∷ behind e.0 es) (behind e.0 es)) (tied_itself key_total e.0) ∙ all_kept e.0 es (sorted_head key_cmp e.0 (keys_of es) s)

-- of each entry what is behind it is what stands after it, and it is found at its key
abbrev IsRest : Sets → Sets → Type 0
IsRest sets [] = Unit {0}
IsRest sets (e ∷ es) = (behind e.0 sets ≡ es) × (set_in sets e.0 ≡ Some e.1) × IsRest sets es

rest_under : (f : Key × RecordSet) (sets rest : Sets) → AllBehind f.0 rest → IsRest sets rest → IsRest (f ∷ sets) rest
rest_under f sets [] a r = tt
rest_under f sets (e ∷ es) a r =
    let turned : key_cmp e.0 f.0 ≡ Greater = key_total.antisymm e.0 f.0 ∙ ap ordering_reverse a.0 in (
      ap (λ o. cond (is_lt o) (f ∷ behind e.0 sets) (behind e.0 sets)) turned ∙ r.0,
      ap (λ o. cond (is_eq o) (Some f.1) (set_in sets e.0)) turned ∙ r.1,
      rest_under f sets es a.1 r.2,
    )

all_rest : (sets : Sets) → Sorted sets → IsRest sets sets
all_rest [] s = tt
all_rest (e ∷ es) s =
    (behind_head e es s, at_head key_total e es, rest_under e es es (sorted_head key_cmp e.0 (keys_of es) s) (all_rest es (sorted_tail key_cmp e.0 (keys_of es) s)))

behind_rest : (k : Key) (sets : Sets) → Sorted sets → IsRest sets (behind k sets)
behind_rest k [] s = tt
behind_rest k (e ∷ es) s =
    by (key_cmp k e.0) refl (rest_under e es (behind k es) (all_filtered (λ y. key_cmp e.0 y ≡ Less) (λ f. is_lt (key_cmp k f.0)) es head) (behind_rest k es (sorted_tail key_cmp e.0 (keys_of es) s)))
  where
    head : AllBehind e.0 es
    head = sorted_head key_cmp e.0 (keys_of es) s

    by : (o : Ordering) → key_cmp k e.0 ≡ o → IsRest (e ∷ es) (behind k es) → IsRest (e ∷ es) (cond (is_lt o) (e ∷ behind k es) (behind k es))
    by Less p under = subst (λ (l : Sets). IsRest (e ∷ es) (e ∷ l)) (sym (all_kept k es (below_all key_total k e.0 es p head))) (all_rest (e ∷ es) s)
    by Equal p under = under
    by Greater p under = under

-- .. of a name's entries
abbrev IsOwnRest : Name → Sets → Sets → Type 0
IsOwnRest n sets [] = Unit {0}
IsOwnRest n sets (e ∷ es) = (filter (is_own n) (behind e.0 sets) ≡ es) × (set_in sets e.0 ≡ Some e.1) × (e.0.0 ≡ fold n) × IsOwnRest n sets es

own_rest : (n : Name) (sets rest : Sets) → IsRest sets rest → IsOwnRest n sets (filter (is_own n) rest)
own_rest n sets [] r = tt
own_rest n sets (e ∷ es) r = by (is_own n e) refl (own_rest n sets es r.2)
  where
    by : (b : Bool) → is_own n e ≡ b → IsOwnRest n sets (filter (is_own n) es) → IsOwnRest n sets (cond b (e ∷ filter (is_own n) es) (filter (is_own n) es))
    by true h later = (ap (filter (is_own n)) r.0, r.1, (pointwise_decides bytes_decides e.0.0 (fold n)).0 h, later)
    by false h later = later

left_is : (v : Version) (n : Name) (last : Option ℕ) → IsValid v → IsOwnRest n v.sets (left_of v n last)
left_is v n None h = own_rest n v.sets v.sets (all_rest v.sets h.ordered)
left_is v n (Some t) h = own_rest n v.sets (behind (fold n, t) v.sets) (behind_rest (fold n, t) v.sets h.ordered)

-- ---- a step

one_value : {X : Type 0} (x y : X) → ◌≡◌ {A = Option X} (Some x) (Some y) → x ≡ y
one_value x y e = ap (λ o. unwrap_or o x) e

step : (n : Name) (t : ℕ) (sets l : Sets) (r : Option (Bor TypedSet)) → IsOwnRest n sets l → Some t ≡ first_type l → option_copied r ≡ option_map (typed t) (set_in sets (fold n, t))
    → YieldsFirstRef (λ (s : List TypedSet). s) (sets_with_types l) r (sets_with_types (filter (is_own n) (behind (fold n, t) sets)))
step n t sets [] r o f e = absurd (true≢false (ap is_some f))
step n t sets (x ∷ es) r o f e = by r (e ∙ ap (option_map (typed t)) (ap (set_in sets) key ∙ o.1))
  where
    rtype : t ≡ x.0.1
    rtype = one_value t x.0.1 f

    key : (fold n, t) ≡ x.0
    key = λ i. (sym o.2 i, rtype i)

    by : (q : Option (Bor TypedSet)) → option_copied q ≡ Some (typed t x.1)
        → YieldsFirstRef (λ (s : List TypedSet). s) (sets_with_types (x ∷ es)) q (sets_with_types (filter (is_own n) (behind (fold n, t) sets)))
    by None g = absurd (true≢false (sym (ap is_some g)))
    by (Some b) g = λ i. (ap (λ u. typed u x.1) (sym rtype) ∙ sym (one_value b.now (typed t x.1) g)) i ∷ sets_with_types ((sym (ap (λ k. filter (is_own n) (behind k sets)) key ∙ o.0)) i)

pub given : (v : Version) (n : Name) (last : Option ℕ) (t : ℕ) (r : Option (Bor TypedSet)) → IsValid v → Some t ≡ first_type (left_of v n last) → option_copied r ≡ option_map (typed t) (set_at v n t)
    → YieldsFirstRef (λ (s : List TypedSet). s) (sets_with_types (left_of v n last)) r (sets_with_types (left_of v n (Some t)))
given v n last t r h f e = step n t v.sets (left_of v n last) r (left_is v n last h) f e

-- where no type is next, none is left
pub none_left : (l : Sets) → None ≡ first_type l → sets_with_types l ≡ []
none_left [] e = refl
none_left (x ∷ es) e = absurd (true≢false (sym (ap is_some e)))

-- whether any is left
pub some_left : (xs : List TypedSet) (x : TypedSet) (rest : List TypedSet) → xs ≡ x ∷ rest → false ≡ (length xs == 0)
some_left xs x rest e = sym (ap (λ (l : List TypedSet). length l == 0) e ∙ ne_eqb (length (x ∷ rest)) 0 (λ z. absurd (cc z)))
