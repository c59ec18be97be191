-- The types that an owner has among sets, found by look-ups.
use Rattle.std.proofs.Common.{◌≡◌, ℕ, ◌+◌, ◌≤◌, ◌<◌, ◌==◌, Bool, true, false, cond, ◌&&◌, ◌||◌, not, nat_le, if◌then◌else◌, List, [], ◌∷◌, map, filter, refl, sym, ap, subst, ◌∙◌, true≢false, Option, Some, None, option_map, is_some, is_eq, is_le, is_lt, Ordering, Less, Equal, Greater, nat_cmp, arith, eqb-true, eq-eqb, leb-true, leb-false, le-leb}
use Rattle.std.specs.List.{find, list_any}
use Rattle.std.specs.Option.{option_or}
use Rattle.std.specs.List.Sorted.{IsStrictlySortedBy}
use Rattle.std.specs.Ordering.{ordering_then}
use Rattle.std.specs.Cmp.{tied_then, unsigned_tied, nat_cmp_is, Equal-is}
use Rattle.std.specs.Map.{keys_of}
use Rattle.std.proofs.lemmas.Cmp.{ranked}
use Rattle.std.proofs.lemmas.Map.{lookup-none}
use Rattle.std.proofs.lemmas.Map.Keys.{sorted_tail}
use Rattle.std.proofs.lemmas.Map.Entries.{none_below_head}
use Rattle.dns_name.specs.Names.{Name, fold, same_name, canonical_cmp}
use Rattle.dns_name.specs.NameOrder.{same_name_equiv, canonical_ties}
use Rattle.dns_numbers.specs.Codes.{type_a, type_ns, type_aaaa, type_ds}
use Rattle.zone_model.specs.Version.{RecordSet, Key, Sets, key_cmp, has_key, set_in}
use Rattle.zone_model.specs.Classify.{least, is_address}
use Rattle.zone_model.proofs.Folded.{fold-fold, key_total, same_name_alike}
use Rattle.zone_values.specs.TypedSets.{TypedSet}
use Rattle.zone_values.specs.TypedEntries.{typed}
use Rattle.zone_versions.specs.Held.{told}
use Rattle.zone_records.specs.Taking.{types_in, least_in, no_glue_in, cut_in}
use Rattle.zone_records.specs.TypeSteps.{type_from, past}
use Rattle.zone_records.proofs.Lowest.{Lowest, is_in, find_in, least_by, lowest_one, lowest_same, lowest_kept, lowest_next, least_lowest, in_filter, not_and}

-- whether an owner has a set of a type
abbrev pub has_type : Sets → Name → ℕ → Bool
has_type sets owner t = is_some (set_in sets (fold owner, t))

-- ---- one key

owner_ties : (owner other : Name) → is_eq (canonical_cmp (fold owner) other) ≡ same_name other owner
owner_ties owner other = sym (canonical_ties (fold owner) other) ∙ same_name_alike (fold owner) owner other other (fold-fold owner) refl ∙ same_name_equiv.symm owner other

pub key_at : (owner : Name) (t : ℕ) (k : Key) → has_key (fold owner, t) k ≡ (same_name k.0 owner && k.1 == t)
key_at owner t k =
    sym (tied_then (canonical_cmp (fold owner) k.0) (nat_cmp t k.1)) ∙ (λ i. owner_ties owner k.0 i && unsigned_tied t k.1 i) ∙ ap (λ b. same_name k.0 owner && b) (turned t k.1 (t == k.1) (k.1 == t) refl refl)
  where
    turned : (a b : ℕ) (x y : Bool) → (a == b) ≡ x → (b == a) ≡ y → x ≡ y
    turned a b true true h g = refl
    turned a b false false h g = refl
    turned a b true false h g = sym (eq-eqb b a (sym (eqb-true a b h))) ∙ g
    turned a b false true h g = sym h ∙ eq-eqb a b (sym (eqb-true b a g))

-- the owner's own keys are in the order of their types
own_key : (owner : Name) (t : ℕ) (k : Key) → same_name k.0 owner ≡ true → key_cmp (fold owner, t) k ≡ nat_cmp t k.1
own_key owner t k h = ap (λ o. ordering_then o (nat_cmp t k.1)) ((Equal-is (canonical_cmp (fold owner) k.0)).0 (owner_ties owner k.0 ∙ h))

-- the others are on one side of them all
other_key : (owner : Name) (t : ℕ) (k : Key) → same_name k.0 owner ≡ false → key_cmp (fold owner, t) k ≡ canonical_cmp (fold owner) k.0
other_key owner t k h = by (canonical_cmp (fold owner) k.0) (owner_ties owner k.0 ∙ h)
  where
    by : (o : Ordering) → is_eq o ≡ false → ordering_then o (nat_cmp t k.1) ≡ o
    by Less g = refl
    by Equal g = absurd (true≢false g)
    by Greater g = refl

-- ---- the types as a list

pub has_in_types : (sets : Sets) (owner : Name) (t : ℕ) → is_in (types_in sets owner) t ≡ has_type sets owner t
has_in_types [] owner t = refl
has_in_types (e ∷ es) owner t =
    by (same_name e.0.0 owner) (e.0.1 == t) refl (has_in_types es owner t) ∙ ap (λ b. is_some (cond b (Some e.1) (set_in es (fold owner, t)))) (sym (key_at owner t e.0))
  where
    by : (b c : Bool) → (e.0.1 == t) ≡ c → is_in (types_in es owner) t ≡ has_type es owner t
        → is_in (map (λ (f : Key × RecordSet). f.0.1) (cond b (e ∷ filter (λ (f : Key × RecordSet). same_name f.0.0 owner) es) (filter (λ (f : Key × RecordSet). same_name f.0.0 owner) es))) t ≡ is_some (cond (b && c) (Some e.1) (set_in es (fold owner, t)))
    by true true g later = ap (λ d. d || is_in (types_in es owner) t) g
    by true false g later = ap (λ d. d || is_in (types_in es owner) t) g ∙ later
    by false c g later = later

-- ---- the first type from one on

-- the type at an entry, where it is the owner's
abbrev pub own_type : Name → Option (Key × RecordSet) → Option ℕ
own_type owner None = None
own_type owner (Some e) = if same_name e.0.0 owner then Some e.0.1 else None

-- the first entry from a type on
abbrev pub entry_from : Name → ℕ → Sets → Option (Key × RecordSet)
entry_from owner low sets = find (λ (e : Key × RecordSet). is_le (key_cmp (fold owner, low) e.0)) sets

at_most : (low n : ℕ) → is_le (nat_cmp low n) ≡ true → low ≤ n
at_most low n h = by (nat_cmp low n) refl h
  where
    by : (o : Ordering) → nat_cmp low n ≡ o → is_le o ≡ true → low ≤ n
    by Less e g = let m : low < n = ranked low n Less (sym e) in omega arith
    by Equal e g = let m : low ≡ n = ranked low n Equal (sym e) in omega arith
    by Greater e g = absurd (true≢false (sym g))

module _ (owner : Name) (low : ℕ) (e : Key × RecordSet) (es : Sets) (s : IsStrictlySortedBy key_cmp (keys_of (e ∷ es))) where
  nothing_at : (t : ℕ) → key_cmp (fold owner, t) e.0 ≡ Less → has_type (e ∷ es) owner t ≡ false
  nothing_at t h = ap is_some (lookup-none (has_key (fold owner, t)) (e ∷ es) (none_below_head key_total (fold owner, t) e es s h))

  -- the first entry is from that type on
  here : (b : Bool) → same_name e.0.0 owner ≡ b → is_le (key_cmp (fold owner, low) e.0) ≡ true → Lowest (λ t. has_type (e ∷ es) owner t && nat_le low t) (if b then Some e.0.1 else None)
  here true g h =
      let from : low ≤ e.0.1 = at_most low e.0.1 (ap is_le (sym (own_key owner low e.0 g)) ∙ h) in
      let there : has_key (fold owner, e.0.1) e.0 ≡ true = key_at owner e.0.1 e.0 ∙ (λ i. g i && eq-eqb e.0.1 e.0.1 refl i) in
      ((λ i. is_some (cond (there i) (Some e.1) (set_in es (fold owner, e.0.1))) && le-leb low e.0.1 from i), λ t k. above t (nat_le e.0.1 t) refl k)
    where
      above : (t : ℕ) (b : Bool) → nat_le e.0.1 t ≡ b → (has_type (e ∷ es) owner t && nat_le low t) ≡ true → e.0.1 ≤ t
      above t true l k = leb-true e.0.1 t l
      above t false l k =
          let less : key_cmp (fold owner, t) e.0 ≡ Less = own_key owner t e.0 g ∙ sym (nat_cmp_is t e.0.1 Less (leb-false e.0.1 t l)) in
          absurd (true≢false (sym k ∙ ap (λ b. b && nat_le low t) (nothing_at t less)))
  here false g h = λ t. ap (λ b. b && nat_le low t) (nothing_at t (other_key owner t e.0 g ∙ before (canonical_cmp (fold owner) e.0.0) (owner_ties owner e.0.0 ∙ g) (ap is_le (sym (other_key owner low e.0 g)) ∙ h)))
    where
      before : (o : Ordering) → is_eq o ≡ false → is_le o ≡ true → o ≡ Less
      before Less x y = refl
      before Equal x y = absurd (true≢false x)
      before Greater x y = absurd (true≢false (sym y))

  -- it is before that type
  skipped : (t : ℕ) → key_cmp (fold owner, low) e.0 ≡ Greater → (has_type (e ∷ es) owner t && nat_le low t) ≡ (has_type es owner t && nat_le low t)
  skipped t h = by (nat_le low t) refl
    where
      apart : (b : Bool) → same_name e.0.0 owner ≡ b → low ≤ t → has_key (fold owner, t) e.0 ≡ false
      apart true g l =
          let below : e.0.1 < low = ranked low e.0.1 Greater (sym (sym (own_key owner low e.0 g) ∙ h)) in
          ap is_eq (own_key owner t e.0 g ∙ sym (nat_cmp_is t e.0.1 Greater (omega arith)))
      apart false g l = ap is_eq (other_key owner t e.0 g ∙ sym (other_key owner low e.0 g) ∙ h)

      by : (b : Bool) → nat_le low t ≡ b → (has_type (e ∷ es) owner t && b) ≡ (has_type es owner t && b)
      by true l = ap (λ c. is_some (cond c (Some e.1) (set_in es (fold owner, t))) && true) (apart (same_name e.0.0 owner) refl (leb-true low t l))
      by false l = not_and (has_type (e ∷ es) owner t) ∙ sym (not_and (has_type es owner t))

pub first_type : (owner : Name) (low : ℕ) (sets : Sets) → IsStrictlySortedBy key_cmp (keys_of sets) → Lowest (λ t. has_type sets owner t && nat_le low t) (own_type owner (entry_from owner low sets))
first_type owner low [] s = λ t. refl
first_type owner low (e ∷ es) s = by (key_cmp (fold owner, low) e.0) refl (first_type owner low es (sorted_tail key_cmp e.0 (keys_of es) s))
  where
    by : (o : Ordering) → key_cmp (fold owner, low) e.0 ≡ o → Lowest (λ t. has_type es owner t && nat_le low t) (own_type owner (entry_from owner low es))
        → Lowest (λ t. has_type (e ∷ es) owner t && nat_le low t) (own_type owner (cond (is_le o) (Some e) (entry_from owner low es)))
    by Less h later = here owner low e es s (same_name e.0.0 owner) refl (ap is_le h)
    by Equal h later = here owner low e es s (same_name e.0.0 owner) refl (ap is_le h)
    by Greater h later = lowest_same (λ t. has_type es owner t && nat_le low t) (λ t. has_type (e ∷ es) owner t && nat_le low t) (own_type owner (entry_from owner low es)) (λ t. skipped owner low e es s t h) later

pub first_from_is : (sets : Sets) (owner : Name) (low : ℕ) → IsStrictlySortedBy key_cmp (keys_of sets) → own_type owner (entry_from owner low sets) ≡ type_from sets owner low
first_from_is sets owner low s =
    sym (least_by (nat_le low) (types_in sets owner) (own_type owner (entry_from owner low sets))
    (lowest_same (λ t. has_type sets owner t && nat_le low t) (λ t. is_in (types_in sets owner) t && nat_le low t) (own_type owner (entry_from owner low sets)) (λ t. ap (λ b. b && nat_le low t) (has_in_types sets owner t)) (first_type owner low sets s)))

-- ---- the least type, and the least but addresses

from_is : (low : ℕ) (xs : List ℕ) → Lowest (λ t. is_in xs t && nat_le low t) (least (filter (nat_le low) xs))
from_is low xs = lowest_same (is_in (filter (nat_le low) xs)) (λ t. is_in xs t && nat_le low t) (least (filter (nat_le low) xs)) (λ t. sym (in_filter (nat_le low) xs t)) (least_lowest (filter (nat_le low) xs))

all_from : (xs : List ℕ) (t : ℕ) → is_in xs t ≡ (is_in xs t && nat_le 0 t)
all_from xs t = by (is_in xs t)
  where
    by : (b : Bool) → b ≡ (b && nat_le 0 t)
    by true = sym (le-leb 0 t (omega arith))
    by false = refl

pub least_from : (sets : Sets) (owner : Name) → type_from sets owner 0 ≡ least_in sets owner
least_from sets owner =
    let xs = types_in sets owner in
    lowest_one (is_in xs) (type_from sets owner 0) (least_in sets owner) (lowest_same (λ t. is_in xs t && nat_le 0 t) (is_in xs) (type_from sets owner 0) (all_from xs) (from_is 0 xs)) (least_lowest xs)

-- the least but one number, from the least and from the least above that number
pub past_is : (has : ℕ → Bool) (n m : ℕ) (o next : Option ℕ) → m ≡ n + 1 → Lowest has o → Lowest (λ t. has t && nat_le m t) next → Lowest (λ t. has t && not (t == n)) (past n o next)
past_is has n m None next e h g = lowest_kept has (λ t. not (t == n)) None h (λ k x. absurd (true≢false (sym (ap is_some x))))
past_is has n m (Some t) next e h g = by (t == n) refl
  where
    value : (a b : ℕ) → ◌≡◌ {A = Option ℕ} (Some a) (Some b) → a ≡ b
    value a b x = ap (λ (o : Option ℕ). elim o as (λ y. ℕ) [ Some y ↦ y | None ↦ a ]) x

    by : (b : Bool) → (t == n) ≡ b → Lowest (λ k. has k && not (k == n)) (if b then next else Some t)
    by true x = lowest_next has n m next e (subst (λ k. Lowest has (Some k)) (eqb-true t n x) h) g
    by false x = lowest_kept has (λ k. not (k == n)) (Some t) h (λ k y. ap (λ j. not (j == n)) (sym (value t k y)) ∙ ap not x)

-- the least but addresses, in three steps
pub no_glue_is : (sets : Sets) (owner : Name) (a b c : Option ℕ) → a ≡ type_from sets owner 0 → b ≡ past type_a a (type_from sets owner 2) → c ≡ past type_aaaa b (type_from sets owner 29) → c ≡ no_glue_in sets owner
no_glue_is sets owner a b c ea eb ec =
    let xs = types_in sets owner in
    let all : Lowest (is_in xs) a = subst (Lowest (is_in xs)) (sym ea) (lowest_same (λ t. is_in xs t && nat_le 0 t) (is_in xs) (type_from sets owner 0) (all_from xs) (from_is 0 xs)) in
    let second : Lowest (λ t. is_in xs t && not (t == type_a)) b = subst (Lowest (λ t. is_in xs t && not (t == type_a))) (sym eb) (past_is (is_in xs) type_a 2 a (type_from sets owner 2) refl all (from_is 2 xs)) in
    let above : Lowest (λ t. (is_in xs t && not (t == type_a)) && nat_le 29 t) (type_from sets owner 29) = lowest_same (λ t. is_in xs t && nat_le 29 t) (λ t. (is_in xs t && not (t == type_a)) && nat_le 29 t) (type_from sets owner 29) (λ t. beyond t (is_in xs t) (t == type_a) (nat_le 29 t) refl refl) (from_is 29 xs) in
    let third : Lowest (λ t. (is_in xs t && not (t == type_a)) && not (t == type_aaaa)) c = subst (Lowest (λ t. (is_in xs t && not (t == type_a)) && not (t == type_aaaa))) (sym ec) (past_is (λ t. is_in xs t && not (t == type_a)) type_aaaa 29 b (type_from sets owner 29) refl second above) in
    sym (least_by (λ t. not (is_address t)) xs c (lowest_same (λ t. (is_in xs t && not (t == type_a)) && not (t == type_aaaa)) (λ t. is_in xs t && not (is_address t)) c (λ t. split (is_in xs t) (t == type_a) (t == type_aaaa)) third))
  where
    beyond : (t : ℕ) (x y z : Bool) → (t == type_a) ≡ y → nat_le 29 t ≡ z → ((x && not y) && z) ≡ (x && z)
    beyond t false y z g h = refl
    beyond t true false z g h = refl
    beyond t true true false g h = refl
    beyond t true true true g h =
        let i : t ≡ 1 = eqb-true t type_a g in
        let l : 29 ≤ t = leb-true 29 t h in
        absurd (omega arith)

    split : (x y z : Bool) → (x && not (y || z)) ≡ ((x && not y) && not z)
    split false y z = refl
    split true false z = refl
    split true true z = refl

-- ---- what calls answer

pub is_some_typed : (rtype : ℕ) (o : Option RecordSet) → is_some (option_map (typed rtype) o) ≡ is_some o
is_some_typed rtype None = refl
is_some_typed rtype (Some s) = refl

-- an owner has sets where it has a least type
pub some_least : (sets : Sets) (owner : Name) → is_some (least_in sets owner) ≡ list_any (λ (e : Key × RecordSet). same_name e.0.0 owner) sets
some_least [] owner = refl
some_least (e ∷ es) owner = by (same_name e.0.0 owner) (some_least es owner)
  where
    by : (b : Bool) → is_some (least_in es owner) ≡ list_any (λ (f : Key × RecordSet). same_name f.0.0 owner) es
        → is_some (least (map (λ (f : Key × RecordSet). f.0.1) (cond b (e ∷ filter (λ (f : Key × RecordSet). same_name f.0.0 owner) es) (filter (λ (f : Key × RecordSet). same_name f.0.0 owner) es)))) ≡ (b || list_any (λ (f : Key × RecordSet). same_name f.0.0 owner) es)
    by true later = refl
    by false later = later

-- the set that is found from a type on, as a walk gives it
pub found_type : (sets : Sets) (owner : Name) (low : ℕ) (p : Name × TypedSet) → IsStrictlySortedBy key_cmp (keys_of sets) → Some p ≡ option_map told (entry_from owner low sets)
    → (if same_name p.0 owner then Some p.1.rtype else None) ≡ type_from sets owner low
found_type sets owner low p s h = by (entry_from owner low sets) h ∙ first_from_is sets owner low s
  where
    by : (o : Option (Key × RecordSet)) → Some p ≡ option_map told o → (if same_name p.0 owner then Some p.1.rtype else None) ≡ own_type owner o
    by None e = absurd (true≢false (ap is_some e))
    by (Some f) e =
        let same : p ≡ told f = ap (λ (o : Option (Name × TypedSet)). elim o as (λ y. Name × TypedSet) [ Some y ↦ y | None ↦ p ]) e in
        ap (λ (q : Name × TypedSet). if same_name q.0 owner then Some q.1.rtype else None) same

pub no_type : (sets : Sets) (owner : Name) (low : ℕ) → IsStrictlySortedBy key_cmp (keys_of sets) → ◌≡◌ {A = Option (Name × TypedSet)} None (option_map told (entry_from owner low sets))
    → None ≡ type_from sets owner low
no_type sets owner low s h = by (entry_from owner low sets) h ∙ first_from_is sets owner low s
  where
    by : (o : Option (Key × RecordSet)) → ◌≡◌ {A = Option (Name × TypedSet)} None (option_map told o) → None ≡ own_type owner o
    by None e = refl
    by (Some f) e = absurd (true≢false (sym (ap is_some e)))

-- a key is after a type where it is from the next type on
after_type : (owner : Name) (t : ℕ) (k : Key) → is_lt (key_cmp (fold owner, t) k) ≡ is_le (key_cmp (fold owner, t + 1) k)
after_type owner t k = by (canonical_cmp (fold owner) k.0)
  where
    later : (m : ℕ) (o p : Ordering) → nat_cmp t m ≡ o → nat_cmp (t + 1) m ≡ p → is_lt o ≡ is_le p
    later m Less Less e f = refl
    later m Less Equal e f = refl
    later m Less Greater e f =
        let low : t < m = ranked t m Less (sym e) in
        let high : m < t + 1 = ranked (t + 1) m Greater (sym f) in
        absurd (omega (arith, low, high))
    later m Equal Less e f =
        let same : t ≡ m = ranked t m Equal (sym e) in
        let low : t + 1 < m = ranked (t + 1) m Less (sym f) in
        absurd (omega (arith, same, low))
    later m Equal Equal e f =
        let same : t ≡ m = ranked t m Equal (sym e) in
        let next : t + 1 ≡ m = ranked (t + 1) m Equal (sym f) in
        absurd (omega (arith, same, next))
    later m Equal Greater e f = refl
    later m Greater Less e f =
        let high : m < t = ranked t m Greater (sym e) in
        let low : t + 1 < m = ranked (t + 1) m Less (sym f) in
        absurd (omega (arith, high, low))
    later m Greater Equal e f =
        let high : m < t = ranked t m Greater (sym e) in
        let next : t + 1 ≡ m = ranked (t + 1) m Equal (sym f) in
        absurd (omega (arith, high, next))
    later m Greater Greater e f = refl

    by : (o : Ordering) → is_lt (ordering_then o (nat_cmp t k.1)) ≡ is_le (ordering_then o (nat_cmp (t + 1) k.1))
    by Less = refl
    by Equal = later k.1 (nat_cmp t k.1) (nat_cmp (t + 1) k.1) refl refl
    by Greater = refl

pub first_after : (owner : Name) (t : ℕ) (es : Sets) → find (λ (e : Key × RecordSet). is_lt (key_cmp (fold owner, t) e.0)) es ≡ entry_from owner (t + 1) es
first_after owner t [] = refl
first_after owner t (e ∷ es) = λ i. cond (after_type owner t e.0 i) (Some e) (first_after owner t es i)

-- DS before NS
cut_is : (sets : Sets) (owner : Name) → cut_in sets owner ≡ option_or (if has_type sets owner type_ds then Some type_ds else None) (if has_type sets owner type_ns then Some type_ns else None)
cut_is sets owner =
    let xs = types_in sets owner in
    (λ i. option_or ((find_in type_ds xs ∙ ap (λ b. if b then Some type_ds else None) (has_in_types sets owner type_ds)) i) ((find_in type_ns xs ∙ ap (λ b. if b then Some type_ns else None) (has_in_types sets owner type_ns)) i))

pub with_ds : (sets : Sets) (owner : Name) → has_type sets owner type_ds ≡ true → Some type_ds ≡ cut_in sets owner
with_ds sets owner d = sym (cut_is sets owner ∙ ap (λ b. option_or (if b then Some type_ds else None) (if has_type sets owner type_ns then Some type_ns else None)) d)

pub with_ns : (sets : Sets) (owner : Name) → has_type sets owner type_ds ≡ false → has_type sets owner type_ns ≡ true → Some type_ns ≡ cut_in sets owner
with_ns sets owner d n = sym (cut_is sets owner ∙ (λ i. option_or (if d i then Some type_ds else None) (if n i then Some type_ns else None)))

pub without : (sets : Sets) (owner : Name) → has_type sets owner type_ds ≡ false → has_type sets owner type_ns ≡ false → None ≡ cut_in sets owner
without sets owner d n = sym (cut_is sets owner ∙ (λ i. option_or (if d i then Some type_ds else None) (if n i then Some type_ns else None)))
