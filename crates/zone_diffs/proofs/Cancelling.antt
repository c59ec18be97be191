-- What a set that comes or goes leaves on the two sides, record by record.
use Rattle.std.proofs.Common.{◌≡◌, ℕ, Bool, true, false, cond, ◌&&◌, ◌||◌, not, ◌==◌, if◌then◌else◌, List, [], ◌∷◌, length, filter, refl, sym, ap, ◌∙◌, true≢false, is_eq, Option, Some, None, eqb-true, eq-eqb, ne_eqb, arith}
use Rattle.std.specs.Option.{option_map_or}
use Rattle.std.specs.List.Sorted.{IsStrictlySortedBy}
use Rattle.std.specs.Cmp.{tied_itself, Equal-is}
use Rattle.std.specs.BTreeMap.{insert_entry}
use Rattle.std.specs.Map.{keys_of, remove_entry}
use Rattle.dns_rdata.specs.Records.{Field, same_data}
use Rattle.dns_rdata.specs.SameData.{same_data_equiv}
use Rattle.zone_model.specs.Version.{RecordSet, Key, Sets, key_cmp, has_key, set_in}
use Rattle.zone_model.specs.Edits.{distinct, distinct_set}
use Rattle.zone_model.specs.Difference.{merged_set}
use Rattle.zone_model.proofs.Folded.{key_total}
use Rattle.zone_model.proofs.Ordered.{lookup-insert_entry, lookup-remove_entry, sorted-insert_entry, sorted-remove_entry, find_alike}
use Rattle.zone_model.proofs.Steps.{unless_empty, any-append}
use Rattle.zone_model.proofs.SameVersions.{any, any_alike, any-filter, unlike}
use Rattle.zone_diffs.specs.Building.{Sides, put_at, lacked, taken_from, put_behind, lacked_by, added_to, removed_from}
use Rattle.zone_diffs.specs.Sided.{in_set, holds, OneTtl, AreOrdered, Apart}

-- ---- truth values

and_true : (a : Bool) → a ≡ (a && true)
and_true true = refl
and_true false = refl

and_false : (a : Bool) → false ≡ (a && false)
and_false true = refl
and_false false = refl

and_turned : (a b : Bool) → (a && b) ≡ (b && a)
and_turned true b = and_true b
and_turned false b = and_false b

or_rest : (a b : Bool) → (a || (b && not a)) ≡ (a || b)
or_rest true b = refl
or_rest false b = sym (and_true b)

and_each : (c a b : Bool) → (c && (a || b)) ≡ ((c && a) || (c && b))
and_each true a b = refl
and_each false a b = refl

less_each : (c a b : Bool) → (c && (a && not b)) ≡ ((c && a) && not (c && b))
less_each true a b = refl
less_each false a b = refl

never_both : (p q a b : Bool) → (p ≡ true → q ≡ true → ⊥) → (p && a) ≡ ((p && a) && not (q && b))
never_both true true a b n = absurd (n refl refl)
never_both true false a b n = and_true a
never_both false q a b n = refl

apart_then : (f i s : Bool) → (f && i) ≡ false → ((f && not s) && (i || (s && not f))) ≡ false
apart_then true true s h = absurd (true≢false h)
apart_then true false true h = refl
apart_then true false false h = refl
apart_then false i s h = refl

-- ---- the records of a set

any-distinct : (d : List Field) (xs : List (List Field)) → any d (distinct xs) ≡ any d xs
any-distinct d [] = refl
any-distinct d (x ∷ xs) =
    ap (λ b. same_data d x || b) (any-filter (λ y. not (same_data x y)) (unlike x) d (distinct xs) ∙ (λ i. any-distinct d xs i && not (same_data_equiv.symm x d i)))
    ∙ or_rest (same_data d x) (any d xs)

-- the data that a list lacks
any-others : (d : List Field) (ys xs : List (List Field)) → any d (filter (λ x. not (any x ys)) xs) ≡ (any d xs && not (any d ys))
any-others d ys xs = any-filter (λ x. not (any x ys)) (λ x y e. ap not (any_alike x y e ys)) d xs

in-lacked : (s t : RecordSet) (ttl : ℕ) (d : List Field) → in_set (lacked s t) ttl d ≡ (in_set s ttl d && not (in_set t ttl d))
in-lacked s t ttl d = by (s.ttl == t.ttl) refl
  where
    by : (a : Bool) → (s.ttl == t.ttl) ≡ a → in_set (if a then record s { items = filter (λ x. not (any x t.items)) s.items } else s) ttl d ≡ (in_set s ttl d && not (in_set t ttl d))
    by true e =
        ap (λ b. (s.ttl == ttl) && b) (any-others d t.items s.items) ∙ less_each (s.ttl == ttl) (any d s.items) (any d t.items)
        ∙ ap (λ n. ((s.ttl == ttl) && any d s.items) && not ((n == ttl) && any d t.items)) (eqb-true s.ttl t.ttl e)
    by false e =
        never_both (s.ttl == ttl) (t.ttl == ttl) (any d s.items) (any d t.items) (λ p q. true≢false (sym (eq-eqb s.ttl t.ttl (eqb-true s.ttl ttl p ∙ sym (eqb-true t.ttl ttl q))) ∙ e))

ttl-lacked : (s t : RecordSet) → (lacked s t).ttl ≡ s.ttl
ttl-lacked s t = by (s.ttl == t.ttl)
  where
    by : (a : Bool) → (if a then record s { items = filter (λ x. not (any x t.items)) s.items } else s).ttl ≡ s.ttl
    by true = refl
    by false = refl

abbrev in_some : Option RecordSet → ℕ → List Field → Bool
in_some o ttl d = option_map_or (λ (s : RecordSet). in_set s ttl d) o false

in-joined : (o : Option RecordSet) (s : RecordSet) → ((t : RecordSet) → o ≡ Some t → t.ttl ≡ s.ttl) → (ttl : ℕ) (d : List Field) → in_set (merged_set o (distinct_set s)) ttl d ≡ (in_some o ttl d || in_set s ttl d)
in-joined None s one ttl d = ap (λ b. (s.ttl == ttl) && b) (any-distinct d s.items)
in-joined (Some t) s one ttl d =
    ap (λ b. (t.ttl == ttl) && b)
    (any-append (same_data d) t.items (filter (λ x. not (any x t.items)) (distinct s.items))
    ∙ ap (λ b. any d t.items || b) (any-others d t.items (distinct s.items) ∙ ap (λ b. b && not (any d t.items)) (any-distinct d s.items))
    ∙ or_rest (any d t.items) (any d s.items))
    ∙ and_each (t.ttl == ttl) (any d t.items) (any d s.items)
    ∙ ap (λ n. ((t.ttl == ttl) && any d t.items) || ((n == ttl) && any d s.items)) (one t refl)

in-unless_empty : (s : RecordSet) (ttl : ℕ) (d : List Field) → in_some (unless_empty s) ttl d ≡ in_set s ttl d
in-unless_empty s ttl d = by s.items refl
  where
    by : (l : List (List Field)) → s.items ≡ l → in_some (if length l == 0 then None else Some s) ttl d ≡ ((s.ttl == ttl) && any d l)
    by [] e = and_false (s.ttl == ttl)
    by (x ∷ l) e =
        ap (λ b. in_some (if b then None else Some s) ttl d) (ne_eqb (length (x ∷ l)) 0 (λ n. absurd (omega arith)))
        ∙ ap (λ m. (s.ttl == ttl) && any d m) e

-- ---- a set put at a key

abbrev Sorted : Sets → Type 0
Sorted sets = IsStrictlySortedBy key_cmp (keys_of sets)

found-put_at : (sets : Sets) (k q : Key) (s : RecordSet) → Sorted sets → set_in (put_at sets k s) q ≡ cond (has_key q k) (unless_empty s) (set_in sets q)
found-put_at sets k q s h =
    elim (length s.items == 0) as (λ b. set_in (if b then remove_entry (has_key k) sets else insert_entry key_cmp sets k s) q ≡ cond (has_key q k) (if b then None else Some s) (set_in sets q)) [
      | true ↦ lookup-remove_entry key_total sets k q h
      | false ↦ lookup-insert_entry key_total sets k s q
    ]

sorted-put_at : (sets : Sets) (k : Key) (s : RecordSet) → Sorted sets → Sorted (put_at sets k s)
sorted-put_at sets k s h =
    elim (length s.items == 0) as (λ b. Sorted (if b then remove_entry (has_key k) sets else insert_entry key_cmp sets k s)) [
      | true ↦ sorted-remove_entry key_total (has_key k) sets h
      | false ↦ sorted-insert_entry key_total sets k s h
    ]

holds-put_at : (sets : Sets) (k : Key) (s : RecordSet) → Sorted sets → (ttl : ℕ) (d : List Field) → holds (put_at sets k s) k ttl d ≡ in_set s ttl d
holds-put_at sets k s h ttl d =
    ap (λ o. in_some o ttl d) (found-put_at sets k k s h ∙ ap (λ b. cond b (unless_empty s) (set_in sets k)) (ap is_eq (tied_itself key_total k)))
    ∙ in-unless_empty s ttl d

elsewhere-put_at : (sets : Sets) (k q : Key) (s : RecordSet) → Sorted sets → has_key q k ≡ false → set_in (put_at sets k s) q ≡ set_in sets q
elsewhere-put_at sets k q s h n = found-put_at sets k q s h ∙ ap (λ b. cond b (unless_empty s) (set_in sets q)) n

-- ---- the side that loses the records of a set

pub sorted-taken : (sets : Sets) (k : Key) (s : RecordSet) → Sorted sets → Sorted (taken_from sets k s)
sorted-taken sets k s h = by (set_in sets k)
  where
    by : (o : Option RecordSet) → Sorted (option_map_or (λ (held : RecordSet). put_at sets k (lacked held s)) o sets)
    by None = h
    by (Some t) = sorted-put_at sets k (lacked t s) h

pub elsewhere-taken : (sets : Sets) (k q : Key) (s : RecordSet) → Sorted sets → has_key q k ≡ false → set_in (taken_from sets k s) q ≡ set_in sets q
elsewhere-taken sets k q s h n = by (set_in sets k)
  where
    by : (o : Option RecordSet) → set_in (option_map_or (λ (held : RecordSet). put_at sets k (lacked held s)) o sets) q ≡ set_in sets q
    by None = refl
    by (Some t) = elsewhere-put_at sets k q (lacked t s) h n

pub holds-taken : (sets : Sets) (k : Key) (s : RecordSet) → Sorted sets → (ttl : ℕ) (d : List Field) → holds (taken_from sets k s) k ttl d ≡ (holds sets k ttl d && not (in_set s ttl d))
holds-taken sets k s h ttl d = by (set_in sets k) refl
  where
    by : (o : Option RecordSet) → set_in sets k ≡ o → holds (option_map_or (λ (held : RecordSet). put_at sets k (lacked held s)) o sets) k ttl d ≡ (in_some o ttl d && not (in_set s ttl d))
    by None e = ap (λ o. in_some o ttl d) e
    by (Some t) e = holds-put_at sets k (lacked t s) h ttl d ∙ in-lacked t s ttl d

-- ---- the side that a set joins, less what the other side has

in-lacked_by : (sets : Sets) (k : Key) (s : RecordSet) (ttl : ℕ) (d : List Field) → in_set (lacked_by sets k s) ttl d ≡ (in_set s ttl d && not (holds sets k ttl d))
in-lacked_by sets k s ttl d = by (set_in sets k)
  where
    by : (o : Option RecordSet) → in_set (option_map_or (lacked s) o s) ttl d ≡ (in_set s ttl d && not (in_some o ttl d))
    by None = and_true (in_set s ttl d)
    by (Some t) = in-lacked s t ttl d

ttl-lacked_by : (sets : Sets) (k : Key) (s : RecordSet) → (lacked_by sets k s).ttl ≡ s.ttl
ttl-lacked_by sets k s = by (set_in sets k)
  where
    by : (o : Option RecordSet) → (option_map_or (lacked s) o s).ttl ≡ s.ttl
    by None = refl
    by (Some t) = ttl-lacked s t

pub sorted-behind : (sets : Sets) (k : Key) (s : RecordSet) → Sorted sets → Sorted (put_behind sets k s)
sorted-behind sets k s h = sorted-put_at sets k (merged_set (set_in sets k) (distinct_set s)) h

pub elsewhere-behind : (sets : Sets) (k q : Key) (s : RecordSet) → Sorted sets → has_key q k ≡ false → set_in (put_behind sets k s) q ≡ set_in sets q
elsewhere-behind sets k q s h n = elsewhere-put_at sets k q (merged_set (set_in sets k) (distinct_set s)) h n

pub holds-behind : (from into : Sets) (k : Key) (s : RecordSet) → Sorted into → OneTtl into k s → (ttl : ℕ) (d : List Field)
    → holds (put_behind into k (lacked_by from k s)) k ttl d ≡ (holds into k ttl d || (in_set s ttl d && not (holds from k ttl d)))
holds-behind from into k s h one ttl d =
    holds-put_at into k (merged_set (set_in into k) (distinct_set (lacked_by from k s))) h ttl d
    ∙ in-joined (set_in into k) (lacked_by from k s) (λ t e. one t e ∙ sym (ttl-lacked_by from k s)) ttl d
    ∙ ap (λ b. holds into k ttl d || b) (in-lacked_by from k s ttl d)

-- ---- both sides

abbrev Disjoint : Sets → Sets → Type 0
Disjoint from into = (k : Key) (ttl : ℕ) (d : List Field) → (holds from k ttl d && holds into k ttl d) ≡ false

turned : (from into : Sets) → Disjoint from into → Disjoint into from
turned from into p k ttl d = and_turned (holds into k ttl d) (holds from k ttl d) ∙ p k ttl d

disjoint : (from into : Sets) (k : Key) (s : RecordSet) → Sorted from → Sorted into → OneTtl into k s → Disjoint from into → Disjoint (taken_from from k s) (put_behind into k (lacked_by from k s))
disjoint from into k s f g one p q ttl d = by (has_key q k) refl
  where
    left : Sets
    left = taken_from from k s

    more : Sets
    more = put_behind into k (lacked_by from k s)

    alike : (sets : Sets) → has_key q k ≡ true → holds sets q ttl d ≡ holds sets k ttl d
    alike sets e = ap (λ o. in_some o ttl d) (find_alike key_total sets q k ((Equal-is (key_cmp q k)).0 e))

    by : (b : Bool) → has_key q k ≡ b → (holds left q ttl d && holds more q ttl d) ≡ false
    by true e =
        (λ i. (alike left e ∙ holds-taken from k s f ttl d) i && (alike more e ∙ holds-behind from into k s g one ttl d) i)
        ∙ apart_then (holds from k ttl d) (holds into k ttl d) (in_set s ttl d) (p k ttl d)
    by false e =
        (λ i. in_some (elsewhere-taken from k q s f e i) ttl d && in_some (elsewhere-behind into k q (lacked_by from k s) g e i) ttl d)
        ∙ p q ttl d

pub apart-added : (b : Sides) (k : Key) (s : RecordSet) → AreOrdered b → OneTtl b.added k s → Apart b → Apart (added_to b k s)
apart-added b k s h one p = disjoint b.removed b.added k s h.removed h.added one p

pub apart-removed : (b : Sides) (k : Key) (s : RecordSet) → AreOrdered b → OneTtl b.removed k s → Apart b → Apart (removed_from b k s)
apart-removed b k s h one p =
    turned (taken_from b.added k s) (put_behind b.removed k (lacked_by b.added k s)) (disjoint b.added b.removed k s h.added h.removed one (turned b.removed b.added p))
