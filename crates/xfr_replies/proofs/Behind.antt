-- The entries behind a key: the first of them heads the rest, and stands at its own key.
use Rattle.std.proofs.Common.{◌≡◌, ℕ, ◌<◌, suc, Bool, true, false, cond, [], ◌∷◌, length, refl, sym, ap, ◌∙◌, subst, Ordering, Less, Equal, Greater, is_lt, is_eq, Option, Some, None, option_map, arith}
use Rattle.std.specs.List.{find, AllByRecursion}
use Rattle.std.specs.Ordering.{ordering_reverse}
use Rattle.std.specs.Cmp.{tied_itself}
use Rattle.std.specs.List.Sorted.{IsStrictlySortedBy}
use Rattle.std.specs.Map.{keys_of}
use Rattle.std.proofs.lemmas.Map.Keys.{sorted_head, sorted_tail}
use Rattle.zone_model.specs.Version.{RecordSet, Key, Sets, key_cmp, set_in}
use Rattle.zone_model.proofs.Folded.{key_total}
use Rattle.zone_model.proofs.Ordered.{at_head, below_all}
use Rattle.xfr_replies.specs.Sides.{behind}
use Rattle.xfr_replies.specs.Steps.{Heads}

abbrev pub Sorted : Sets → Type 0
Sorted sets = IsStrictlySortedBy key_cmp (keys_of sets)

abbrev AllBehind : Key → Sets → Type 0
AllBehind k es = AllByRecursion (λ y. key_cmp k y ≡ Less) (keys_of es)

abbrev pub first_entry : Sets → Option (Key × RecordSet)
first_entry [] = None
first_entry (e ∷ es) = Some e

abbrev pub first_key_of : Sets → Option Key
first_key_of sets = option_map (λ (e : Key × RecordSet). e.0) (first_entry sets)

-- ---- entries all of which are behind a key

all_kept : (k : Key) (es : Sets) → AllBehind k es → behind k es ≡ es
all_kept k [] a = refl
all_kept k (e ∷ es) a = ap (λ o. cond (is_lt o) (e ∷ behind k es) (behind k es)) a.0 ∙ ap (λ l. e ∷ l) (all_kept k es a.1)

first_behind : (e : Key × RecordSet) (es : Sets) → Sorted (e ∷ es) → behind e.0 (e ∷ es) ≡ es
first_behind e es s = ap (λ o. cond (is_lt o) (e ∷ behind e.0 es) (behind e.0 es)) (tied_itself key_total e.0) ∙ all_kept e.0 es (sorted_head key_cmp e.0 (keys_of es) s)

filter_behind : (x k : Key) (es : Sets) → AllBehind x es → AllBehind x (behind k es)
filter_behind x k [] a = tt
filter_behind x k (e ∷ es) a = by (is_lt (key_cmp k e.0)) (filter_behind x k es a.1)
  where
    by : (b : Bool) → AllBehind x (behind k es) → AllBehind x (cond b (e ∷ behind k es) (behind k es))
    by true h = (a.0, h)
    by false h = h

-- ---- the rest of some sets: of each entry what is behind it is what stands after it

abbrev pub IsRest : Sets → Sets → Type 0
IsRest sets [] = Unit {0}
IsRest sets (e ∷ es) = (behind e.0 sets ≡ es) × (set_in sets e.0 ≡ Some e.1) × IsRest sets es

rest_under : (f : Key × RecordSet) (sets rest : Sets) → AllBehind f.0 rest → IsRest sets rest → IsRest (f ∷ sets) rest
rest_under f sets [] a r = tt
rest_under f sets (e ∷ es) a r =
    let turned : key_cmp e.0 f.0 ≡ Greater = key_total.antisymm e.0 f.0 ∙ ap ordering_reverse a.0 in (
      ap (λ o. cond (is_lt o) (f ∷ behind e.0 sets) (behind e.0 sets)) turned ∙ r.0,
      ap (λ o. cond (is_eq o) (Some f.1) (set_in sets e.0)) turned ∙ r.1,
      rest_under f sets es a.1 r.2,
    )

pub all_rest : (sets : Sets) → Sorted sets → IsRest sets sets
all_rest [] s = tt
all_rest (e ∷ es) s =
    (first_behind e es s, at_head key_total e es, rest_under e es es (sorted_head key_cmp e.0 (keys_of es) s) (all_rest es (sorted_tail key_cmp e.0 (keys_of es) s)))

pub behind_rest : (k : Key) (sets : Sets) → Sorted sets → IsRest sets (behind k sets)
behind_rest k [] s = tt
behind_rest k (e ∷ es) s = by (key_cmp k e.0) refl (rest_under e es (behind k es) (filter_behind e.0 k es head) (behind_rest k es (sorted_tail key_cmp e.0 (keys_of es) s)))
  where
    head : AllBehind e.0 es
    head = sorted_head key_cmp e.0 (keys_of es) s

    by : (o : Ordering) → key_cmp k e.0 ≡ o → IsRest (e ∷ es) (behind k es) → IsRest (e ∷ es) (cond (is_lt o) (e ∷ behind k es) (behind k es))
    by Less p under = subst (λ (l : Sets). IsRest (e ∷ es) (e ∷ l)) (sym (all_kept k es (below_all key_total k e.0 es p head))) (all_rest (e ∷ es) s)
    by Equal p under = under
    by Greater p under = under

-- ---- its first entry

pub found_first : (k : Key) (sets : Sets) → find (λ (e : Key × RecordSet). is_lt (key_cmp k e.0)) sets ≡ first_entry (behind k sets)
found_first k [] = refl
found_first k (e ∷ es) = by (is_lt (key_cmp k e.0)) (found_first k es)
  where
    by : (b : Bool) → find (λ (f : Key × RecordSet). is_lt (key_cmp k f.0)) es ≡ first_entry (behind k es)
        → cond b (Some e) (find (λ (f : Key × RecordSet). is_lt (key_cmp k f.0)) es) ≡ first_entry (cond b (e ∷ behind k es) (behind k es))
    by true h = refl
    by false h = h

pub each_behind : (P : Key × RecordSet → Type 0) (k : Key) (sets : Sets) → AllByRecursion P sets → AllByRecursion P (behind k sets)
each_behind P k [] h = tt
each_behind P k (e ∷ es) h = by (is_lt (key_cmp k e.0)) (each_behind P k es h.1)
  where
    by : (b : Bool) → AllByRecursion P (behind k es) → AllByRecursion P (cond b (e ∷ behind k es) (behind k es))
    by true later = (h.0, later)
    by false later = later

-- .. heads it, where each has data
abbrev pub HasData : Key × RecordSet → Type 0
HasData e = 0 < length e.1.items

pub heads_first : (sets rest : Sets) → IsRest sets rest → AllByRecursion HasData rest → Heads sets rest (first_key_of rest)
heads_first sets [] r h = refl
heads_first sets (e ∷ es) r h = (e.1, ap (λ l. e ∷ l) (sym r.0), r.1, h.0)

-- each step leaves fewer
abbrev pub left_at : Sets → Option Key → ℕ
left_at sets None = 0
left_at sets (Some k) = suc (length (behind k sets))

pub fewer : (sets : Sets) (k : Key) (o : Option Key) → Heads sets (behind k sets) o → left_at sets o < left_at sets (Some k)
fewer sets k None h = omega arith
fewer sets k (Some l) h = omega (arith, ap length h.1)
