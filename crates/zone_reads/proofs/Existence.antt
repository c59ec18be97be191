-- In canonical order the owners at or below a name stand together, beginning with the first that isn't before it.
use Rattle.std.proofs.Common.{◌≡◌, ℕ, zero, suc, Bool, true, false, ◌||◌, cond, List, [], ◌∷◌, ◌++◌, reverse, refl, sym, ap, subst, ◌∙◌, true≢false, arith, Ordering, Less, Equal, Greater, is_le, is_lt, is_eq, nat_cmp, Option, Some}
use Rattle.std.specs.List.{AllByRecursion, list_any, find}
use Rattle.std.specs.List.Sorted.{IsStrictlySortedBy}
use Rattle.std.specs.Map.{keys_of}
use Rattle.std.specs.Option.{option_map_or}
use Rattle.std.specs.Ordering.{ordering_then, ordering_reverse}
use Rattle.std.specs.Cmp.{nat_cmp_is}
use Rattle.std.specs.Cmp.Lexicographic.{slice_cmp, bytes_decides, texts_ties, nat_list_cmp_total}
use Rattle.std.proofs.lemmas.Cmp.{tied_itself}
use Rattle.std.proofs.lemmas.Map.Keys.{sorted_head, sorted_tail}
use Rattle.std.proofs.lemmas.List.{reverse-append, reverse-reverse}
use Rattle.dns_name.specs.Names.{Name, fold, same_name, under}
use Rattle.dns_name.proofs.FoldedLabels.{names_under}
use Rattle.zone_model.specs.Version.{RecordSet, Key, Sets, Version, IsValid, exists, key_cmp}
use Rattle.zone_versions.specs.Stops.{first_from}
use Rattle.zone_model.proofs.Folded.{fold-fold}

label_tie : (xs ys : List ℕ) → slice_cmp nat_cmp xs ys ≡ Equal → xs ≡ ys
label_tie xs ys e = (bytes_decides xs ys).0 (texts_ties xs ys ∙ ap is_eq e)

prefix_le : (xs rest : Name) → is_le (slice_cmp (slice_cmp nat_cmp) xs (xs ++ rest)) ≡ true
prefix_le [] [] = refl
prefix_le [] (r ∷ rs) = refl
prefix_le (x ∷ xs) rest = ap (λ o. is_le (ordering_then o (slice_cmp (slice_cmp nat_cmp) xs (xs ++ rest)))) (tied_itself nat_list_cmp_total x) ∙ prefix_le xs rest

-- what stands between a list and one that begins with it begins with it too
between : (xs ys rest : Name) → is_le (slice_cmp (slice_cmp nat_cmp) xs ys) ≡ true → is_le (slice_cmp (slice_cmp nat_cmp) ys (xs ++ rest)) ≡ true → (more : Name) × (ys ≡ xs ++ more)
between [] ys rest p q = (ys, refl)
between (x ∷ xs) [] rest p q = absurd (true≢false (sym p))
between (x ∷ xs) (y ∷ ys) rest p q = by (slice_cmp nat_cmp x y) refl (λ a b. between xs ys rest a b)
  where
    turned : slice_cmp nat_cmp y x ≡ ordering_reverse (slice_cmp nat_cmp x y)
    turned = nat_list_cmp_total.antisymm y x

    by : (r : Ordering) → slice_cmp nat_cmp x y ≡ r
        → (is_le (slice_cmp (slice_cmp nat_cmp) xs ys) ≡ true → is_le (slice_cmp (slice_cmp nat_cmp) ys (xs ++ rest)) ≡ true → (more : Name) × (ys ≡ xs ++ more))
        → (more : Name) × ((y ∷ ys) ≡ ((x ∷ xs) ++ more))
    by Less e h = absurd (true≢false (sym q ∙ ap (λ o. is_le (ordering_then o (slice_cmp (slice_cmp nat_cmp) ys (xs ++ rest)))) (turned ∙ ap ordering_reverse e)))
    by Equal e h =
        let found = h (sym (ap (λ o. is_le (ordering_then o (slice_cmp (slice_cmp nat_cmp) xs ys))) e) ∙ p)
        (sym (ap (λ o. is_le (ordering_then o (slice_cmp (slice_cmp nat_cmp) ys (xs ++ rest)))) (turned ∙ ap ordering_reverse e)) ∙ q) in
        (found.0, λ i. sym (label_tie x y e) i ∷ found.1 i)
    by Greater e h = absurd (true≢false (sym p ∙ ap (λ o. is_le (ordering_then o (slice_cmp (slice_cmp nat_cmp) xs ys))) e))

-- a name's labels in lower case, from the right
abbrev pub turned_labels : Name → Name
turned_labels n = reverse (fold n)

-- a name is at or below another where it begins with that one, from the right
begins : (g n : Name) → under g n ≡ true → (rest : Name) × (turned_labels g ≡ turned_labels n ++ rest)
begins g n t =
    let u = (names_under g n).0 t in
    (reverse u.0, ap reverse u.1 ∙ reverse-append u.0 (fold n))

stands_under : (g n rest : Name) → turned_labels g ≡ turned_labels n ++ rest → under g n ≡ true
stands_under g n rest e =
    (names_under g n).1 (reverse rest, sym (reverse-reverse (fold g)) ∙ ap reverse e ∙ reverse-append (turned_labels n) rest ∙ ap (λ x. reverse rest ++ x) (reverse-reverse (fold n)))

least : (t : ℕ) → is_le (nat_cmp 0 t) ≡ true
least zero = refl
least (suc t) = sym (ap is_le (nat_cmp_is 0 (suc t) Less (omega arith)))

-- an owner isn't before a name, whatever its type
pub from_name : (n : Name) (k : Key) → is_le (key_cmp (fold n, 0) k) ≡ is_le (slice_cmp (slice_cmp nat_cmp) (turned_labels n) (turned_labels k.0))
from_name n k =
    ap (λ m. is_le (ordering_then (slice_cmp (slice_cmp nat_cmp) (reverse m) (turned_labels k.0)) (nat_cmp 0 k.1))) (fold-fold n)
    ∙ by (slice_cmp (slice_cmp nat_cmp) (turned_labels n) (turned_labels k.0))
  where
    by : (o : Ordering) → is_le (ordering_then o (nat_cmp 0 k.1)) ≡ is_le o
    by Less = refl
    by Equal = least k.1
    by Greater = refl

pub names_rise : (k l : Key) → key_cmp k l ≡ Less → is_le (slice_cmp (slice_cmp nat_cmp) (turned_labels k.0) (turned_labels l.0)) ≡ true
names_rise k l e = by (slice_cmp (slice_cmp nat_cmp) (turned_labels k.0) (turned_labels l.0)) e
  where
    by : (o : Ordering) → ordering_then o (nat_cmp k.1 l.1) ≡ Less → is_le o ≡ true
    by Less h = refl
    by Equal h = refl
    by Greater h = absurd (true≢false (sym (ap is_lt h)))

pub not_so : (b : Bool) → (b ≡ true → ⊥) → b ≡ false
not_so true h = absurd (h refl)
not_so false h = refl

-- where the first owner from a name on isn't at or below it, none after is
none_behind : (n : Name) (e : Key) (es : Sets) → is_le (slice_cmp (slice_cmp nat_cmp) (turned_labels n) (turned_labels e.0)) ≡ true → under e.0 n ≡ false
    → AllByRecursion (λ k. key_cmp e k ≡ Less) (keys_of es) → list_any (λ (f : Key × RecordSet). under f.0.0 n) es ≡ false
none_behind n e [] h out a = refl
none_behind n e (g ∷ es) h out a =
    let apart : under g.0.0 n ≡ false = not_so (under g.0.0 n) (λ t.
    let b = begins g.0.0 n t in
    let rises = subst (λ x. is_le (slice_cmp (slice_cmp nat_cmp) (turned_labels e.0) x) ≡ true) b.1 (names_rise e g.0 a.0) in
    let m = between (turned_labels n) (turned_labels e.0) b.0 h rises in
    true≢false (sym (stands_under e.0 n m.0 m.1) ∙ out)) in
    ap (λ b. b || list_any (λ (f : Key × RecordSet). under f.0.0 n) es) apart ∙ none_behind n e es h out a.1

-- some owner is at or below a name where the first one from it on is
pub any_from : (n : Name) (es : Sets) → IsStrictlySortedBy key_cmp (keys_of es)
    → list_any (λ (e : Key × RecordSet). under e.0.0 n) es ≡ option_map_or (λ (e : Key × RecordSet). under e.0.0 n) (find (λ (e : Key × RecordSet). is_le (key_cmp (fold n, 0) e.0)) es) false
any_from n [] s = refl
any_from n (e ∷ es) s = by (is_le (key_cmp (fold n, 0) e.0)) refl (any_from n es (sorted_tail key_cmp e.0 (keys_of es) s))
  where
    here : (b : Bool) → under e.0.0 n ≡ b → is_le (key_cmp (fold n, 0) e.0) ≡ true → (b || list_any (λ (f : Key × RecordSet). under f.0.0 n) es) ≡ b
    here true u h = refl
    here false u h = none_behind n e.0 es (sym (from_name n e.0) ∙ h) u (sorted_head key_cmp e.0 (keys_of es) s)

    before : is_le (key_cmp (fold n, 0) e.0) ≡ false → under e.0.0 n ≡ false
    before h = not_so (under e.0.0 n) (λ t.
        let b = begins e.0.0 n t in
        true≢false (sym (ap (λ x. is_le (slice_cmp (slice_cmp nat_cmp) (turned_labels n) x)) b.1 ∙ prefix_le (turned_labels n) b.0) ∙ sym (from_name n e.0) ∙ h))

    by : (b : Bool) → is_le (key_cmp (fold n, 0) e.0) ≡ b
        → list_any (λ (f : Key × RecordSet). under f.0.0 n) es ≡ option_map_or (λ (f : Key × RecordSet). under f.0.0 n) (find (λ (f : Key × RecordSet). is_le (key_cmp (fold n, 0) f.0)) es) false
        → (under e.0.0 n || list_any (λ (f : Key × RecordSet). under f.0.0 n) es)
        ≡ option_map_or (λ (f : Key × RecordSet). under f.0.0 n) (cond b (Some e) (find (λ (f : Key × RecordSet). is_le (key_cmp (fold n, 0) f.0)) es)) false
    by true h ih = here (under e.0.0 n) refl h
    by false h ih = ap (λ b. b || list_any (λ (f : Key × RecordSet). under f.0.0 n) es) (before h) ∙ ih

-- a name that isn't the apex exists where the first owner from it on is at or below it
pub exists_by : (v : Version) (n a : Name) (found : Option (Key × RecordSet)) → IsValid v → a ≡ v.apex → false ≡ same_name n a → found ≡ first_from v n
    → exists v n ≡ option_map_or (λ (e : Key × RecordSet). under e.0.0 n) found false
exists_by v n a found h ea out e =
    ap (λ b. b || list_any (λ (e : Key × RecordSet). under e.0.0 n) v.sets) (ap (same_name n) (sym ea) ∙ sym out)
    ∙ any_from n v.sets h.ordered ∙ ap (λ o. option_map_or (λ (e : Key × RecordSet). under e.0.0 n) o false) (sym e)
