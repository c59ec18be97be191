-- The first of equal data (RFC 2181, 5).
use Rattle.std.proofs.Common.{◌≡◌, ℕ, ◌+◌, ◌<◌, length, get_or, map, take, Bool, true, false, cond, ◌&&◌, ◌||◌, not, if◌then◌else◌, List, [], ◌∷◌, ◌++◌, refl, sym, ap, ◌∙◌, true≢false, IfOk, Result, Ok, Err}
use Rattle.std.specs.List.{list_any, filter}
use Rattle.std.specs.Cmp.{first_so, second_so}
use Rattle.std.specs.Cmp.Derive.{both_true}
use Rattle.std.proofs.lemmas.List.{append-nil, map-append, take_more}
use Rattle.std.proofs.lemmas.List.Elements.{filter-append}
use Rattle.std.proofs.lemmas.Map.Views.{any-filter_same}
use Rattle.dns_rdata.specs.Records.{Field, same_data}
use Rattle.dns_rdata.specs.SameData.{same_data_equiv}
use Rattle.zone_model.specs.Version.{RecordSet, all_differ}
use Rattle.zone_model.specs.Edits.{distinct, distinct_set}
use Rattle.zone_values.specs.TypedSets.{TypedSet}
use Rattle.zone_values.specs.TypedEntries.{typed}

-- the list with a datum put last, unless it has an equal one
abbrev pub with_new : List (List Field) → List Field → List (List Field)
with_new xs d = if list_any (same_data d) xs then xs else xs ++ d ∷ []

-- the first of equal data, and one more
pub distinct_last : (xs : List (List Field)) (d : List Field) → distinct (xs ++ d ∷ []) ≡ with_new (distinct xs) d
distinct_last [] d = refl
distinct_last (x ∷ xs) d =
    ap (λ l. x ∷ filter (λ y. not (same_data x y)) l) (distinct_last xs d)
    ∙ by (list_any (same_data d) (distinct xs)) (same_data d x) (same_data_equiv.symm x d) (any-filter_same (same_data d) (λ y. not (same_data x y)) (not (same_data x d)) alike (distinct xs))
  where
    alike : (y : List Field) → same_data d y ≡ true → not (same_data x y) ≡ not (same_data x d)
    alike y e = ap not (same_data_equiv.symm x y ∙ sym (same_data_equiv.congr d y x e) ∙ same_data_equiv.symm d x)

    by : (b c : Bool) → same_data x d ≡ c → list_any (same_data d) (filter (λ y. not (same_data x y)) (distinct xs)) ≡ (not (same_data x d) && b)
        → x ∷ filter (λ y. not (same_data x y)) (if b then distinct xs else distinct xs ++ d ∷ [])
        ≡ (if c || list_any (same_data d) (filter (λ y. not (same_data x y)) (distinct xs)) then x ∷ filter (λ y. not (same_data x y)) (distinct xs) else x ∷ filter (λ y. not (same_data x y)) (distinct xs) ++ d ∷ [])
    by true true e h = refl
    by true false e h = ap (λ k. if k then x ∷ filter (λ y. not (same_data x y)) (distinct xs) else x ∷ filter (λ y. not (same_data x y)) (distinct xs) ++ d ∷ []) (sym (h ∙ ap (λ k. not k && true) e))
    by false true e h =
        ap (λ l. x ∷ l) (filter-append (λ y. not (same_data x y)) (distinct xs) (d ∷ []) ∙ ap (λ k. filter (λ y. not (same_data x y)) (distinct xs) ++ cond (not k) (d ∷ []) []) e ∙ append-nil (filter (λ y. not (same_data x y)) (distinct xs)))
    by false false e h =
        ap (λ l. x ∷ l) (filter-append (λ y. not (same_data x y)) (distinct xs) (d ∷ []) ∙ ap (λ k. filter (λ y. not (same_data x y)) (distinct xs) ++ cond (not k) (d ∷ []) []) e)
        ∙ ap (λ k. if k then x ∷ filter (λ y. not (same_data x y)) (distinct xs) else x ∷ filter (λ y. not (same_data x y)) (distinct xs) ++ d ∷ []) (sym (h ∙ ap (λ k. not k && false) e))

-- .. of the first data of a list, and one more
pub distinct_more : {X : Type 0} (f : X → List Field) (xs : List X) (i : ℕ) (x : X) → i < length xs → x ≡ get_or xs i x → distinct (map f (take (i + 1) xs)) ≡ with_new (distinct (map f (take i xs))) (f x)
distinct_more f xs i x within is =
    ap (λ l. distinct (map f l)) (take_more xs i x within ∙ ap (λ y. take i xs ++ y ∷ []) (sym is)) ∙ ap distinct (map-append f (take i xs) (x ∷ [])) ∙ distinct_last (map f (take i xs)) (f x)

-- ---- data that all differ

not_true : (b : Bool) → not b ≡ true → b ≡ false
not_true true h = absurd (true≢false (sym h))
not_true false h = refl

any_left : {X : Type 0} (p q : X → Bool) (xs : List X) → list_any q xs ≡ false → list_any q (filter p xs) ≡ false
any_left p q [] h = refl
any_left p q (x ∷ xs) h = by (p x) (q x) refl h (λ k. any_left p q xs k)
  where
    by : (b c : Bool) → q x ≡ c → (c || list_any q xs) ≡ false → (list_any q xs ≡ false → list_any q (filter p xs) ≡ false) → list_any q (cond b (x ∷ filter p xs) (filter p xs)) ≡ false
    by true true e g later = absurd (true≢false g)
    by true false e g later = ap (λ c. c || list_any q (filter p xs)) e ∙ later g
    by false true e g later = absurd (true≢false g)
    by false false e g later = later g

pub differ_left : (p : List Field → Bool) (xs : List (List Field)) → all_differ xs ≡ true → all_differ (filter p xs) ≡ true
differ_left p [] h = refl
differ_left p (x ∷ xs) h = by (p x) (differ_left p xs (second_so (not (list_any (same_data x) xs)) (all_differ xs) h))
  where
    by : (b : Bool) → all_differ (filter p xs) ≡ true → all_differ (cond b (x ∷ filter p xs) (filter p xs)) ≡ true
    by true later = both_true (ap not (any_left p (same_data x) xs (not_true _ (first_so (not (list_any (same_data x) xs)) (all_differ xs) h)))) later
    by false later = later

apart_left : (d : List Field) (xs : List (List Field)) → list_any (same_data d) (filter (λ x. not (same_data d x)) xs) ≡ false
apart_left d [] = refl
apart_left d (x ∷ xs) = by (same_data d x) refl (apart_left d xs)
  where
    by : (b : Bool) → same_data d x ≡ b → list_any (same_data d) (filter (λ y. not (same_data d y)) xs) ≡ false
        → list_any (same_data d) (cond (not b) (x ∷ filter (λ y. not (same_data d y)) xs) (filter (λ y. not (same_data d y)) xs)) ≡ false
    by true e later = later
    by false e later = ap (λ c. c || list_any (same_data d) (filter (λ y. not (same_data d y)) xs)) e ∙ later

-- the first of equal data all differ
pub distinct_differ : (xs : List (List Field)) → all_differ (distinct xs) ≡ true
distinct_differ [] = refl
distinct_differ (d ∷ xs) = both_true (ap not (apart_left d (distinct xs))) (differ_left (λ x. not (same_data d x)) (distinct xs) (distinct_differ xs))

filter_apart : (d : List Field) (xs : List (List Field)) → list_any (same_data d) xs ≡ false → filter (λ x. not (same_data d x)) xs ≡ xs
filter_apart d [] h = refl
filter_apart d (x ∷ xs) h = by (same_data d x) h (λ g. filter_apart d xs g)
  where
    by : (b : Bool) → (b || list_any (same_data d) xs) ≡ false → (list_any (same_data d) xs ≡ false → filter (λ y. not (same_data d y)) xs ≡ xs)
        → cond (not b) (x ∷ filter (λ y. not (same_data d y)) xs) (filter (λ y. not (same_data d y)) xs) ≡ x ∷ xs
    by true g later = absurd (true≢false g)
    by false g later = ap (λ l. x ∷ l) (later g)

-- .. and data that all differ are the first of equal ones
pub distinct_same : (xs : List (List Field)) → all_differ xs ≡ true → distinct xs ≡ xs
distinct_same [] h = refl
distinct_same (d ∷ xs) h =
    ap (λ l. d ∷ filter (λ x. not (same_data d x)) l) (distinct_same xs (second_so (not (list_any (same_data d) xs)) (all_differ xs) h))
    ∙ ap (λ l. d ∷ l) (filter_apart d xs (not_true _ (first_so (not (list_any (same_data d) xs)) (all_differ xs) h)))

-- a set of the first of equal data
pub set_differs : {E : Type 0} (r : Result TypedSet E) (rtype : ℕ) (s : RecordSet) → IfOk r (λ t. t ≡ typed rtype (distinct_set s)) → IfOk r (λ t. all_differ t.contents.items ≡ true)
set_differs (Ok t) rtype s h = ap (λ (u : TypedSet). all_differ u.contents.items) h ∙ distinct_differ s.items
set_differs (Err e) rtype s h = tt
