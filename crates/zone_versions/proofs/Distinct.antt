-- Lists of data without equal ones, and a datum put last.
use Rattle.std.proofs.Common.{◌≡◌, Bool, true, false, cond, ◌&&◌, ◌||◌, not, if◌then◌else◌, List, [], ◌∷◌, ◌++◌, refl, sym, ap, ◌∙◌, true≢false, Option, Some, IsTrue}
use Rattle.std.specs.List.{list_any, list_all, filter}
use Rattle.std.specs.Option.{option_map_or}
use Rattle.std.specs.Cmp.{first_so, second_so}
use Rattle.std.proofs.lemmas.List.{append-nil}
use Rattle.std.proofs.lemmas.List.Elements.{filter-append}
use Rattle.std.proofs.lemmas.List.Folds.{list_any-append}
use Rattle.dns_name.specs.Names.{fold}
use Rattle.dns_rdata.specs.Records.{Field, Record, same_data}
use Rattle.zone_model.specs.Version.{RecordSet, Key, Sets, Version, has_key, set_in, all_differ}
use Rattle.zone_model.specs.Edits.{distinct, put_set}
use Rattle.zone_model.specs.Classify.{opened_with, lowest_ttl}
use Rattle.dns_rdata.specs.SameData.{same_data_equiv}
use Rattle.zone_versions.specs.Puts.{opened_by}
use Rattle.zone_versions.proofs.Closing.{filter_none}

not_true : (b : Bool) → not b ≡ true → b ≡ false
not_true true h = absurd (true≢false (sym h))
not_true false h = refl

or_false : (b : Bool) → (b || false) ≡ b
or_false true = refl
or_false false = refl

or_true : (b : Bool) → true ≡ (b || true)
or_true true = refl
or_true false = refl

-- the list with a datum put last, unless it has an equal one
abbrev pub pushed_new : List (List Field) → List Field → List (List Field)
pushed_new xs d = if list_any (same_data d) xs then xs else xs ++ d ∷ []

-- the first of equal data stay, and so all but an equal last one
pub distinct-pushed : (xs : List (List Field)) (d : List Field) → all_differ xs ≡ true → distinct (xs ++ d ∷ []) ≡ pushed_new xs d
distinct-pushed [] d h = refl
distinct-pushed (x ∷ xs) d h =
    let apart : list_any (same_data x) xs ≡ false = not_true _ (first_so (not (list_any (same_data x) xs)) (all_differ xs) h) in
    let rest : distinct (xs ++ d ∷ []) ≡ pushed_new xs d = distinct-pushed xs d (second_so (not (list_any (same_data x) xs)) (all_differ xs) h) in
    ap (λ l. x ∷ filter (λ y. not (same_data x y)) l) rest ∙ by (list_any (same_data d) xs) (filter_none (same_data x) xs apart)
  where
    last : (b c : Bool) → b ≡ c → x ∷ (xs ++ cond (not b) (d ∷ []) []) ≡ (if c || false then x ∷ xs else x ∷ xs ++ d ∷ [])
    last true true e = ap (λ l. x ∷ l) (append-nil xs)
    last true false e = absurd (true≢false e)
    last false true e = absurd (true≢false (sym e))
    last false false e = refl

    by : (b : Bool) → filter (λ y. not (same_data x y)) xs ≡ xs → x ∷ filter (λ y. not (same_data x y)) (if b then xs else xs ++ d ∷ []) ≡ (if same_data d x || b then x ∷ xs else x ∷ xs ++ d ∷ [])
    by true e = ap (λ l. x ∷ l) e ∙ ap (λ c. if c then x ∷ xs else x ∷ xs ++ d ∷ []) (or_true (same_data d x))
    by false e =
        ap (λ l. x ∷ l) (filter-append (λ y. not (same_data x y)) xs (d ∷ []) ∙ ap (λ l. l ++ filter (λ y. not (same_data x y)) (d ∷ [])) e)
        ∙ last (same_data x d) (same_data d x) (same_data_equiv.symm x d)

both : (a b : Bool) → a ≡ true → b ≡ true → (a && b) ≡ true
both a b p q = ap (λ x. x && b) p ∙ q

first_or : (a b : Bool) → (a || b) ≡ false → (a ≡ false) × (b ≡ false)
first_or true b h = absurd (true≢false h)
first_or false b h = (refl, h)

-- a datum that the list lacks may be put last
pub differ_push : (xs : List (List Field)) (d : List Field) → all_differ xs ≡ true → list_any (same_data d) xs ≡ false → all_differ (xs ++ d ∷ []) ≡ true
differ_push [] d h n = refl
differ_push (x ∷ xs) d h n =
    let parts = first_or (same_data d x) (list_any (same_data d) xs) n in
    let apart : list_any (same_data x) xs ≡ false = not_true _ (first_so (not (list_any (same_data x) xs)) (all_differ xs) h) in
    let last : list_any (same_data x) (xs ++ d ∷ []) ≡ false =
    list_any-append (same_data x) xs (d ∷ []) ∙ ap (λ b. b || (same_data x d || false)) apart ∙ or_false (same_data x d) ∙ same_data_equiv.symm x d ∙ parts.0 in
    both _ (all_differ (xs ++ d ∷ [])) (ap not last) (differ_push xs d (second_so (not (list_any (same_data x) xs)) (all_differ xs) h) parts.1)

pub differ_pushed : (xs : List (List Field)) (d : List Field) → all_differ xs ≡ true → all_differ (pushed_new xs d) ≡ true
differ_pushed xs d h = by (list_any (same_data d) xs) refl
  where
    by : (b : Bool) → list_any (same_data d) xs ≡ b → all_differ (if b then xs else xs ++ d ∷ []) ≡ true
    by true n = h
    by false n = differ_push xs d h n

abbrev differs : Key × RecordSet → Bool
differs e = all_differ e.1.items

-- no set has equal data twice
abbrev pub has_distinct_data : Version → Bool
has_distinct_data v = list_all (λ (e : Key × RecordSet). all_differ e.1.items) v.sets

abbrev items_in : Option RecordSet → List (List Field)
items_in o = option_map_or (λ (s : RecordSet). s.items) o []

-- what a look-up finds
data_differ : (es : Sets) (k : Key) → list_all differs es ≡ true → all_differ (items_in (set_in es k)) ≡ true
data_differ [] k h = refl
data_differ (e ∷ es) k h = by (has_key k e.0) (data_differ es k (second_so (differs e) (list_all differs es) h))
  where
    by : (b : Bool) → all_differ (items_in (set_in es k)) ≡ true → all_differ (items_in (cond b (Some e.1) (set_in es k))) ≡ true
    by true later = first_so (differs e) (list_all differs es) h
    by false later = later

-- where no set has equal data twice, an opening record is put as a zone file puts it
pub opens_as_file : (v : Version) (r : Record) → IsTrue (has_distinct_data v) → opened_by v r ≡ opened_with v r
opens_as_file v r h =
    ap (λ (l : List (List Field)). put_set v r.owner r.rtype (record { ttl = lowest_ttl r (set_in v.sets (fold r.owner, r.rtype)); items = l }))
    (sym (distinct-pushed (items_in (set_in v.sets (fold r.owner, r.rtype))) r.fields (data_differ v.sets (fold r.owner, r.rtype) h)))
