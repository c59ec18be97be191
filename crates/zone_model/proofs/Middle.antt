-- A version with a set besides its SOA is sent with a record between the SOA records.
use Rattle.std.proofs.Common.{◌≡◌, ◌+◌, ◌≤◌, Bool, true, false, ◌==◌, not, if◌then◌else◌, List, [], ◌∷◌, ◌++◌, flat_map, length, refl, sym, ap, ◌∙◌, subst, true≢false, Less, Equal, is_lt, ne_eqb, leb-true, length-append, eqb-true, arith}
use Rattle.std.specs.List.{AllByRecursion, list_any}
use Rattle.std.specs.List.Sorted.{IsStrictlySortedBy}
use Rattle.std.specs.Map.{keys_of}
use Rattle.std.proofs.lemmas.Map.Keys.{sorted_head}
use Rattle.dns_name.specs.Names.{fold}
use Rattle.dns_name.specs.Records.{Field, Record}
use Rattle.dns_numbers.specs.Codes.{type_soa}
use Rattle.zone_model.specs.Version.{RecordSet, Key, Sets, Version, key_cmp}
use Rattle.zone_model.specs.Answer.{records_of}
use Rattle.zone_model.specs.Walk.{shown_owner}
use Rattle.zone_model.specs.TransferLaws.{SetsMakeMiddle}
use Rattle.zone_model.proofs.Steps.{set_of}
use Rattle.zone_model.proofs.Phases.{recs}
use Rattle.zone_model.proofs.Valid.{Kept, kept, OneSoa, one_soa}
use Rattle.zone_model.proofs.Alike.{tie_from}
use Rattle.zone_model.proofs.WholeText.{but_soa, middle_of, soa_of, whole_is}

abbrev any_record : List Record → Bool
any_record rs = list_any (λ r. true) rs

any_first : (xs ys : List Record) → any_record xs ≡ true → any_record (xs ++ ys) ≡ true
any_first [] ys h = absurd (true≢false (sym h))
any_first (x ∷ xs) ys h = refl

any_second : (xs ys : List Record) → any_record ys ≡ true → any_record (xs ++ ys) ≡ true
any_second [] ys h = h
any_second (x ∷ xs) ys h = refl

some_records : (v : Version) (e : Key × RecordSet) → (e.0.1 == type_soa) ≡ false → 1 ≤ length e.1.items → any_record (recs (shown_owner v) v.class but_soa e) ≡ true
some_records v e n h = ap (λ b. any_record (records_of (shown_owner v e.0.0) e.0.1 v.class (set_of e.1.ttl (if b then [] else e.1.items)))) n ∙ by e.1.items h
  where
    by : (ds : List (List Field)) → 1 ≤ length ds → any_record (records_of (shown_owner v e.0.0) e.0.1 v.class (set_of e.1.ttl ds)) ≡ true
    by [] k = absurd (omega arith)
    by (d ∷ ds) k = refl

two_sets : (v : Version) (es : Sets) → AllByRecursion (Kept v) es → AllByRecursion (λ (k : Key). (k.1 == type_soa) ≡ true → fold k.0 ≡ fold v.apex) (keys_of es) → ((e f : Key × RecordSet) (more : Sets) → es ≡ e ∷ f ∷ more → key_cmp e.0 f.0 ≡ Less)
    → 2 ≤ length es → any_record (flat_map (recs (shown_owner v) v.class but_soa) es) ≡ true
two_sets v [] k a s h = absurd (omega arith)
two_sets v (e ∷ []) k a s h = absurd (omega arith)
two_sets v (e ∷ f ∷ more) k a s h = by (e.0.1 == type_soa) (f.0.1 == type_soa) refl refl
  where
    by : (b c : Bool) → (e.0.1 == type_soa) ≡ b → (f.0.1 == type_soa) ≡ c → any_record (flat_map (recs (shown_owner v) v.class but_soa) (e ∷ f ∷ more)) ≡ true
    by false c p q = any_first (recs (shown_owner v) v.class but_soa e) _ (some_records v e p k.0.holds_some)
    by true false p q = any_second (recs (shown_owner v) v.class but_soa e) _ (any_first (recs (shown_owner v) v.class but_soa f) _ (some_records v f q k.1.0.holds_some))
    by true true p q =
        let tie : key_cmp e.0 f.0 ≡ Equal = tie_from e.0 f.0 (a.0 p ∙ sym (a.1.0 q)) (eqb-true e.0.1 type_soa p ∙ sym (eqb-true f.0.1 type_soa q)) in
        absurd (true≢false (ap is_lt (sym (s e f more refl) ∙ tie)))

long : (s : Record) (rs : List Record) → any_record rs ≡ true → (length (s ∷ rs ++ s ∷ []) == 2) ≡ false
long s [] h = absurd (true≢false (sym h))
long s (r ∷ rs) h = ne_eqb (length (s ∷ (r ∷ rs) ++ s ∷ [])) 2 (λ e. let n : length (rs ++ s ∷ []) ≡ length rs + 1 = length-append rs (s ∷ []) in absurd (omega arith))

pub sets_make_middle : SetsMakeMiddle
sets_make_middle v h one n =
    let o : OneSoa v = one_soa v h one in
    let first_less : (e f : Key × RecordSet) (more : Sets) → v.sets ≡ e ∷ f ∷ more → key_cmp e.0 f.0 ≡ Less
    = λ e f more q. (sorted_head key_cmp e.0 (keys_of (f ∷ more)) (subst (λ l. IsStrictlySortedBy key_cmp (keys_of l)) q h.ordered)).0 in
    ap not (ap (λ l. length l == 2) (whole_is v o) ∙ long (soa_of v o) (middle_of v) (two_sets v v.sets (kept v h) o.alone first_less (leb-true 2 (length v.sets) n)))
