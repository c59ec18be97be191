-- The facts of a valid version, and of one with one SOA record, taken apart.
use Rattle.std.proofs.Common.{◌≡◌, ℕ, ◌+◌, ◌≤◌, Bool, true, false, cond, ◌&&◌, ◌||◌, ◌==◌, not, nat_le, if◌then◌else◌, List, [], ◌∷◌, length, refl, sym, ap, ◌∙◌, subst, true≢false, is_eq, Equal, Option, Some, None, is_some, sum_by, IsTrue, eqb-true, eq-eqb, leb-true, arith}
use Rattle.std.specs.List.{AllByRecursion, list_all}
use Rattle.std.specs.Cmp.{Equal-is, first_so, second_so}
use Rattle.std.specs.Cmp.Lexicographic.{pointwise_decides, bytes_decides}
use Rattle.std.specs.Map.{keys_of}
use Rattle.std.proofs.lemmas.List.Sums.{sum_by-cons}
use Rattle.dns_name.specs.Names.{fold, under}
use Rattle.dns_name.specs.Records.{Field}
use Rattle.dns_numbers.specs.Codes.{type_soa, type_cname, type_ds, type_ns}
use Rattle.zone_model.specs.Version.{RecordSet, Key, Sets, Version, IsValid, key_cmp, set_in, set_at, in_zone, below_apex, all_differ, is_kept, has_one_soa}
use Rattle.zone_model.proofs.Folded.{IsFolded, key_from_tie, fold-fold}
use Rattle.zone_model.proofs.Steps.{Good, set_of, items_of}

-- what a published version keeps at an entry
pub record Kept (v : Version) (e : Key × RecordSet) : Type 0 where
  pub zone : under e.0.0 v.apex ≡ true
  pub folded : IsFolded e.0
  pub holds_some : 1 ≤ length e.1.items
  pub differ : all_differ e.1.items ≡ true
  pub alias : (below_apex v e.0.0 && (e.0.1 == type_cname)) ≡ true → length e.1.items ≡ 1
  pub signed : (below_apex v e.0.0 && (e.0.1 == type_ds)) ≡ true → is_some (set_at v e.0.0 type_ns) ≡ true

implied : (a b : Bool) → (not a || b) ≡ true → a ≡ true → b ≡ true
implied true b h e = h
implied false b h e = absurd (true≢false (sym e))

kept_entry : (v : Version) (e : Key × RecordSet) → is_kept v e ≡ true → Kept v e
kept_entry v e h =
    let signed : Bool = not (below_apex v e.0.0 && (e.0.1 == type_ds)) || is_some (set_at v e.0.0 type_ns) in
    let alias : Bool = not (below_apex v e.0.0 && (e.0.1 == type_cname)) || (length e.1.items == 1) in
    let five = first_so _ signed h in
    let four = first_so _ alias five in
    let three = first_so _ (all_differ e.1.items) four in
    let two = first_so _ (nat_le 1 (length e.1.items)) three in
    record {
      zone = first_so (in_zone v e.0.0) _ two;
      folded = sym ((pointwise_decides bytes_decides e.0.0 (fold e.0.0)).0 (second_so (in_zone v e.0.0) _ two));
      holds_some = leb-true 1 (length e.1.items) (second_so _ (nat_le 1 (length e.1.items)) three);
      differ = second_so _ (all_differ e.1.items) four;
      alias = λ b. eqb-true (length e.1.items) 1 (implied _ (length e.1.items == 1) (second_so _ alias five) b);
      signed = implied _ (is_some (set_at v e.0.0 type_ns)) (second_so _ signed h);
    }

kept_all : (v : Version) (es : Sets) → list_all (is_kept v) es ≡ true → AllByRecursion (Kept v) es
kept_all v [] h = tt
kept_all v (e ∷ es) h = (kept_entry v e (first_so (is_kept v e) _ h), kept_all v es (second_so (is_kept v e) _ h))

pub kept : (v : Version) → IsValid v → AllByRecursion (Kept v) v.sets
kept v h = kept_all v v.sets h.kept

pub all_keys : (P : Key × RecordSet → Type 0) (Q : Key → Type 0) (es : Sets) → ((e : Key × RecordSet) → P e → Q e.0) → AllByRecursion P es → AllByRecursion Q (keys_of es)
all_keys P Q [] f h = tt
all_keys P Q (e ∷ es) f h = (f e h.0, all_keys P Q es f h.1)

pub all_entries : (P Q : Key × RecordSet → Type 0) (es : Sets) → ((e : Key × RecordSet) → P e → Q e) → AllByRecursion P es → AllByRecursion Q es
all_entries P Q [] f h = tt
all_entries P Q (e ∷ es) f h = (f e h.0, all_entries P Q es f h.1)

pub valid_good : (v : Version) → IsValid v → Good v.sets
valid_good v h = record { sorted = h.ordered; folded = all_keys (Kept v) IsFolded v.sets (λ e k. k.folded) (kept v h) }

-- the entry that a look-up finds
pub record Found (P : Key × RecordSet → Type 0) (q : Key) (s : RecordSet) : Type 0 where
  pub key : Key
  pub tied : key_cmp q key ≡ Equal
  pub holds_of : P (key, s)

one_value : (s r : RecordSet) → ◌≡◌ {A = Option RecordSet} (Some s) (Some r) → s ≡ r
one_value s r e = ap (λ o. elim o as (λ z. RecordSet) [ Some x ↦ x | None ↦ s ]) e

pub found_entry : (P : Key × RecordSet → Type 0) (es : Sets) (q : Key) (s : RecordSet) → AllByRecursion P es → set_in es q ≡ Some s → Found P q s
found_entry P [] q s h f = absurd (true≢false (sym (ap is_some f)))
found_entry P (e ∷ es) q s h f = by (is_eq (key_cmp q e.0)) refl f (λ k. found_entry P es q s h.1 k)
  where
    by : (b : Bool) → is_eq (key_cmp q e.0) ≡ b → cond b (Some e.1) (set_in es q) ≡ Some s → (set_in es q ≡ Some s → Found P q s) → Found P q s
    by true p k later = record { key = e.0; tied = (Equal-is (key_cmp q e.0)).0 p; holds_of = subst (λ z. P (e.0, z)) (one_value e.1 s k) h.0 }
    by false p k later = later k

-- one SOA record, at the apex
pub record OneSoa (v : Version) : Type 0 where
  pub fields : List Field
  pub ttl : ℕ
  pub stands : set_at v v.apex type_soa ≡ Some (set_of ttl (fields ∷ []))
  pub alone : AllByRecursion (λ (k : Key). (k.1 == type_soa) ≡ true → fold k.0 ≡ fold v.apex) (keys_of v.sets)

abbrev soa_len : Key × RecordSet → ℕ
soa_len e = if e.0.1 == type_soa then length e.1.items else 0

abbrev HoldsSome : Key × RecordSet → Type 0
HoldsSome e = 1 ≤ length e.1.items

no_soa : (Q : Key → Type 0) (es : Sets) → AllByRecursion HoldsSome es → sum_by soa_len es ≡ 0 → AllByRecursion (λ (k : Key). (k.1 == type_soa) ≡ true → Q k) (keys_of es)
no_soa Q [] h z = tt
no_soa Q (e ∷ es) h z =
    let total : soa_len e + sum_by soa_len es ≡ 0 = sym (sum_by-cons soa_len e es) ∙ z in
    let rest : sum_by soa_len es ≡ 0 = omega arith in
    let here : soa_len e ≡ 0 = omega arith in
    ((λ is. let n : length e.1.items ≡ 0 = sym (ap (λ b. if b then length e.1.items else 0) is) ∙ here in let some : 1 ≤ length e.1.items = h.0 in absurd (omega arith)), no_soa Q es h.1 rest)

eq-true : (m n : ℕ) → m ≡ n → (m == n) ≡ true
eq-true m n e = eq-eqb m n e

soa_here : (e : Key × RecordSet) → (e.0.1 == type_soa) ≡ true → soa_len e ≡ length e.1.items
soa_here e is = ap (λ b. if b then length e.1.items else 0) is

one_at_least : (a : Key) (s : RecordSet) (es : Sets) → a.1 ≡ type_soa → set_in es a ≡ Some s → length s.items ≡ 1 → 1 ≤ sum_by soa_len es
one_at_least a s [] t f n = absurd (true≢false (sym (ap is_some f)))
one_at_least a s (e ∷ es) t f n = by (is_eq (key_cmp a e.0)) refl f (λ k. one_at_least a s es t k n)
  where
    by : (b : Bool) → is_eq (key_cmp a e.0) ≡ b → cond b (Some e.1) (set_in es a) ≡ Some s → (set_in es a ≡ Some s → 1 ≤ sum_by soa_len es) → 1 ≤ sum_by soa_len (e ∷ es)
    by true p k later =
        let tie = key_from_tie a e.0 ((Equal-is (key_cmp a e.0)).0 p) in
        let len : soa_len e ≡ 1 = soa_here e (eq-true e.0.1 type_soa (sym tie.1 ∙ t)) ∙ ap (λ (r : RecordSet). length r.items) (one_value e.1 s k) ∙ n in
        let total : sum_by soa_len (e ∷ es) ≡ soa_len e + sum_by soa_len es = sum_by-cons soa_len e es in
        omega arith
    by false p k later =
        let total : sum_by soa_len (e ∷ es) ≡ soa_len e + sum_by soa_len es = sum_by-cons soa_len e es in
        let more : 1 ≤ sum_by soa_len es = later k in
        omega arith

soa_alone : (a : Key) (s : RecordSet) (es : Sets) → a.1 ≡ type_soa → set_in es a ≡ Some s → length s.items ≡ 1 → AllByRecursion HoldsSome es → sum_by soa_len es ≡ 1
    → AllByRecursion (λ (k : Key). (k.1 == type_soa) ≡ true → fold k.0 ≡ fold a.0) (keys_of es)
soa_alone a s [] t f n h z = tt
soa_alone a s (e ∷ es) t f n h z = by (is_eq (key_cmp a e.0)) refl f (λ k y. soa_alone a s es t k n h.1 y)
  where
    total : soa_len e + sum_by soa_len es ≡ 1
    total = sym (sum_by-cons soa_len e es) ∙ z

    by : (b : Bool) → is_eq (key_cmp a e.0) ≡ b → cond b (Some e.1) (set_in es a) ≡ Some s
        → (set_in es a ≡ Some s → sum_by soa_len es ≡ 1 → AllByRecursion (λ (k : Key). (k.1 == type_soa) ≡ true → fold k.0 ≡ fold a.0) (keys_of es))
        → AllByRecursion (λ (k : Key). (k.1 == type_soa) ≡ true → fold k.0 ≡ fold a.0) (keys_of (e ∷ es))
    by true p k later =
        let tie = key_from_tie a e.0 ((Equal-is (key_cmp a e.0)).0 p) in
        let len : soa_len e ≡ 1 = soa_here e (eq-true e.0.1 type_soa (sym tie.1 ∙ t)) ∙ ap (λ (r : RecordSet). length r.items) (one_value e.1 s k) ∙ n in
        let sums : soa_len e + sum_by soa_len es ≡ 1 = total in
        let rest : sum_by soa_len es ≡ 0 = omega arith in
        ((λ is. sym tie.0), no_soa (λ (x : Key). fold x.0 ≡ fold a.0) es h.1 rest)
    by false p k later =
        let sums : soa_len e + sum_by soa_len es ≡ 1 = total in
        let more : 1 ≤ sum_by soa_len es = one_at_least a s es t k n in
        let rest : sum_by soa_len es ≡ 1 = omega arith in
        let none : soa_len e ≡ 0 = omega arith in
        let some : 1 ≤ length e.1.items = h.0 in
        ((λ is. let len : length e.1.items ≡ 0 = sym (soa_here e is) ∙ none in absurd (omega arith)), later k rest)

-- one element
pub one_only : (xs : List (List Field)) → length xs ≡ 1 → (d : List Field) × (xs ≡ d ∷ [])
one_only [] h = absurd (omega arith)
one_only (d ∷ []) h = (d, refl)
one_only (d ∷ x ∷ xs) h = absurd (omega arith)

pub one_soa : (v : Version) → IsValid v → IsTrue (has_one_soa v) → OneSoa v
one_soa v h one = by (set_at v v.apex type_soa) refl (eqb-true _ 1 (first_so _ _ one))
  where
    by : (o : Option RecordSet) → set_at v v.apex type_soa ≡ o → length (items_of o) ≡ 1 → OneSoa v
    by None e n = absurd (omega arith)
    by (Some s) e n =
        let p = one_only s.items n in
        record {
          fields = p.0;
          ttl = s.ttl;
          stands = e ∙ ap (λ l. Some (set_of s.ttl l)) p.1;
          alone = subst (λ n. AllByRecursion (λ (k : Key). (k.1 == type_soa) ≡ true → fold k.0 ≡ n) (keys_of v.sets)) (fold-fold v.apex) (soa_alone (fold v.apex, type_soa) s v.sets refl e n (all_entries (Kept v) HoldsSome v.sets (λ x k. k.holds_some) (kept v h)) (eqb-true _ 1 (second_so _ _ one)));
        }
