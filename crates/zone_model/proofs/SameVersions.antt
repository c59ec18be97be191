-- Data up to equality, and versions that are the same up to it.
use Rattle.std.proofs.Common.{◌≡◌, Bool, true, false, cond, ◌&&◌, ◌||◌, ◌==◌, not, List, [], ◌∷◌, filter, refl, sym, ap, ◌∙◌, subst, true≢false, Equal, Option, Some, None, is_some, eqb-true, eq-eqb, bytes_eq}
use Rattle.std.specs.List.{AllByRecursion, list_all, list_any}
use Rattle.std.specs.Cmp.{IsEquivalence, both_ways, first_so, second_so, equiv, and_equiv, on_equiv, nat_eq_equiv}
use Rattle.std.specs.Cmp.Derive.{both_true}
use Rattle.std.specs.Cmp.Lexicographic.{pointwise, pointwise_decides, bytes_decides, lists_equiv, nat_list_eq_equiv}
use Rattle.std.specs.List.Sorted.{IsStrictlySortedBy}
use Rattle.std.specs.Map.{keys_of}
use Rattle.dns_name.specs.Names.{Name, fold}
use Rattle.dns_name.specs.Records.{Field, same_data}
use Rattle.dns_numbers.specs.Codes.{type_ds, type_ns}
use Rattle.zone_model.specs.Version.{RecordSet, Key, Sets, Version, IsValid, Same, key_cmp, set_in, set_at, below_apex, same_items, same_entry, same_version}
use Rattle.zone_model.specs.Edits.{with_sets, is_stray, close}
use Rattle.dns_name.specs.SameData.{same_data_equiv}
use Rattle.zone_model.proofs.Folded.{IsFolded, key_total, same_key, key_from_tie}
use Rattle.zone_model.proofs.Ordered.{Alike, AllAlike, all_alike, all_found}
use Rattle.zone_model.proofs.Steps.{Good, minus}
use Rattle.zone_model.proofs.Valid.{Kept, kept, valid_good}
use Rattle.zone_model.proofs.Alike.{all_within, tie_from, same_items-itself}
use Rattle.zone_model.proofs.WholeText.{below_near}

-- ---- data in a list, up to equality

abbrev pub any : List Field → List (List Field) → Bool
any d xs = list_any (same_data d) xs

-- two lists with the same data
abbrev pub EqAny : List (List Field) → List (List Field) → Type 0
EqAny xs ys = (d : List Field) → any d xs ≡ any d ys

pub any_alike : (d x : List Field) → same_data d x ≡ true → (ys : List (List Field)) → any d ys ≡ any x ys
any_alike d x e [] = refl
any_alike d x e (y ∷ ys) = λ i. same_data_equiv.congr d x y e i || any_alike d x e ys i

within : (xs ys : List (List Field)) → list_all (λ x. any x ys) xs ≡ true → (d : List Field) → any d xs ≡ true → any d ys ≡ true
within [] ys h d e = absurd (true≢false (sym e))
within (x ∷ xs) ys h d e = by (same_data d x) refl e (λ k. within xs ys (second_so (any x ys) _ h) d k)
  where
    by : (b : Bool) → same_data d x ≡ b → (b || any d xs) ≡ true → (any d xs ≡ true → any d ys ≡ true) → any d ys ≡ true
    by true p k later = any_alike d x p ys ∙ first_so (any x ys) _ h
    by false p k later = later k

pub eq_any : (xs ys : List (List Field)) → same_items xs ys ≡ true → EqAny xs ys
eq_any xs ys h d = both_ways (any d xs) (any d ys) (within xs ys (first_so (list_all (λ x. any x ys) xs) _ h) d) (within ys xs (second_so (list_all (λ x. any x ys) xs) _ h) d)

pub all_in : (xs ys : List (List Field)) → EqAny xs ys → list_all (λ x. any x ys) xs ≡ true
all_in xs ys e = all_within xs ys (λ x h. sym (e x) ∙ h)

pub same_from_any : (xs ys : List (List Field)) → EqAny xs ys → same_items xs ys ≡ true
same_from_any xs ys e = both_true (all_in xs ys e) (all_in ys xs (λ d. sym (e d)))

-- a test that equal data pass or fail together
abbrev pub Respects : (List Field → Bool) → Type 0
Respects p = (x y : List Field) → same_data x y ≡ true → p x ≡ p y

and_false : (a : Bool) → (a && false) ≡ false
and_false true = refl
and_false false = refl

and_true : (a : Bool) → a ≡ (a && true)
and_true true = refl
and_true false = refl

pub any-filter : (p : List Field → Bool) → Respects p → (d : List Field) (xs : List (List Field)) → any d (filter p xs) ≡ (any d xs && p d)
any-filter p r d [] = refl
any-filter p r d (x ∷ xs) = by (p x) (same_data d x) refl refl (any-filter p r d xs)
  where
    by : (a b : Bool) → p x ≡ a → same_data d x ≡ b → any d (filter p xs) ≡ (any d xs && p d) → any d (cond a (x ∷ filter p xs) (filter p xs)) ≡ ((b || any d xs) && p d)
    by true true e f h = ap (λ c. c || any d (filter p xs)) f ∙ sym (r d x f ∙ e)
    by true false e f h = ap (λ c. c || any d (filter p xs)) f ∙ h
    by false true e f h = h ∙ ap (λ c. any d xs && c) (r d x f ∙ e) ∙ and_false (any d xs) ∙ sym (r d x f ∙ e)
    by false false e f h = h

three : (a b c : Bool) → ((a && not b) && not c) ≡ (a && not (b || c))
three true true c = refl
three true false c = refl
three false b c = refl

pub unlike : (d : List Field) → Respects (λ x. not (same_data d x))
unlike d x y e = ap not (same_data_equiv.symm d x ∙ same_data_equiv.congr x y d e ∙ same_data_equiv.symm y d)

pub any-minus : (d : List Field) (ds xs : List (List Field)) → any d (minus xs ds) ≡ (any d xs && not (any d ds))
any-minus d [] xs = and_true (any d xs)
any-minus d (y ∷ ds) xs =
    any-minus d ds (filter (λ x. not (same_data y x)) xs) ∙ ap (λ b. b && not (any d ds)) (any-filter (λ x. not (same_data y x)) (unlike y) d xs ∙ ap (λ b. any d xs && not b) (same_data_equiv.symm y d))
    ∙ three (any d xs) (same_data d y) (any d ds)

pub any_here : (x : List Field) (xs : List (List Field)) → any x (x ∷ xs) ≡ true
any_here x xs = ap (λ b. b || any x xs) (same_data_equiv.refl x)

pub none_any : (xs : List (List Field)) → ((d : List Field) → any d xs ≡ false) → xs ≡ []
none_any [] h = refl
none_any (x ∷ xs) h = absurd (true≢false (sym (any_here x xs) ∙ h x))

-- ---- sets and versions up to equal data

pub record SameSet (x y : RecordSet) : Type 0 where
  pub ttl : x.ttl ≡ y.ttl
  pub items : EqAny x.items y.items

-- a version with the sets of another, up to equal data, in a zone of the same apex
pub record Like (x w : Version) : Type 0 where
  pub near : fold x.apex ≡ fold w.apex
  pub good : Good x.sets
  pub same : (q : Key) → Alike key_total SameSet (set_in x.sets q) (set_in w.sets q)

record KeysAlike (es fs : Sets) : Type 0 where
  keys : keys_of es ≡ keys_of fs
  all : AllAlike key_total SameSet es fs

same_entries : (es fs : Sets) → pointwise same_entry es fs ≡ true → KeysAlike es fs
same_entries [] [] h = record { keys = refl; all = tt }
same_entries [] (y ∷ fs) h = absurd (true≢false (sym h))
same_entries (x ∷ es) [] h = absurd (true≢false (sym h))
same_entries (x ∷ es) (y ∷ fs) h =
    let here = first_so (same_entry x y) _ h in
    let three = first_so _ (same_items x.1.items y.1.items) here in
    let two = first_so _ (x.1.ttl == y.1.ttl) three in
    let owner : x.0.0 ≡ y.0.0 = (pointwise_decides bytes_decides x.0.0 y.0.0).0 (first_so _ (x.0.1 == y.0.1) two) in
    let rtype : x.0.1 ≡ y.0.1 = eqb-true x.0.1 y.0.1 (second_so (pointwise bytes_eq x.0.0 y.0.0) (x.0.1 == y.0.1) two) in
    let rest = same_entries es fs (second_so (same_entry x y) _ h) in
    record {
      keys = λ i. (owner i, rtype i) ∷ rest.keys i;
      all = (tie_from x.0 y.0 (ap fold owner) rtype, record { ttl = eqb-true x.1.ttl y.1.ttl (second_so _ (x.1.ttl == y.1.ttl) three); items = eq_any x.1.items y.1.items (second_so _ (same_items x.1.items y.1.items) here) }, rest.all);
    }

pub like_from_same : (x w : Version) → IsValid w → fold x.apex ≡ fold w.apex → Same x w → Like x w
like_from_same x w h near same =
    let k = same_entries x.sets w.sets same in
    let g = valid_good w h in
    record {
      near = near;
      good = record { sorted = subst (λ l. IsStrictlySortedBy key_cmp l) (sym k.keys) g.sorted; folded = subst (λ l. AllByRecursion IsFolded l) (sym k.keys) g.folded };
      same = all_found key_total SameSet x.sets w.sets k.all;
    }

entries_same : (es fs : Sets) → AllByRecursion IsFolded (keys_of es) → AllByRecursion IsFolded (keys_of fs) → AllAlike key_total SameSet es fs → pointwise same_entry es fs ≡ true
entries_same [] [] f g a = refl
entries_same [] (y ∷ fs) f g a = absurd a
entries_same (x ∷ es) [] f g a = absurd a
entries_same (x ∷ es) (y ∷ fs) f g a =
    let k : x.0 ≡ y.0 = same_key x.0 y.0 f.0 g.0 a.0 in
    both_true (both_true (both_true (both_true ((pointwise_decides bytes_decides x.0.0 y.0.0).1 (ap (λ (u : Key). u.0) k)) (eq-eqb x.0.1 y.0.1 (ap (λ (u : Key). u.1) k))) (eq-eqb x.1.ttl y.1.ttl a.1.ttl)) (same_from_any x.1.items y.1.items a.1.items))
    (entries_same es fs f.1 g.1 a.2)

pub same_from_like : (x w : Version) → IsValid w → Like x w → Same x w
same_from_like x w h l =
    let g = valid_good w h in entries_same x.sets w.sets l.good.folded g.folded (all_alike key_total SameSet x.sets w.sets l.good.sorted g.sorted l.same)

-- closing a version that is the same as a valid one changes nothing
some_alike : (o p : Option RecordSet) → Alike key_total SameSet o p → is_some p ≡ true → is_some o ≡ true
some_alike None None a h = h
some_alike None (Some y) a h = absurd a
some_alike (Some x) None a h = absurd a
some_alike (Some x) (Some y) a h = refl

same_not_stray : (x w : Version) (e f : Key × RecordSet) → Like x w → key_cmp e.0 f.0 ≡ Equal → Kept w f → is_stray x e ≡ false
same_not_stray x w e f l tied k = by (below_apex x e.0.0 && (e.0.1 == type_ds)) refl
  where
    by : (b : Bool) → (below_apex x e.0.0 && (e.0.1 == type_ds)) ≡ b → (b && not (is_some (set_at x e.0.0 type_ns))) ≡ false
    by true p =
        let t = key_from_tie e.0 f.0 tied in
        let signed : is_some (set_at w f.0.0 type_ns) ≡ true = k.signed (sym (λ i. below_near x w e.0.0 f.0.0 l.near t.0 i && (t.1 i == type_ds)) ∙ p) in
        ap not (some_alike (set_at x e.0.0 type_ns) (set_at w e.0.0 type_ns) (l.same (fold e.0.0, type_ns)) (ap (λ (n : Name). is_some (set_in w.sets (n, type_ns))) t.0 ∙ signed))
    by false p = refl

none_same_stray : (x w : Version) (es fs : Sets) → Like x w → AllAlike key_total SameSet es fs → AllByRecursion (Kept w) fs → filter (λ e. not (is_stray x e)) es ≡ es
none_same_stray x w [] [] l a k = refl
none_same_stray x w [] (f ∷ fs) l a k = absurd a
none_same_stray x w (e ∷ es) [] l a k = absurd a
none_same_stray x w (e ∷ es) (f ∷ fs) l a k =
    ap (λ b. cond (not b) (e ∷ filter (λ z. not (is_stray x z)) es) (filter (λ z. not (is_stray x z)) es)) (same_not_stray x w e f l a.0 k.0) ∙ ap (λ r. e ∷ r) (none_same_stray x w es fs l a.2 k.1)

pub close_like : (x w : Version) → IsValid w → Like x w → close x ≡ x
close_like x w h l = ap (with_sets x) (none_same_stray x w x.sets w.sets l (all_alike key_total SameSet x.sets w.sets l.good.sorted (valid_good w h).sorted l.same) (kept w h))

-- ---- being the same is an equivalence

same_items_equiv : IsEquivalence same_items
same_items_equiv =
    equiv
    (record {
      symm = λ xs ys. both_ways (same_items xs ys) (same_items ys xs) (λ h. same_from_any ys xs (λ d. sym (eq_any xs ys h d))) (λ h. same_from_any xs ys (λ d. sym (eq_any ys xs h d)));
      trans = λ xs ys zs h k. same_from_any xs zs (λ d. eq_any xs ys h d ∙ eq_any ys zs k d);
    })
    same_items-itself

same_entry_equiv : IsEquivalence same_entry
same_entry_equiv =
    and_equiv (and_equiv (and_equiv (on_equiv (λ (e : Key × RecordSet). e.0.0) (lists_equiv nat_list_eq_equiv)) (on_equiv (λ (e : Key × RecordSet). e.0.1) nat_eq_equiv)) (on_equiv (λ (e : Key × RecordSet). e.1.ttl) nat_eq_equiv))
    (on_equiv (λ (e : Key × RecordSet). e.1.items) same_items_equiv)

pub same_version_equiv : IsEquivalence same_version
same_version_equiv = on_equiv (λ (v : Version). v.sets) (lists_equiv same_entry_equiv)
