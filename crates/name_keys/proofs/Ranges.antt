-- The keys at or below a name are a range.
use Rattle.std.proofs.Common.{◌≡◌, ◌≤◌, ◌↔◌, ℕ, zero, suc, ◌-◌, ◌<◌, false, List, [], ◌∷◌, ◌++◌, length, length-append, take, refl, sym, ap, subst, ◌∙◌, arith, nat_cmp, Less, Equal}
use Rattle.std.specs.Prelude.{flat_map, IsTrue}
use Rattle.std.specs.Ordering.{ordering_then, is_gt}
use Rattle.std.specs.declared.cmp.Ordering.{Ordering}
use Rattle.std.specs.Str.{str_to_ascii_lowercase}
use Rattle.std.proofs.lemmas.Cmp.{ranked, by_ranked}
use Rattle.std.proofs.lemmas.List.{take_at, append_assoc}
use Rattle.dns_name.specs.Names.{Name, under}
use Rattle.name_keys.specs.NameKeys.{IsInKeyRange, octet_key, name_key, key_end}
use Rattle.name_keys.proofs.Octets.{last_label}
use Rattle.name_keys.proofs.KeyOrder.{cmp, greater_first, same_first}
use Rattle.name_keys.proofs.Nesting.{Begins, under_by_keys}

-- a string isn't before p and a 0, and is before p and a 1
abbrev Between : List ℕ → List ℕ → Type 0
Between p s = (is_gt (cmp (p ++ 0 ∷ []) s) ≡ false) × (cmp s (p ++ 1 ∷ []) ≡ Less)

no_end : (o : Ordering) → ordering_then Equal o ≡ Less → o ≡ Less
no_end o h = h

-- nothing is before a string without octets
none_before : (s : List ℕ) → cmp s [] ≡ Less → ⊥
none_before [] h = cc h
none_before (c ∷ s) h = cc h

begins_so : (p s : List ℕ) → Between p s → Begins s (p ++ 0 ∷ [])
begins_so [] [] b = absurd (cc b.0)
begins_so [] (zero ∷ s) b = (s, refl)
begins_so [] (suc zero ∷ s) b = absurd (none_before s b.1)
begins_so [] (suc (suc c) ∷ s) b = absurd (let e = greater_first (suc (suc c)) 1 s [] (omega arith) in cc (e, b.1))
begins_so (a ∷ p) [] b = absurd (cc b.0)
begins_so (a ∷ p) (c ∷ s) b =
    by_ranked (a < c) (a ≡ c) (c < a) (nat_cmp a c) (ranked a c (nat_cmp a c) refl)
    (λ o h. absurd (let e = greater_first c a s (p ++ 1 ∷ []) h in cc (e, b.1)))
    (λ o h.
    let r = begins_so p s (
      ap is_gt (sym (same_first a (p ++ 0 ∷ []) s) ∙ ap (λ x. cmp (a ∷ p ++ 0 ∷ []) (x ∷ s)) h) ∙ b.0,
      sym (same_first a s (p ++ 1 ∷ [])) ∙ ap (λ x. cmp (x ∷ s) (a ∷ p ++ 1 ∷ [])) h ∙ b.1,
    ) in
    (r.0, λ i. sym h i ∷ r.1 i))
    (λ o h. absurd (let e = greater_first a c (p ++ 0 ∷ []) s h in cc (e, b.0)))

between_so : (p s : List ℕ) → Begins s (p ++ 0 ∷ []) → Between p s
between_so p s (rest, e) = subst (Between p) (sym e) (at_rest p rest)
  where
    at_rest : (p rest : List ℕ) → Between p ((p ++ 0 ∷ []) ++ rest)
    at_rest [] [] = (refl, refl)
    at_rest [] (c ∷ rest) = (refl, refl)
    at_rest (a ∷ p) rest =
        let r = at_rest p rest in
        (ap is_gt (same_first a (p ++ 0 ∷ []) ((p ++ 0 ∷ []) ++ rest)) ∙ r.0, same_first a ((p ++ 0 ∷ []) ++ rest) (p ++ 1 ∷ []) ∙ r.1)

-- a key that isn't the root's ends with a 0
pub ends : (label : List ℕ) (m : Name) → (p : List ℕ) × (name_key (label ∷ m) ≡ p ++ 0 ∷ [])
ends label m =
    let octets = flat_map octet_key (str_to_ascii_lowercase label) in
    (name_key m ++ octets, last_label label m ∙ sym (append_assoc (name_key m) octets (0 ∷ [])))

-- so it has an octet
pub some_octet : (n : Name) → (n ≡ [] → ⊥) → 1 ≤ length (name_key n)
some_octet [] h = absurd (h refl)
some_octet (label ∷ m) h =
    let (p, e) = ends label m in
    let long = ap length e in
    let both = length-append p (0 ∷ []) in
    omega (arith, long, both)

end_is : (key p : List ℕ) → key ≡ p ++ 0 ∷ [] → key_end key ≡ p ++ 1 ∷ []
end_is key p e =
    let long = ap length e in
    let both = length-append p (0 ∷ []) in
    ap (λ k. take (length key - 1) k ++ 1 ∷ []) e ∙ ap (λ k. k ++ 1 ∷ []) (take_at p (0 ∷ []) (length key - 1) (omega (arith, long, both)))

pub begins_in_range : (s label : List ℕ) (m : Name) → Begins s (name_key (label ∷ m)) ↔ IsInKeyRange (name_key (label ∷ m)) s
begins_in_range s label m =
    let (p, e) = ends label m in
    let f = end_is (name_key (label ∷ m)) p e in (
      λ b. let t = between_so p s (b.0, b.1 ∙ ap (λ k. k ++ b.0) e) in
          (ap (λ k. is_gt (cmp k s)) e ∙ t.0, ap (cmp s) f ∙ t.1),
      λ t. let r = begins_so p s (ap (λ k. is_gt (cmp k s)) (sym e) ∙ t.0, ap (cmp s) (sym f) ∙ t.1) in
          (r.0, r.1 ∙ ap (λ k. k ++ r.0) (sym e)),
    )

pub under_in_range : (n : Name) (label : List ℕ) (m : Name) → IsTrue (under n (label ∷ m)) ↔ IsInKeyRange (name_key (label ∷ m)) (name_key n)
under_in_range n label m =
    let u = under_by_keys n (label ∷ m) in
    let b = begins_in_range (name_key n) label m in
    (λ t. b.0 (u.0 t), λ t. u.1 (b.1 t))
