-- The key of a parent is a beginning of the key.
use Rattle.std.proofs.Common.{◌≡◌, ℕ, zero, suc, ◌+◌, ◌-◌, ◌<◌, ◌≤◌, List, [], ◌∷◌, ◌++◌, length, length-append, get_or, take, drop, refl, sym, ap, subst, ◌∙◌, arith, nat_cmp}
use Rattle.std.specs.Prelude.{flat_map, IsTrue}
use Rattle.std.specs.Str.{str_to_ascii_lowercase}
use Rattle.std.proofs.lemmas.Cmp.{ranked, by_ranked}
use Rattle.std.proofs.lemmas.List.{get_or_append_left, get_or-append_right, get_or_at, take_at}
use Rattle.dns_name.specs.Names.{Name, fold, is_name}
use Rattle.dns_name.proofs.WireForms.{rest_is_name}
use Rattle.name_keys.specs.NameKeys.{octet_key, name_key}
use Rattle.name_keys.proofs.Octets.{plain_octet, last_label}
use Rattle.name_keys.proofs.Ranges.{ends}

-- an octet that isn't 0 before octets that aren't
more_plain : (c : ℕ) (xs : List ℕ) → ((k : ℕ) → k < length xs → get_or xs k 0 ≡ 0 → ⊥)
    → (k : ℕ) → k < length (suc c ∷ xs) → get_or (suc c ∷ xs) k 0 ≡ 0 → ⊥
more_plain c xs h zero l z = cc z
more_plain c xs h (suc k) l z = h k (omega (arith, l)) z

-- no octet of a label is written with a 0
no_zero : (label : List ℕ) (k : ℕ) → k < length (flat_map octet_key label) → get_or (flat_map octet_key label) k 0 ≡ 0 → ⊥
no_zero [] k l z = absurd (omega (arith, l))
no_zero (zero ∷ label) k l z = more_plain 0 (1 ∷ flat_map octet_key label) (more_plain 0 (flat_map octet_key label) (no_zero label)) k l z
no_zero (suc zero ∷ label) k l z = more_plain 0 (2 ∷ flat_map octet_key label) (more_plain 1 (flat_map octet_key label) (no_zero label)) k l z
no_zero (suc (suc c) ∷ label) k l z =
    let e = ap (λ o. o ++ flat_map octet_key label) (plain_octet (suc (suc c)) (omega arith)) in
    more_plain (suc c) (flat_map octet_key label) (no_zero label) k (subst (λ o. k < length o) e l) (ap (λ o. get_or o k 0) (sym e) ∙ z)

-- a key ends with a 0
last_zero : (m : Name) (k : ℕ) → k + 1 ≡ length (name_key m) → get_or (name_key m) k 0 ≡ 0
last_zero [] k e = absurd (omega (arith, e))
last_zero (label ∷ m) k e =
    let (p, f) = ends label m in
    let long = ap length f in
    let both = length-append p (0 ∷ []) in
    ap (λ o. get_or o k 0) f ∙ get_or_at p 0 [] 0 k (omega (arith, e, long, both))

-- what was found of where the last label begins
pub record Found (octets : List ℕ) (start : ℕ) : Type 0 where
  pub within : start < length octets
  pub after : 0 < start → get_or octets (start - 1) 0 ≡ 0
  pub plain : (k : ℕ) → start ≤ k → k + 1 < length octets → get_or octets k 0 ≡ 0 → ⊥

start_is : (before label octets : List ℕ) (s : ℕ) → octets ≡ before ++ (label ++ 0 ∷ []) → Found octets s
    → ((k : ℕ) → k + 1 ≡ length before → get_or before k 0 ≡ 0) → ((k : ℕ) → k < length label → get_or label k 0 ≡ 0 → ⊥)
    → s ≡ length before
start_is before label octets s e found last none =
    let b = length before in
    let long = ap length e in
    let all = length-append before (label ++ 0 ∷ []) in
    let both = length-append label (0 ∷ []) in
    let within = found.within in
    by_ranked (s < b) (s ≡ b) (b < s) (nat_cmp s b) (ranked s b (nat_cmp s b) refl)
    (λ o h. absurd (found.plain (b - 1) (omega (arith, h)) (omega (arith, h, long, all, both))
    (ap (λ t. get_or t (b - 1) 0) e ∙ get_or_append_left before (label ++ 0 ∷ []) 0 (b - 1) (omega (arith, h)) ∙ last (b - 1) (omega (arith, h)))))
    (λ o h. h)
    (λ o h.
    let k = (s - 1) - b in
    let inside : k < length label = omega (arith, h, within, long, all, both) in
    absurd (none k inside
    (sym (get_or_append_left label (0 ∷ []) 0 k inside)
    ∙ sym (get_or-append_right before (label ++ 0 ∷ []) b (s - 1) 0 refl (omega (arith, h)))
    ∙ ap (λ t. get_or t (s - 1) 0) (sym e) ∙ found.after (omega (arith, h)))))

-- the name above, and the octets of its key
pub record Parent (octets : List ℕ) (n : Name) (start : ℕ) : Type 0 where
  pub label : List ℕ
  pub rest : Name
  pub labels : n ≡ label ∷ rest
  pub key : take start octets ≡ name_key rest
  pub name : IsTrue (is_name rest)
  pub folded : fold rest ≡ rest

pub parent_of : (octets : List ℕ) (n : Name) (start : ℕ) → name_key n ≡ octets → IsTrue (is_name n) → fold n ≡ n → Found octets start
    → Parent octets n start
parent_of octets [] start e h f found =
    let within = found.within in
    let long = ap length e in
    absurd (omega (arith, within, long))
parent_of octets (l ∷ m) start e h f found =
    let label = flat_map octet_key (str_to_ascii_lowercase l) in
    let parts : octets ≡ name_key m ++ (label ++ 0 ∷ []) = sym e ∙ last_label l m in
    let here = start_is (name_key m) label octets start parts found (last_zero m) (no_zero (str_to_ascii_lowercase l)) in
    record {
      label = l;
      rest = m;
      labels = refl;
      key = ap (take start) parts ∙ take_at (name_key m) (label ++ 0 ∷ []) start (sym here);
      name = rest_is_name l m h;
      folded = ap (drop 1) f;
    }
