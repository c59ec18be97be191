-- Data of one type.
use Rattle.std.proofs.Common.{◌≡◌, ℕ, zero, suc, ◌+◌, ◌<◌, ◌==◌, Bool, true, false, ◌&&◌, List, [], ◌∷◌, length, map, get_or, not, refl, sym, ap, ◌∙◌, arith, All}
use Rattle.std.specs.Cmp.Lexicographic.{pointwise}
use Rattle.std.proofs.lemmas.Bool.Decides.{nat_tests}
use Rattle.dns_name.specs.Names.{Name}
use Rattle.dns_rdata.specs.Records.{same_data}
use Rattle.dns_rdata.specs.ZoneData.{rtype_of, data_fields, same_zone_data}
use Rattle.zone_values.specs.TypedSets.{set_of, same_typed_set}
use Rattle.dns_rdata.specs.declared.zone_data.ZoneRecordData.{ZoneRecordData}

same_number : (a b r : ℕ) → a ≡ r → b ≡ r → (a == b) ≡ true
same_number a b r p q = grind (arith, nat_tests)

-- data of one type are equal where their fields are
pub same_fields : {O : Type 0} (r : ℕ) (xs ys : List (ZoneRecordData O Name)) → All (λ d. rtype_of d ≡ r) xs → All (λ d. rtype_of d ≡ r) ys → pointwise (same_zone_data (λ n. n) (λ n. n)) xs ys ≡ pointwise same_data (map data_fields xs) (map data_fields ys)
same_fields r [] [] p q = refl
same_fields r [] (y ∷ ys) p q = refl
same_fields r (x ∷ xs) [] p q = refl
same_fields {O} r (x ∷ xs) (y ∷ ys) p q =
    let kind : rtype_of x == rtype_of y ≡ true = same_number (rtype_of x) (rtype_of y) r (p 0 x (omega arith)) (q 0 y (omega arith)) in
    ap (λ b. (b && same_data (data_fields x) (data_fields y)) && pointwise (same_zone_data (λ n. n) (λ n. n)) xs ys) kind
    ∙ ap (λ b. same_data (data_fields x) (data_fields y) && b) (same_fields r xs ys (λ k d below. p (suc k) d (omega arith)) (λ k d below. q (suc k) d (omega arith)))

not_false : (b : Bool) → false ≡ not b → true ≡ b
not_false true h = refl
not_false false h = cc

equal_numbers : (a b : ℕ) → true ≡ (a == b) → a ≡ b
equal_numbers a b h = grind (arith, nat_tests)

-- sets of one type and TTL are equal where their data are
pub same_by_data : {O : Type 0} (r s t u : ℕ) (xs ys : List (ZoneRecordData O Name)) (b : Bool) → false ≡ not (r == s) → false ≡ not (t == u) → All (λ d. rtype_of d ≡ r) xs → All (λ d. rtype_of d ≡ s) ys
    → b ≡ pointwise (same_zone_data (λ n. n) (λ n. n)) xs ys → b ≡ same_typed_set (set_of r t (map data_fields xs)) (set_of s u (map data_fields ys))
same_by_data {O} r s t u xs ys b rtypes ttls p q e =
    let types : true ≡ (r == s) = not_false (r == s) rtypes in
    let one : r ≡ s = equal_numbers r s types in
    let all : All (λ (d : ZoneRecordData O Name). rtype_of d ≡ r) ys = λ k d below. q k d below ∙ sym one in
    let fields : Bool = pointwise same_data (map data_fields xs) (map data_fields ys) in
    e ∙ same_fields r xs ys p all ∙ ap (λ c. (c && true) && fields) types ∙ ap (λ c. ((r == s) && c) && fields) (not_false (t == u) ttls)
