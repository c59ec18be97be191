-- Equal data have equal fields, names in lower case.
use Rattle.std.proofs.Common.{◌≡◌, ◌↔◌, ℕ, List, [], ◌∷◌, map, refl, ap}
use Rattle.std.specs.Prelude.{IsTrue}
use Rattle.std.specs.Cmp.Lexicographic.{bytes_decides}
use Rattle.std.proofs.lemmas.Bool.{and_parts}
use Rattle.dns_name.specs.Names.{Name, fold}
use Rattle.dns_name.proofs.FoldedLabels.{equal_names}
use Rattle.dns_name.specs.Records.{Field, fold_field, same_field, same_data}
use Rattle.dns_name.specs.Records.Field.{Octets, DomainName}

same_octets : (a b : List ℕ) → Octets a ≡ Octets b → a ≡ b
same_octets a b e = cc e

same_names : (m n : Name) → DomainName m ≡ DomainName n → m ≡ n
same_names m n e = cc e

equal_fields : (f g : Field) → IsTrue (same_field f g) ↔ (fold_field f ≡ fold_field g)
equal_fields (Octets a) (Octets b) =
    let test = bytes_decides a b in
    (λ t. ap Octets (test.0 t), λ e. test.1 (same_octets a b e))
equal_fields (Octets a) (DomainName n) = (λ t. absurd (cc t), λ e. absurd (cc e))
equal_fields (DomainName m) (Octets b) = (λ t. absurd (cc t), λ e. absurd (cc e))
equal_fields (DomainName m) (DomainName n) =
    let test = equal_names m n in
    (λ t. ap DomainName (test.0 t), λ e. test.1 (same_names (fold m) (fold n) e))

heads : {A : Type 0} (x y : A) (xs ys : List A) → x ∷ xs ≡ y ∷ ys → (x ≡ y) × (xs ≡ ys)
heads x y xs ys e = (cc e, cc e)

pub equal_data : (a b : List Field) → IsTrue (same_data a b) ↔ (map fold_field a ≡ map fold_field b)
equal_data [] [] = (λ t. refl, λ e. refl)
equal_data [] (g ∷ b) = (λ t. absurd (cc t), λ e. absurd (cc e))
equal_data (f ∷ a) [] = (λ t. absurd (cc t), λ e. absurd (cc e))
equal_data (f ∷ a) (g ∷ b) =
    let first = equal_fields f g in
    let rest = equal_data a b in (
      λ t. let parts = and_parts (same_field f g) (same_data a b) t in λ i. first.0 parts.0 i ∷ rest.0 parts.1 i,
      λ e. let parts = heads (fold_field f) (fold_field g) (map fold_field a) (map fold_field b) e in rw (first.1 parts.0, rest.1 parts.1) refl,
    )
