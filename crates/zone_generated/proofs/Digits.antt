-- What takes the decimal digits of a number, by computation.
use Rattle.std.proofs.Common.{◌≡◌, ℕ, List, [], ◌∷◌, length, refl}
use Rattle.std.specs.Prelude.{codes, replicate}
use Rattle.std.specs.Fmt.{digits}
use Rattle.dns_name.specs.Records.{Octets, DomainName}
use Rattle.zone_generated.specs.Generated.{host_label, generated}

pub label_of_one : host_label 1 1442695040888963407 ≡ codes "h0"
unfolding digits
label_of_one = refl

pub first_of_two : host_label 2 1442695040888963407 ≡ codes "h1"
unfolding digits
first_of_two = refl

pub second_of_two : host_label 2 1876011003808476466 ≡ codes "h0"
unfolding digits
second_of_two = refl

pub sets_of_two : length (generated 2 0).sets ≡ 4
unfolding digits
sets_of_two = refl

pub zone_of_one : generated 1 0 ≡ record {
  apex = codes "example" ∷ [];
  class = 1;
  sets =
      ((codes "example" ∷ [], 2), record { ttl = 3600; items = (DomainName (codes "ns" ∷ codes "example" ∷ []) ∷ []) ∷ [] })
      ∷ ((codes "example" ∷ [], 6), record { ttl = 3600; items = (DomainName [] ∷ DomainName [] ∷ Octets (0 ∷ 0 ∷ 0 ∷ 1 ∷ replicate 16 0) ∷ []) ∷ [] })
      ∷ ((codes "h0" ∷ codes "example" ∷ [], 1), record { ttl = 3600; items = (Octets (20 ∷ 5 ∷ 123 ∷ 126 ∷ []) ∷ []) ∷ [] })
      ∷ [];
}
unfolding digits
zone_of_one = refl
