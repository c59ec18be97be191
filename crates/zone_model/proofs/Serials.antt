-- Equal SOA data have equal serials.
use Rattle.std.proofs.Common.{◌≡◌, Bool, true, false, ◌==◌, List, [], ◌∷◌, map, refl, sym, ap, ◌∙◌, true≢false, eq-eqb}
use Rattle.std.specs.Cmp.{first_so, second_so}
use Rattle.std.specs.Cmp.Lexicographic.{bytes_decides}
use Rattle.dns_name.specs.Names.{fold}
use Rattle.dns_name.specs.Records.{Field, Octets, DomainName, same_field, same_data}
use Rattle.dns_name.specs.Soa.{serial_of}
use Rattle.zone_model.proofs.Folded.{same_name-Decides}

-- a field with its name in lower case
abbrev lowered : Field → Field
lowered (Octets a) = Octets a
lowered (DomainName n) = DomainName (fold n)

same_lowered : (f g : Field) → same_field f g ≡ true → lowered f ≡ lowered g
same_lowered (Octets a) (Octets b) h = ap Octets ((bytes_decides a b).0 h)
same_lowered (Octets a) (DomainName n) h = absurd (true≢false (sym h))
same_lowered (DomainName m) (Octets b) h = absurd (true≢false (sym h))
same_lowered (DomainName m) (DomainName n) h = ap DomainName ((same_name-Decides m n).0 h)

all_lowered : (p q : List Field) → same_data p q ≡ true → map lowered p ≡ map lowered q
all_lowered [] [] h = refl
all_lowered [] (g ∷ q) h = absurd (true≢false (sym h))
all_lowered (f ∷ p) [] h = absurd (true≢false (sym h))
all_lowered (f ∷ p) (g ∷ q) h = λ i. same_lowered f g (first_so (same_field f g) _ h) i ∷ all_lowered p q (second_so (same_field f g) _ h) i

serial-lowered : (p : List Field) → serial_of (map lowered p) ≡ serial_of p
serial-lowered [] = refl
serial-lowered (Octets a ∷ p) = refl
serial-lowered (DomainName m ∷ []) = refl
serial-lowered (DomainName m ∷ Octets a ∷ p) = refl
serial-lowered (DomainName m ∷ DomainName r ∷ []) = refl
serial-lowered (DomainName m ∷ DomainName r ∷ DomainName n ∷ p) = refl
serial-lowered (DomainName m ∷ DomainName r ∷ Octets [] ∷ p) = refl
serial-lowered (DomainName m ∷ DomainName r ∷ Octets (x ∷ []) ∷ p) = refl
serial-lowered (DomainName m ∷ DomainName r ∷ Octets (x ∷ y ∷ []) ∷ p) = refl
serial-lowered (DomainName m ∷ DomainName r ∷ Octets (x ∷ y ∷ z ∷ []) ∷ p) = refl
serial-lowered (DomainName m ∷ DomainName r ∷ Octets (x ∷ y ∷ z ∷ w ∷ times) ∷ []) = refl
serial-lowered (DomainName m ∷ DomainName r ∷ Octets (x ∷ y ∷ z ∷ w ∷ times) ∷ f ∷ p) = refl

pub same_serial : (p q : List Field) → same_data p q ≡ true → serial_of p ≡ serial_of q
same_serial p q h = sym (serial-lowered p) ∙ ap serial_of (all_lowered p q h) ∙ serial-lowered q

pub other_data : (p q : List Field) → (serial_of p == serial_of q) ≡ false → same_data p q ≡ false
other_data p q n = by (same_data p q) refl
  where
    by : (b : Bool) → same_data p q ≡ b → b ≡ false
    by true h = absurd (true≢false (sym (eq-eqb (serial_of p) (serial_of q) (same_serial p q h)) ∙ n))
    by false h = refl
