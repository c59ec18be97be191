-- Equality of record data is an equivalence.
use Rattle.std.specs.Prelude.{◌≡◌, true, refl}
use Rattle.std.proofs.Common.{sym, true≢false}
use Rattle.std.specs.Cmp.{IsEquivalence}
use Rattle.std.specs.Cmp.Lexicographic.{lists_equiv, nat_list_eq_equiv}
use Rattle.dns_name.specs.NameOrder.{same_name_equiv}
use Rattle.dns_name.specs.Records.{Field, same_field, same_data}
use Rattle.dns_name.specs.Records.Field.{Octets, DomainName}

field_itself : (f : Field) → same_field f f ≡ true
field_itself (Octets a) = nat_list_eq_equiv.refl a
field_itself (DomainName m) = same_name_equiv.refl m

field_turned : (f g : Field) → same_field f g ≡ same_field g f
field_turned (Octets a) (Octets b) = nat_list_eq_equiv.symm a b
field_turned (Octets a) (DomainName n) = refl
field_turned (DomainName m) (Octets b) = refl
field_turned (DomainName m) (DomainName n) = same_name_equiv.symm m n

field_alike : (f g h : Field) → same_field f g ≡ true → same_field f h ≡ same_field g h
field_alike (Octets a) (Octets b) (Octets c) e = nat_list_eq_equiv.congr a b c e
field_alike (Octets a) (Octets b) (DomainName n) e = refl
field_alike (Octets a) (DomainName n) h e = absurd (true≢false (sym e))
field_alike (DomainName m) (Octets b) h e = absurd (true≢false (sym e))
field_alike (DomainName m) (DomainName n) (Octets c) e = refl
field_alike (DomainName m) (DomainName n) (DomainName k) e = same_name_equiv.congr m n k e

pub same_data_equiv : IsEquivalence same_data
same_data_equiv = lists_equiv (record { refl = field_itself; symm = field_turned; congr = field_alike })
