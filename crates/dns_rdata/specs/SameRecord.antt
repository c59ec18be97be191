-- Equality of records: the same owner, class, type and data; the TTL isn't looked at (RFC 2136, 1.1.1). It is an equivalence.
use Rattle.std.specs.Prelude.{Bool, ◌==◌, ◌&&◌}
use Rattle.std.specs.Cmp.{IsEquivalence, IsPartialEquivalence, partial_equiv_from_equiv, and_equiv, on_equiv, nat_eq_equiv}
use Rattle.dns_name.specs.Names.{same_name}
use Rattle.dns_name.specs.NameOrder.{same_name_equiv}
use Rattle.dns_name.specs.Records.{Record, same_type_and_data}
use Rattle.dns_rdata.specs.SameData.{same_data_equiv}

-- whether two records are equal: owner, class, type and data, names ASCII case aside (RFC 2136, 1.1.1; RFC 4343, 3)
abbrev pub same_record : Record → Record → Bool
same_record a b = same_name a.owner b.owner && (a.class == b.class && same_type_and_data a b)

pub same_record_equiv : IsEquivalence same_record
same_record_equiv =
    and_equiv (on_equiv (λ (r : Record). r.owner) same_name_equiv)
    (and_equiv (on_equiv (λ (r : Record). r.class) nat_eq_equiv)
    (and_equiv (on_equiv (λ (r : Record). r.rtype) nat_eq_equiv) (on_equiv (λ (r : Record). r.fields) same_data_equiv)))

pub same_record_partial : IsPartialEquivalence same_record
same_record_partial = partial_equiv_from_equiv same_record_equiv
