-- Equality of data of any type is an equivalence.
use Rattle.std.specs.Prelude.{ℕ}
use Rattle.std.specs.Cmp.{IsEquivalence, IsPartialEquivalence, partial_equiv_from_equiv, and_equiv, on_equiv, nat_eq_equiv}
use Rattle.dns_name.specs.Names.{Name}
use Rattle.dns_rdata.specs.SameData.{same_data_equiv}
use Rattle.dns_rdata.specs.ZoneData.{rtype_of, fields_of, same_zone_data}
use Rattle.dns_rdata.specs.declared.zone_data.ZoneRecordData.{ZoneRecordData}

pub same_zone_data_equiv : {O N : Type 0} (labels : N → Name) → IsEquivalence (same_zone_data {O = O} {P = O} labels labels)
same_zone_data_equiv {O} {N} labels =
    let kind : ZoneRecordData O N → ℕ = rtype_of in
    and_equiv (on_equiv kind nat_eq_equiv) (on_equiv (fields_of labels) same_data_equiv)

pub same_zone_data_partial : {O N : Type 0} (labels : N → Name) → IsPartialEquivalence (same_zone_data {O = O} {P = O} labels labels)
same_zone_data_partial labels = partial_equiv_from_equiv (same_zone_data_equiv labels)
