-- Equality of records and sets without their owner is an equivalence.
use Rattle.std.specs.Cmp.{IsEquivalence, IsPartialEquivalence, partial_equiv_from_equiv, and_equiv, on_equiv, nat_eq_equiv}
use Rattle.std.specs.Cmp.Lexicographic.{lists_equiv}
use Rattle.dns_rdata.specs.SameData.{same_data_equiv}
use Rattle.zone_values.specs.TypedSets.{TypedRecord, TypedSet, same_typed_record, same_typed_set}

pub same_typed_record_equiv : IsEquivalence same_typed_record
same_typed_record_equiv =
    and_equiv (and_equiv (on_equiv (λ (r : TypedRecord). r.rtype) nat_eq_equiv) (on_equiv (λ (r : TypedRecord). r.ttl) nat_eq_equiv)) (on_equiv (λ (r : TypedRecord). r.fields) same_data_equiv)

pub same_typed_record_partial : IsPartialEquivalence same_typed_record
same_typed_record_partial = partial_equiv_from_equiv same_typed_record_equiv

pub same_typed_set_equiv : IsEquivalence same_typed_set
same_typed_set_equiv =
    and_equiv (and_equiv (on_equiv (λ (s : TypedSet). s.rtype) nat_eq_equiv) (on_equiv (λ (s : TypedSet). s.contents.ttl) nat_eq_equiv)) (on_equiv (λ (s : TypedSet). s.contents.items) (lists_equiv same_data_equiv))

pub same_typed_set_partial : IsPartialEquivalence same_typed_set
same_typed_set_partial = partial_equiv_from_equiv same_typed_set_equiv
