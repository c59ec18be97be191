-- The order of records: by owner, class, type and data. It is total, and ties where records are equal.
use Rattle.std.proofs.Common.{◌≡◌, refl}
use Rattle.std.specs.Prelude.{Some}
use Rattle.std.specs.Ordering.{nat_cmp, ordering_then, eq_by_cmp}
use Rattle.std.specs.declared.cmp.Ordering.{Ordering}
use Rattle.std.specs.Cmp.{IsTotalOrder, IsPartialOrder, both_tied, unsigned_ties, partial_order_from_agreeing_total}
use Rattle.std.proofs.lemmas.Cmp.{then_total, on_total, nat_cmp_total}
use Rattle.dns_name.specs.Names.{canonical_cmp}
use Rattle.dns_name.specs.NameOrder.{canonical_total, canonical_ties}
use Rattle.dns_name.specs.Records.{Record}
use Rattle.dns_rdata.specs.DataOrder.{data_cmp}
use Rattle.dns_rdata.specs.DataTies.{data_total, data_ties}
use Rattle.dns_rdata.specs.SameRecord.{same_record}

-- an order of records whose ties are equal records: owners in canonical order (RFC 4034, 6.1), then by class, by type and by data
abbrev pub record_cmp : Record → Record → Ordering
record_cmp a b =
    ordering_then (canonical_cmp a.owner b.owner)
    (ordering_then (nat_cmp a.class b.class) (ordering_then (nat_cmp a.rtype b.rtype) (data_cmp a.fields b.fields)))

pub record_total : IsTotalOrder record_cmp
record_total =
    then_total (on_total (λ (r : Record). r.owner) canonical_total)
    (then_total (on_total (λ (r : Record). r.class) nat_cmp_total)
    (then_total (on_total (λ (r : Record). r.rtype) nat_cmp_total) (on_total (λ (r : Record). r.fields) data_total)))

pub record_ties : (a b : Record) → same_record a b ≡ eq_by_cmp record_cmp a b
record_ties a b =
    both_tied _ _ (canonical_cmp a.owner b.owner) _ (canonical_ties a.owner b.owner)
    (both_tied _ _ (nat_cmp a.class b.class) _ (unsigned_ties a.class b.class)
    (both_tied _ _ (nat_cmp a.rtype b.rtype) _ (unsigned_ties a.rtype b.rtype) (data_ties a.fields b.fields)))

pub record_po : IsPartialOrder same_record (λ a b. Some (record_cmp a b))
record_po = partial_order_from_agreeing_total record_cmp record_total (λ a b. refl) record_ties
