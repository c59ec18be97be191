-- The order of data of any type is total, and ties where data are equal.
use Rattle.std.proofs.Common.{◌≡◌, ℕ, ◌∙◌}
use Rattle.std.specs.Prelude.{◌&&◌}
use Rattle.std.specs.Ordering.{nat_cmp, eq_by_cmp}
use Rattle.std.specs.Cmp.{IsTotalOrder, tied_then, unsigned_ties}
use Rattle.std.proofs.lemmas.Cmp.{then_total, on_total, nat_cmp_total}
use Rattle.dns_name.specs.Names.{Name}
use Rattle.dns_rdata.specs.DataOrder.{data_cmp}
use Rattle.dns_rdata.specs.DataTies.{data_total, data_ties}
use Rattle.dns_rdata.specs.ZoneData.{rtype_of, fields_of, same_zone_data, zone_data_cmp}
use Rattle.dns_rdata.specs.declared.zone_data.ZoneRecordData.{ZoneRecordData}

pub zone_data_total : {O N : Type 0} (labels : N → Name) → IsTotalOrder (zone_data_cmp {O = O} {P = O} labels labels)
zone_data_total {O} {N} labels =
    let kind : ZoneRecordData O N → ℕ = rtype_of in
    then_total (on_total kind nat_cmp_total) (on_total (fields_of labels) data_total)

pub zone_data_ties : {O N : Type 0} (labels : N → Name) (a b : ZoneRecordData O N) → same_zone_data labels labels a b ≡ eq_by_cmp (zone_data_cmp labels labels) a b
zone_data_ties labels a b =
    (λ i. unsigned_ties (rtype_of a) (rtype_of b) i && data_ties (fields_of labels a) (fields_of labels b) i)
    ∙ tied_then (nat_cmp (rtype_of a) (rtype_of b)) (data_cmp (fields_of labels a) (fields_of labels b))
