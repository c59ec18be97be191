-- The law of the order of zones' keys: by class, then canonical apex (RFC 4034, 6.1).
use Rattle.std.specs.Cmp.{IsTotalOrder, on_total, then_total, nat_cmp_total}
use Rattle.dns_name.specs.NameOrder.{canonical_total}
use Rattle.zone_model.specs.Zones.{ZoneKey, zone_key_cmp}

pub zone_key_total : IsTotalOrder zone_key_cmp
zone_key_total = then_total (on_total (λ (k : ZoneKey). k.0) nat_cmp_total) (on_total (λ (k : ZoneKey). k.1) canonical_total)
