-- What the crate of zone files says of them, as the proofs here use it.
use Rattle.std.proofs.Common.{◌≡◌}
use Rattle.dns_rdata.specs.Records.{Record}
use Rattle.zone_model.specs.Classify.{ZoneFile, classify, opened}
use Rattle.zone_records.specs.Parsed.{kept, version_of}
use Rattle.zone_records.specs.Taking.{take, taken_as}
use Rattle.zone_records.specs.Faults.{is_whole, makes_zone}

pub record FileLaws : Type 0 where
  pub takes : (f : ZoneFile) (r : Record) → take (kept f) r ≡ taken_as f r (classify f r)
  pub whole : (f : ZoneFile) → is_whole (kept f) ≡ makes_zone f
  pub opens : (f : ZoneFile) → version_of (kept f) ≡ opened f
