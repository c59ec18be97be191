use Rattle.std.proofs.Common.{length, ap, arith}
use Rattle.zone_generated.proofs.HostNames.{short_label}
use Rattle.zone_generated.proofs.records.host_record.Goals as goal

pub below_apex-owner-requires-clause-short : goal.below_apex-owner-requires-clause-short
below_apex-owner-requires-clause-short c =
    let value = ap length c.as_bytes.ensures.value in
    let is = ap length c.in_ok-label.ensures.is in
    let short = short_label c.args.count c.args.draw c.requires c.ranges.count.fits in
    omega (arith, value, is, short)
