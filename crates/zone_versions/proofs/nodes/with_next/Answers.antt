use Rattle.std.proofs.Common.{◌≡◌, ℕ, ◌+◌, ◌%◌, ◌^◌, ap, ◌∙◌, arith}
use Rattle.dns_rdata.specs.DataFields.{soa_fields}
use Rattle.dns_rdata.specs.Soa.{with_serial}
use Rattle.zone_versions.proofs.NextSerial.{with_serial_is}
use Rattle.zone_versions.proofs.nodes.with_next.Goals as goal

-- All but the serial is copied.
pub returns : goal.returns
returns c =
    let old = c.args.soa.now in
    let next = c.add-serial.result in
    let counted : next ≡ (c.serial.result + 1) % 2 ^ 32 = c.add-serial.ensures in
    ap (soa_fields (λ n. n))
    (c.new.ensures
    ∙ (λ i. record {
      mname = (c.in_ok-mname.ensures.cases ∙ c.mname.ensures) i;
      rname = (c.in_ok-rname.ensures.cases ∙ c.rname.ensures) i;
      serial = next;
      refresh = c.refresh-refresh.ensures i;
      retry = c.retry-retry.ensures i;
      expire = c.expire-expire.ensures i;
      minimum = c.minimum-minimum.ensures i;
    }))
    ∙ with_serial_is old next (omega (arith, counted)) ∙ ap (λ (n : ℕ). with_serial n (soa_fields (λ m. m) old)) (counted ∙ ap (λ (n : ℕ). (n + 1) % 2 ^ 32) c.serial.ensures.of_fields)
