use Rattle.std.proofs.Common.{◌++◌, ◌∙◌}
use Rattle.dns_name.specs.Octets.{u32_octets}
use Rattle.dns_rdata.specs.DataFields.{soa_times}
use Rattle.dns_rdata.proofs.Numbers.{five_fours}
use Rattle.dns_rdata.proofs.soa.Soa.of_times.Goals as goal

pub returns-clause-times : goal.returns-clause-times
unfolding soa_times
returns-clause-times g c =
    (λ i. u32_octets (c.from.ensures i) ++ u32_octets (c.from_int.ensures i) ++ u32_octets (c.from_int-2.ensures i) ++ u32_octets (c.from_int-3.ensures i) ++ u32_octets (c.from_int-4.ensures i))
    ∙ (λ i. c.number_at.ensures i ++ c.number_at-2.ensures i ++ c.number_at-3.ensures i ++ c.number_at-4.ensures i ++ c.number_at-5.ensures i)
    ∙ five_fours c.args.times.now c.requires
