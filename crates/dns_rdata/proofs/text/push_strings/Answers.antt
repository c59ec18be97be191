use Rattle.std.proofs.Common.{arith}
use Rattle.dns_rdata.proofs.Texts.{text_step}
use Rattle.dns_rdata.proofs.text.push_strings.Goals as goal

pub strings-preserved : goal.strings-preserved
strings-preserved c =
    text_step c.strings.out.items c.push_string.new.out.items c.strings.rest.now c.split_at.result.0.now c.split_at.result.1.now _
    (omega (arith, c.strings-test.true)) c.in_ok-push_string.ensures c.split_at.ensures.front c.split_at.ensures.back c.strings.invariant
