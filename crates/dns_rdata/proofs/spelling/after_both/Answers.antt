use Rattle.dns_rdata.proofs.Fronts.{second_absent}
use Rattle.dns_rdata.proofs.spelling.after_both.Goals as goal

pub returns-in_default-after_front : goal.returns-in_default-after_front
returns-in_default-after_front c =
    second_absent c.args.first.now c.args.second.now c.args.octets.now c.in-Some.after.now c.in-Some.ensures c.in_default-after_front.ensures
