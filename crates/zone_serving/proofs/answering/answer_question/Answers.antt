use Rattle.std.proofs.Common.{◌<◌, length, sym, ap, ◌∙◌, subst, arith}
use Rattle.dns_name.specs.Names.{name_wire}
use Rattle.zone_serving.proofs.LongQueries.{sole_some}
use Rattle.zone_serving.proofs.answering.answer_question.Goals as goal

pub returns-in_default : goal.returns-in_default
returns-in_default g c =
    let q = c.args.question.now in
    let short : length (name_wire q.qname) < 256 = omega (arith, c.compose_len-len.ensures.len, c.compose_len-len.ensures.bound, ap (λ n. length (name_wire n)) c.qname.ensures) in
    sole_some (g.Z.StoredZone.current c.args.zone.now) c.args.limit c.args.message.now q c.requires short
