use Rattle.std.proofs.Common.{[]}
use Rattle.std.proofs.lemmas.Result.{err_from_is_err_and}
use Rattle.zone_model.specs.Answer.{apex_soa_record}
use Rattle.dns_wire.specs.Wire.{header_in}
use Rattle.dns_wire.specs.Parse.{questions_in}
use Rattle.xfr_batch.specs.XfrBatches.{axfr_header}
use Rattle.xfr_server.proofs.Adding.{not_begun}
use Rattle.xfr_server.proofs.transfer_message.soa_message.Goals as goal

pub returns-in_err-answer : goal.returns-in_err-answer
returns-in_err-answer c =
    let from = err_from_is_err_and c.from_residual.result c.from_residual.ensures.1 in
    rw (from.1, from.2) (not_begun c.args.request.now (apex_soa_record c.args.zone.now.version) c.args.limit _ c.in_err-answer.ensures)

pub returns-in_err-push_soa : goal.returns-in_err-push_soa
returns-in_err-push_soa c =
    let from = err_from_is_err_and c.from_residual-in_err-push_soa.result c.from_residual-in_err-push_soa.ensures.1 in
    rw (from.1, from.2) (c.in_err-push_soa.ensures (axfr_header (header_in c.args.request.now)) (questions_in c.args.request.now) [] c.args.limit c.in_ok-answer.ensures)

pub returns : goal.returns
returns c = rw c.additional.ensures (c.in_ok-push_soa.ensures (axfr_header (header_in c.args.request.now)) (questions_in c.args.request.now) [] c.args.limit c.in_ok-answer.ensures)
