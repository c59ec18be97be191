use Rattle.std.proofs.Common.{[], refl}
use Rattle.std.proofs.lemmas.Result.{err_from_is_err_and}
use Rattle.dns_wire.specs.Wire.{header_in}
use Rattle.dns_wire.specs.Parse.{questions_in}
use Rattle.xfr_batch.specs.XfrBatches.{axfr_header}
use Rattle.xfr_server.proofs.Adding.{not_begun}
use Rattle.xfr_server.proofs.transfer_message.text_message.Goals as goal

pub returns-in_err-answer : goal.returns-in_err-answer
returns-in_err-answer c =
    let from = err_from_is_err_and c.from_residual.result c.from_residual.ensures.1 in
    record { built = rw (from.1, from.2) (not_begun c.args.request.now c.args.text.now.records c.args.limit _ c.in_err-answer.ensures); zone = refl }

pub returns-in_err-push_text : goal.returns-in_err-push_text
returns-in_err-push_text c =
    let from = err_from_is_err_and c.from_residual-in_err-push_text.result c.from_residual-in_err-push_text.ensures.1 in
    record {
      built = rw (from.1, from.2) (c.in_err-push_text.ensures.added (axfr_header (header_in c.args.request.now)) (questions_in c.args.request.now) [] c.args.limit c.in_ok-answer.ensures);
      zone = c.in_err-push_text.ensures.zone;
    }

pub returns : goal.returns
returns c = record {
  built = rw c.additional.ensures (c.in_ok-push_text.ensures.added (axfr_header (header_in c.args.request.now)) (questions_in c.args.request.now) [] c.args.limit c.in_ok-answer.ensures);
  zone = c.in_ok-push_text.ensures.zone;
}
