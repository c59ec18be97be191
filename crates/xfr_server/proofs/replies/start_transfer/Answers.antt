use Rattle.std.proofs.Common.{sym, ◌∙◌}
use Rattle.dns_wire.specs.Wire.{header_in}
use Rattle.xfr_batch.specs.XfrBatches.{axfr_header}
use Rattle.xfr_server.proofs.replies.start_transfer.Goals as goal

pub returns-then-not-answer_fits : goal.returns-then-not-answer_fits
returns-then-not-answer_fits c =
    let fit = rw c.as_message-asked.ensures at (c.answer_fits.ensures (axfr_header (header_in c.args.request.now))) in
    sym fit ∙ c.if-not-answer_fits.true

pub returns-in_default : goal.returns-in_default
returns-in_default c =
    let fit = rw c.as_message-asked.ensures at (c.answer_fits.ensures (axfr_header (header_in c.args.request.now))) in
    sym fit ∙ c.if-not-answer_fits.false
