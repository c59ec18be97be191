use Rattle.std.proofs.Common.{sym, ◌∙◌}
use Rattle.dns_wire.specs.Wire.{header_in}
use Rattle.xfr_batch.specs.XfrBatches.{axfr_header}
use Rattle.xfr_batch.proofs.xfr.start_transfer.Goals as goal

pub returns-then-not-answer_fits : goal.returns-then-not-answer_fits
returns-then-not-answer_fits c = sym (c.answer_fits.ensures (axfr_header (header_in c.args.request.now))) ∙ c.if-not-answer_fits.true

pub returns-in_default : goal.returns-in_default
returns-in_default c = sym (c.answer_fits.ensures (axfr_header (header_in c.args.request.now))) ∙ c.if-not-answer_fits.false
