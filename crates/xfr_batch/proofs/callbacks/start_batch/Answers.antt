use Rattle.std.proofs.Common.{sym, ◌∙◌}
use Rattle.dns_wire.specs.Wire.{header_in}
use Rattle.dns_wire.specs.Reply.{answer_header}
use Rattle.xfr_batch.proofs.callbacks.start_batch.Goals as goal

pub returns-then-not-answer_fits : goal.returns-then-not-answer_fits
returns-then-not-answer_fits c = sym (c.answer_fits.ensures (answer_header (header_in c.args.request.now) 0)) ∙ c.if-not-answer_fits.true

pub returns-in_default : goal.returns-in_default
returns-in_default c = sym (c.answer_fits.ensures (answer_header (header_in c.args.request.now) 0)) ∙ c.if-not-answer_fits.false
