use Rattle.std.proofs.Common.{sym, ◌∙◌}
use Rattle.zone_lookup.specs.Sending.{reply_header}
use Rattle.zone_lookup.proofs.answer.Answer.write_question.Goals as goal

pub returns-then-not-answer_fits : goal.returns-then-not-answer_fits
returns-then-not-answer_fits c =
    sym (c.answer_fits.ensures (reply_header c.args.request.now c.args.self.now c.args.cut)) ∙ c.if-not-answer_fits.true

pub returns-in_default : goal.returns-in_default
returns-in_default c =
    sym (c.answer_fits.ensures (reply_header c.args.request.now c.args.self.now c.args.cut)) ∙ c.if-not-answer_fits.false
