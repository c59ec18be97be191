use Rattle.std.proofs.Common.{nat_le, min, ap, ◌∙◌}
use Rattle.dns_wire.specs.Parse.{questions_in}
use Rattle.dns_wire.proofs.Questions.{begun_length}
use Rattle.dns_wire.proofs.message.Message.answer_fits.Goals as goal

pub returns : goal.returns
returns c = λ h.
    c.is_within.ensures ∙ ap (λ n. nat_le n (min c.args.limit 65535)) (c.answer_len.ensures.len ∙ begun_length h (questions_in c.args.self.now))
