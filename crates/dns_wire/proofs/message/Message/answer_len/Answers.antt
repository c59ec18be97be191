use Rattle.std.proofs.Common.{◌+◌, length, ap, ◌∙◌}
use Rattle.std.specs.List.{filter_map, flat_map}
use Rattle.dns_wire.specs.Wire.{question_wire}
use Rattle.dns_wire.proofs.message.Message.answer_len.Goals as goal

pub returns-clause-len : goal.returns-clause-len
returns-clause-len c =
    ap (λ n. 12 + n) (c.questions_len.ensures.len ∙ ap (λ s. length (flat_map question_wire (filter_map (λ q. q) s.left))) c.question.ensures.value)
