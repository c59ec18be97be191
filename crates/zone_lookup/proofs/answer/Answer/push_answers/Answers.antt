use Rattle.std.proofs.Common.{◌∙◌}
use Rattle.dns_wire.specs.Wire.{in_answer}
use Rattle.zone_lookup.specs.Sending.{answers_of}
use Rattle.zone_lookup.proofs.Adding.{is_said, content_given}
use Rattle.zone_lookup.proofs.answer.Answer.push_answers.Goals as goal

pub returns : goal.returns
returns c =
    let a = c.args in
    λ h qs stands. is_said a.said (answers_of a.question.now a.self.now) (λ rs. in_answer h qs rs) a.section.now c.push_content.new.section c.push_content.result (cc)
    (content_given c.borrowed.result c.qclass.result c.content.result.now a.question.now a.self.now h qs a.section.now c.push_content.new.section c.push_content.result
    (c.borrowed.ensures.value ∙ c.to_key_name-owner.ensures.value ∙ c.qname.ensures) c.qclass.ensures c.content.ensures (c.push_content.ensures h qs stands))
