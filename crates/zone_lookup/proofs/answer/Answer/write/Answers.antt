use Rattle.std.proofs.Common.{[]}
use Rattle.std.specs.Prelude.{not, if◌then◌else◌}
use Rattle.std.proofs.lemmas.Result.{err_from_is_err_and}
use Rattle.dns_wire.specs.Wire.{in_answer, in_authority, message_wire}
use Rattle.dns_wire.specs.Parse.{questions_in}
use Rattle.zone_lookup.specs.Sending.{answers_of, authority_of, additional_to, reply_header, reply_to_extent}
use Rattle.zone_lookup.proofs.Adding.{with_additional, stood, moved, built_more, refused_more, refused_longer, front_unbuilt, begun, answered, referred}
use Rattle.zone_lookup.proofs.answer.Answer.write.Goals as goal

pub returns-in_err-answer_section : goal.returns-in_err-answer_section
returns-in_err-answer_section c =
    let from = err_from_is_err_and c.from_residual.result c.from_residual.ensures.1 in
    let a = c.args in
    let h = reply_header a.request.now a.self.now (not a.extent.required) in
    let qs = questions_in a.request.now in
    let xs = if a.extent.answers then answers_of a.question.now a.self.now else [] in
    let ys = if a.extent.authority then authority_of a.question.now a.self.now else [] in
    let zs = additional_to a.self.now a.extent in
    let m = in_answer h qs [] in
    rw (from.1, from.2) (refused_longer m m (reply_to_extent a.request.now a.self.now a.question.now a.extent) a.limit _ (begun h qs xs ys zs)
    (front_unbuilt m a.limit _ c.in_err-answer_section.ensures))

pub returns-in_err-push_answers : goal.returns-in_err-push_answers
returns-in_err-push_answers c =
    let from = err_from_is_err_and c.from_residual-in_err-push_answers.result c.from_residual-in_err-push_answers.ensures.1 in
    let a = c.args in
    let h = reply_header a.request.now a.self.now (not a.extent.required) in
    let qs = questions_in a.request.now in
    let xs = if a.extent.answers then answers_of a.question.now a.self.now else [] in
    let ys = if a.extent.authority then authority_of a.question.now a.self.now else [] in
    let zs = additional_to a.self.now a.extent in
    let m = in_answer h qs [] in
    rw (from.1, from.2) (refused_longer m (in_answer h qs xs) (reply_to_extent a.request.now a.self.now a.question.now a.extent) a.limit _ (answered h qs xs ys zs)
    (refused_more m m (in_answer h qs xs) a.limit c.in_ok-answer_section.answer_section c.push_answers.new.section _ c.in_ok-answer_section.ensures.0 c.in_ok-answer_section.ensures
    (c.in_err-push_answers.ensures h qs (stood m a.limit c.in_ok-answer_section.answer_section c.in_ok-answer_section.ensures))))

pub returns-in_err-push_authority : goal.returns-in_err-push_authority
returns-in_err-push_authority c =
    let from = err_from_is_err_and c.from_residual-in_err-push_authority.result c.from_residual-in_err-push_authority.ensures.1 in
    let a = c.args in
    let h = reply_header a.request.now a.self.now (not a.extent.required) in
    let qs = questions_in a.request.now in
    let xs = if a.extent.answers then answers_of a.question.now a.self.now else [] in
    let ys = if a.extent.authority then authority_of a.question.now a.self.now else [] in
    let zs = additional_to a.self.now a.extent in
    let m = in_answer h qs [] in
    let referring = moved (message_wire (in_answer h qs xs)) a.limit c.push_answers.new.section c.authority-authority_section.result c.authority-authority_section.ensures
    (built_more m (in_answer h qs xs) a.limit c.in_ok-answer_section.answer_section c.push_answers.new.section c.in_ok-push_answers.field-0 c.in_ok-answer_section.ensures
    (c.in_ok-push_answers.ensures h qs (stood m a.limit c.in_ok-answer_section.answer_section c.in_ok-answer_section.ensures))) in
    let to_refer = stood (in_answer h qs xs) a.limit c.authority-authority_section.result referring in
    rw (from.1, from.2) (refused_longer m (in_authority h qs xs ys) (reply_to_extent a.request.now a.self.now a.question.now a.extent) a.limit _ (referred h qs xs ys zs)
    (refused_more m (in_answer h qs xs) (in_authority h qs xs ys) a.limit c.authority-authority_section.result c.push_authority.new.section _ c.in_ok-answer_section.ensures.0 referring
    (c.in_err-push_authority.ensures h qs xs to_refer)))

pub returns-in_err-push_additional : goal.returns-in_err-push_additional
returns-in_err-push_additional c =
    let from = err_from_is_err_and c.from_residual-in_err-push_additional.result c.from_residual-in_err-push_additional.ensures.1 in
    let a = c.args in
    let h = reply_header a.request.now a.self.now (not a.extent.required) in
    let qs = questions_in a.request.now in
    let xs = if a.extent.answers then answers_of a.question.now a.self.now else [] in
    let ys = if a.extent.authority then authority_of a.question.now a.self.now else [] in
    let zs = additional_to a.self.now a.extent in
    let m = in_answer h qs [] in
    let referring = moved (message_wire (in_answer h qs xs)) a.limit c.push_answers.new.section c.authority-authority_section.result c.authority-authority_section.ensures
    (built_more m (in_answer h qs xs) a.limit c.in_ok-answer_section.answer_section c.push_answers.new.section c.in_ok-push_answers.field-0 c.in_ok-answer_section.ensures
    (c.in_ok-push_answers.ensures h qs (stood m a.limit c.in_ok-answer_section.answer_section c.in_ok-answer_section.ensures))) in
    let to_refer = stood (in_answer h qs xs) a.limit c.authority-authority_section.result referring in
    let n = in_authority h qs xs ys in
    let adding = moved (message_wire n) a.limit c.push_authority.new.section c.additional-additional_section.result c.additional-additional_section.ensures
    (built_more (in_answer h qs xs) n a.limit c.authority-authority_section.result c.push_authority.new.section c.in_ok-push_authority.field-0 referring (c.in_ok-push_authority.ensures h qs xs to_refer)) in
    rw (from.1, from.2) (refused_more m n (with_additional n zs) a.limit c.additional-additional_section.result c.push_additional.new.section _ c.in_ok-answer_section.ensures.0 adding
    (c.in_err-push_additional.ensures n (stood n a.limit c.additional-additional_section.result adding)))

pub returns : goal.returns
returns c =
    let a = c.args in
    let h = reply_header a.request.now a.self.now (not a.extent.required) in
    let qs = questions_in a.request.now in
    let xs = if a.extent.answers then answers_of a.question.now a.self.now else [] in
    let ys = if a.extent.authority then authority_of a.question.now a.self.now else [] in
    let zs = additional_to a.self.now a.extent in
    let m = in_answer h qs [] in
    let referring = moved (message_wire (in_answer h qs xs)) a.limit c.push_answers.new.section c.authority-authority_section.result c.authority-authority_section.ensures
    (built_more m (in_answer h qs xs) a.limit c.in_ok-answer_section.answer_section c.push_answers.new.section c.in_ok-push_answers.field-0 c.in_ok-answer_section.ensures
    (c.in_ok-push_answers.ensures h qs (stood m a.limit c.in_ok-answer_section.answer_section c.in_ok-answer_section.ensures))) in
    let to_refer = stood (in_answer h qs xs) a.limit c.authority-authority_section.result referring in
    let n = in_authority h qs xs ys in
    let adding = moved (message_wire n) a.limit c.push_authority.new.section c.additional-additional_section.result c.additional-additional_section.ensures
    (built_more (in_answer h qs xs) n a.limit c.authority-authority_section.result c.push_authority.new.section c.in_ok-push_authority.field-0 referring (c.in_ok-push_authority.ensures h qs xs to_refer)) in
    built_more n (with_additional n zs) a.limit c.additional-additional_section.result c.push_additional.new.section c.in_ok-push_additional.field-0 adding
    (c.in_ok-push_additional.ensures n (stood n a.limit c.additional-additional_section.result adding))
