use Rattle.std.proofs.Common.{◌≡◌, [], refl, ◌∙◌}
use Rattle.std.specs.Prelude.{Ok}
use Rattle.dns_wire.specs.Wire.{in_answer}
use Rattle.zone_lookup.specs.Sending.{record_at}
use Rattle.zone_lookup.specs.declared.answer_content.AnswerContent.TheVariants.{Data, Cname, NoData}
use Rattle.zone_lookup.proofs.Adding.{answers, record_added, set_given, content_is}
use Rattle.zone_lookup.proofs.sections.push_content.Goals as goal

pub returns-in-Data : goal.returns-in-Data
returns-in-Data c =
    let a = c.args in
    λ h qs stands. content_is a.owner.now a.class a.content.now (Data c.in-Data.set) h qs a.section.now c.push_answers.new.section c.push_answers.result c.in-Data.is
    (set_given a.owner.now a.class c.as_rrset.result.now c.in-Data.set (λ rs. in_answer h qs rs) [] a.section.now c.push_answers.new.section c.push_answers.result
    c.as_rrset.ensures (c.push_answers.ensures h qs stands))

pub returns-in-Cname : goal.returns-in-Cname
returns-in-Cname c =
    let a = c.args in
    let r = record_at a.owner.now a.class c.in-Cname.cname in
    let is : c.new.result ≡ r = c.new.ensures ∙ rw (c.borrowed.ensures.value, c.ttl.ensures, c.data.ensures.rtype, c.data.ensures.fields) refl in
    λ h qs stands. content_is a.owner.now a.class a.content.now (Cname c.in-Cname.cname) h qs a.section.now c.push.new.self c.push.result c.in-Cname.is
    (record_added 6 _ (λ rs. in_answer h qs rs) [] c.new.result r a.section.now c.push.new.self c.push.result (answers h qs) is stands c.push.ensures.adds)

pub returns-in-NoData : goal.returns-in-NoData
returns-in-NoData c =
    let a = c.args in
    λ h qs stands. content_is a.owner.now a.class a.content.now NoData h qs a.section.now a.section.now (Ok tt) c.in-NoData.is (stands, refl)
