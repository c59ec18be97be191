use Rattle.std.proofs.Common.{[], ap}
use Rattle.std.specs.Prelude.{Ok}
use Rattle.dns_wire.specs.Wire.{in_authority}
use Rattle.zone_lookup.specs.Sending.{authority_records, authority_of}
use Rattle.zone_lookup.proofs.Adding.{is_said, some_added, nothing_added, list_given}
use Rattle.zone_lookup.proofs.answer.Answer.push_authority.Goals as goal

pub returns-in-Some : goal.returns-in-Some
returns-in-Some c =
    let a = c.args in
    let class = a.question.now.qclass in
    let found = c.in-Some.authority.now in
    λ h qs answers stands. is_said a.said (authority_of a.question.now a.self.now) (λ rs. in_authority h qs answers rs) a.section.now c.push_into.new.section c.push_into.result (cc)
    (some_added (authority_records class) found a.self.now.authority (λ rs. in_authority h qs answers rs) [] a.section.now c.push_into.new.section c.push_into.result c.in-Some.ensures
    (list_given (authority_records c.qclass.result found) (authority_records class found) (λ rs. in_authority h qs answers rs) [] a.section.now c.push_into.new.section c.push_into.result
    (ap (λ k. authority_records k found) c.qclass.ensures) (c.push_into.ensures h qs answers stands)))

pub returns-in-None : goal.returns-in-None
returns-in-None c =
    let a = c.args in
    λ h qs answers stands. is_said a.said (authority_of a.question.now a.self.now) (λ rs. in_authority h qs answers rs) a.section.now a.section.now (Ok tt) (cc)
    (nothing_added (authority_records a.question.now.qclass) a.self.now.authority (λ rs. in_authority h qs answers rs) [] a.section.now tt c.in-None.ensures stands)
