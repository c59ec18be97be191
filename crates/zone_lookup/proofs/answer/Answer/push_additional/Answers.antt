use Rattle.std.proofs.Common.{[], ◌++◌}
use Rattle.std.specs.Prelude.{Ok, if◌then◌else◌}
use Rattle.zone_lookup.specs.Sending.{required_of, discardable_of}
use Rattle.zone_lookup.proofs.Adding.{with_additional, added_behind, regrouped, list_given}
use Rattle.zone_lookup.proofs.answer.Answer.push_additional.Goals as goal

pub returns : goal.returns
returns c =
    let a = c.args in
    let required = if a.extent.required then required_of a.self.now else [] in
    let discardable = if a.extent.discardable then discardable_of a.self.now else [] in
    λ m stands. regrouped (with_additional m) m.additional required discardable a.section.now c.push_records-2.new.section c.push_records-2.result
    (added_behind (with_additional m (m.additional ++ required)) (with_additional m ((m.additional ++ required) ++ discardable)) a.section.now c.push_records.new.section
    c.push_records-2.new.section c.in_ok-push_records.field-0 c.push_records-2.result
    (list_given c.required.result.now required (with_additional m) m.additional a.section.now c.push_records.new.section (Ok c.in_ok-push_records.field-0)
    c.required.ensures (c.in_ok-push_records.ensures m stands))
    (λ added. list_given c.discardable.result.now discardable (with_additional m) (m.additional ++ required) c.push_records.new.section c.push_records-2.new.section c.push_records-2.result
    c.discardable.ensures (c.push_records-2.ensures (with_additional m (m.additional ++ required)) added)))
