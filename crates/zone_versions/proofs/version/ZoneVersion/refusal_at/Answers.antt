use Rattle.std.proofs.Common.{ap, sym, ◌∙◌, ◌&&◌, is_some}
use Rattle.dns_rdata.specs.ZoneData.{data_fields}
use Rattle.zone_model.specs.Version.{set_in}
use Rattle.zone_values.specs.PutCauses.{has_equal}
use Rattle.zone_versions.proofs.Adding.{is_outside, is_equal, is_second, is_taken, found_at, lacks_at, and_false, alone_at}
use Rattle.zone_versions.proofs.version.ZoneVersion.refusal_at.Goals as goal

-- The tests of an addition, in their order.
pub returns-then-not-is_in_zone-clause-refused : goal.returns-then-not-is_in_zone-clause-refused
returns-then-not-is_in_zone-clause-refused c = λ r e. is_outside c.args.self.now c.args.key.now r.ttl (data_fields c.args.item.now) r e (sym c.if-not-is_in_zone.ensures)

pub returns-then-contains-clause-refused : goal.returns-then-contains-clause-refused
returns-then-contains-clause-refused c =
    let found = found_at c.args.key.now.1 (set_in c.args.self.now.sets c.args.key.now) c.in-Some.set.now c.in-Some.ensures in
    λ r e. is_equal c.args.self.now c.args.key.now r.ttl (data_fields c.args.item.now) r e (sym c.if-not-is_in_zone.ensures) (ap (has_equal (data_fields c.args.item.now)) (sym found) ∙ sym c.if-contains.ensures)

pub returns-then-stands_alone-clause-refused : goal.returns-then-stands_alone-clause-refused
returns-then-stands_alone-clause-refused c =
    let found = found_at c.args.key.now.1 (set_in c.args.self.now.sets c.args.key.now) c.in-Some.set.now c.in-Some.ensures in
    λ r e. is_second c.args.self.now c.args.key.now r.ttl (data_fields c.args.item.now) r e (sym c.if-not-is_in_zone.ensures) (ap (has_equal (data_fields c.args.item.now)) (sym found) ∙ sym c.if-contains.ensures)
    (λ i. sym c.if-stands_alone.ensures i && is_some (sym found i))

pub returns-else-stands_alone-clause-accepted : goal.returns-else-stands_alone-clause-accepted
returns-else-stands_alone-clause-accepted c =
    let found = found_at c.args.key.now.1 (set_in c.args.self.now.sets c.args.key.now) c.in-Some.set.now c.in-Some.ensures in
    λ r e. is_taken c.args.self.now c.args.key.now r.ttl (data_fields c.args.item.now) r e (sym c.if-not-is_in_zone.ensures) (ap (has_equal (data_fields c.args.item.now)) (sym found) ∙ sym c.if-contains.ensures)
    (λ i. sym c.if-stands_alone.ensures i && is_some (sym found i))

-- No set stands there.
pub returns-in-None-clause-accepted : goal.returns-in-None-clause-accepted
returns-in-None-clause-accepted c =
    let none = lacks_at c.args.key.now.1 (set_in c.args.self.now.sets c.args.key.now) c.in-None.ensures in
    λ r e. is_taken c.args.self.now c.args.key.now r.ttl (data_fields c.args.item.now) r e (sym c.if-not-is_in_zone.ensures) (ap (has_equal (data_fields c.args.item.now)) (sym none))
    ((λ i. alone_at c.args.self.now c.args.key.now && is_some (sym none i)) ∙ and_false (alone_at c.args.self.now c.args.key.now))
