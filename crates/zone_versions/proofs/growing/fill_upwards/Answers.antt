use Rattle.std.proofs.Common.{◌≤◌, sym, ap, ◌∙◌, arith}
use Rattle.zone_versions.specs.Held.{counted}
use Rattle.zone_versions.specs.Ways.{lacking_upwards}
use Rattle.zone_versions.proofs.Upwards.{counted_none, counted_le, found_add, found_lacking, some_lacking}
use Rattle.zone_versions.proofs.growing.fill_upwards.Goals as goal

pub returns-in_err-insert-clause-few : goal.returns-in_err-insert-clause-few
returns-in_err-insert-clause-few c =
    let some = some_lacking c.loop-rest.nodes c.loop-rest.rest (sym c.has.ensures ∙ c.loop-rest-test.true) in
    let few : counted c.loop-rest.steps 1 ≤ counted c.loop-rest.steps (lacking_upwards c.loop-rest.nodes c.loop-rest.rest) = counted_le c.loop-rest.steps 1 (lacking_upwards c.loop-rest.nodes c.loop-rest.rest) some in
    omega (arith, few, c.empty-node.ensures.steps, c.loop-rest.invariant.counts)

pub returns-clause-ok : goal.returns-clause-ok
returns-clause-ok c = sym (found_add c.loop-rest.nodes c.loop-rest.rest (sym c.has.ensures ∙ c.loop-rest-test.false)) ∙ c.loop-rest.invariant.grown

pub returns-clause-steps : goal.returns-clause-steps
returns-clause-steps c =
    sym (counted_none c.loop-rest.steps c.loop-rest.invariant.low) ∙ sym (ap (counted c.loop-rest.steps) (found_lacking c.loop-rest.nodes c.loop-rest.rest (sym c.has.ensures ∙ c.loop-rest-test.false)))
    ∙ c.loop-rest.invariant.counts
