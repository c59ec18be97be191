use Rattle.std.proofs.Common.{◌≤◌, ◌-◌, ◌^◌, sym, ap, ◌∙◌, arith}
use Rattle.zone_versions.specs.Held.{counted}
use Rattle.zone_versions.specs.Ways.{put_node, lacking_above}
use Rattle.zone_versions.proofs.Named.{on_ok}
use Rattle.zone_versions.proofs.Upwards.{counted_none, not_more, ok_so}
use Rattle.zone_versions.proofs.growing.put_new.Goals as goal

pub returns-then-has_above-clause-ok : goal.returns-then-has_above-clause-ok
returns-then-has_above-clause-ok c = on_ok c.insert.result (λ e. e ∙ sym (c.has_above.ensures.add c.args.node c.if-has_above.true)) c.insert.ensures.ok

pub returns-then-has_above-clause-steps : goal.returns-then-has_above-clause-steps
returns-then-has_above-clause-steps c =
    let low : c.args.steps.now ≤ 2 ^ 64 - 1 = omega arith in
    ok_so c.insert.result (sym (counted_none c.args.steps.now low) ∙ ap (counted c.args.steps.now) (sym (c.has_above.ensures.lacking c.args.node c.if-has_above.true)))

pub returns-then-has_above-clause-few : goal.returns-then-has_above-clause-few
returns-then-has_above-clause-few c =
    let low : c.args.steps.now ≤ 2 ^ 64 - 1 = omega arith in
    not_more c.args.steps.now (lacking_above (put_node c.args.nodes.now c.args.name.now c.args.node) c.args.name.now) low
