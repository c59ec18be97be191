use Rattle.std.proofs.Common.{rules, ◌≡◌, [], sym, ap, ◌∙◌, arith, length}
use Rattle.std.specs.Vec.Iter.{into_iter_items}
use Rattle.zone_primary_run.specs.ScriptPrimaries.{pushed_all, versions_of}
use Rattle.zone_primary_run.proofs.Pushes.{first_may, one_pushed, none_left}
use Rattle.zone_primary_run.proofs.making.push_all.Goals as goal

pub push-requires : goal.push-requires
push-requires c =
    first_may c.loop-handle.provider.kept (c.in-Some.handle, c.in-Some.difference) (into_iter_items c.next.new.self) (into_iter_items c.loop-handle.handle-iterator) c.in-Some.ensures.steps.0 c.loop-handle.invariant.1

-- One more.
pub loop-handle-preserved : goal.loop-handle-preserved
loop-handle-preserved c =
    let at = c.loop-handle in
    let rest = into_iter_items c.next.new.self in
    let steps = c.in-Some.ensures.steps.0 in
    let pushed = one_pushed at.provider c.push.new.self _ (c.in-Some.handle, c.in-Some.difference) rest (into_iter_items at.handle-iterator) steps at.invariant.1 at.invariant.0 c.in_ok-push.ensures.ok in (
      pushed.0,
      pushed.1,
      let was = at.invariant.2 in
          let gone = c.in-Some.ensures.steps.1 in
          let short = ap length steps in
          omega arith,
      search rules,
    )

-- None is left.
pub returns-clause-pushed : goal.returns-clause-pushed
returns-clause-pushed c =
    let at = c.loop-handle in
    let empty : into_iter_items at.handle-iterator ≡ [] = none_left _ (sym at.invariant.2 ∙ c.in-None.ensures.steps.0) in
    ap (λ cs. pushed_all at.provider (versions_of cs)) (sym empty) ∙ at.invariant.0
    ∙ ap (λ cs. pushed_all c.args.provider.now (versions_of cs)) (c.into_iter-handle-iterator.ensures.into_iter_gives.0 ∙ c.into_entries-handle-items.ensures)
