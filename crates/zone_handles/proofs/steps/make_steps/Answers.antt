use Rattle.std.proofs.Common.{◌≡◌, ◌+◌, [], ◌∷◌, ◌++◌, ◌∙◌, ap, subst, sym, take}
use Rattle.std.specs.Prelude.{OnOk}
use Rattle.std.proofs.lemmas.List.{take_more}
use Rattle.zone_handles.specs.Steps.{Leads, events_of, events_of_all, wish_after, wish_after_all}
use Rattle.zone_handles.proofs.Moves.{one_step_more, wish_more}
use Rattle.zone_handles.proofs.steps.make_steps.Goals as goal

pub steps-preserved : goal.steps-preserved
steps-preserved g c =
    let step = c.step-item.result in
    let before = take c.steps.step-index c.args.steps.now in
    let t = c.make_step-next.result.0 in
    let all = c.make_step-next.new.handles.items in
    let more : take (c.steps.step-index + 1) c.args.steps.now ≡ before ++ step ∷ [] =
    take_more c.args.steps.now c.steps.step-index step c.steps-test.true ∙ ap (λ x. before ++ x ∷ []) (sym c.step-item.is) in
    let made = subst (λ r. OnOk r (Leads (events_of step) c.steps.session c.steps.handles.items t all)) c.in_default.is c.make_step-next.ensures.made in
    let wish = subst (λ r. OnOk r (t.compares ≡ wish_after step c.steps.session.compares)) c.in_default.is c.make_step-next.ensures.wish in (
      ap (λ n. n + 1) c.steps.invariant.0,
      subst (λ xs. Leads (events_of_all xs) c.args.session c.args.handles.now.items t all) (sym more)
          (one_step_more before step c.args.session c.steps.session t c.args.handles.now.items c.steps.handles.items all c.steps.invariant.1 made),
      wish ∙ ap (wish_after step) c.steps.invariant.2 ∙ sym (wish_more before step c.args.session.compares) ∙ ap (λ xs. wish_after_all xs c.args.session.compares) (sym more),
    )
