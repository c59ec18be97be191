use Rattle.std.proofs.Common.{◌≡◌, take}
use Rattle.zone_handles.specs.Steps.{Leads, events_of_all, wish_after_all}
use Rattle.zone_handles.proofs.steps.make_steps.Given as goal

abbrev pub invariant-steps : goal.invariant-steps
invariant-steps g l = (l.made ≡ l.step-index) × Leads (events_of_all (take l.step-index l.fn.steps)) l.fn.session l.fn.handles.items l.session l.handles.items
    × (l.session.compares ≡ wish_after_all (take l.step-index l.fn.steps) l.fn.session.compares)
