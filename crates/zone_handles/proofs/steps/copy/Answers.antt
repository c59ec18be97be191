use Rattle.std.proofs.Common.{◌≡◌, ◌∙◌, ap, Some, slice_get, subst, sym}
use Rattle.zone_handles.specs.declared.steps.Step.TheVariants.{Copy}
use Rattle.zone_handles.specs.Steps.{Leads, events_of}
use Rattle.zone_handles.proofs.Moves.{got, copies}
use Rattle.zone_handles.proofs.steps.copy.Goals as goal

pub returns-clause-made : goal.returns-clause-made
returns-clause-made c =
    let found : slice_get c.args.handles.now.items c.args.handle ≡ Some c.in_ok-copied.copied =
    ap (λ xs. slice_get xs c.args.handle) (sym c.deref.ensures.value) ∙ got c.deref.result.now c.args.handle c.in-Some.found c.in-Some.ensures.lookup ∙ ap Some (sym c.in_ok-copied.ensures.cases) in
    λ s. subst (λ later. Leads (events_of (Copy c.args.handle)) s c.args.handles.now.items s later) (sym c.in_ok-keep.ensures.ok) (copies s c.args.handles.now.items c.args.handle c.in_ok-copied.copied found)
