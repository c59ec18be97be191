use Rattle.std.proofs.Common.{subst, sym}
use Rattle.zone_handles.specs.declared.steps.Step.TheVariants.{Read}
use Rattle.zone_handles.specs.Steps.{Leads, events_of}
use Rattle.zone_handles.proofs.Moves.{reads}
use Rattle.zone_handles.proofs.steps.read.Goals as goal

pub returns-clause-made : goal.returns-clause-made
returns-clause-made c =
    subst (λ later. Leads (events_of Read) c.args.session.now c.args.handles.now.items c.handle.new.self later) (sym c.in_ok-keep.ensures.ok)
    (reads c.args.session.now c.handle.new.self c.args.handles.now.items c.handle.new.self.has_handle c.in_ok-handle.handle c.in_ok-handle.ensures.same c.in_ok-handle.ensures.current)
