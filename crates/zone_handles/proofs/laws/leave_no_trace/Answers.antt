use Rattle.zone_handles.proofs.Moves.{leave_no_trace}
use Rattle.zone_handles.proofs.laws.leave_no_trace.Goals as goal

pub returns : goal.returns
returns c = leave_no_trace
