use Rattle.message_frames.proofs.Cutting.{cut_none, cut_some}
use Rattle.message_frames.proofs.laws.octets_are_cut_frame_by_frame.Goals as goal

pub returns-clause-none : goal.returns-clause-none
returns-clause-none c = cut_none

pub returns-clause-some : goal.returns-clause-some
returns-clause-some c = cut_some
