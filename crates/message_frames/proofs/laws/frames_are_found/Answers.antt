use Rattle.message_frames.proofs.Cutting.{frame_found}
use Rattle.message_frames.proofs.laws.frames_are_found.Goals as goal

pub returns : goal.returns
returns c = frame_found
