use Rattle.message_frames.proofs.Cutting.{written_alone, written_before}
use Rattle.message_frames.proofs.laws.frames_written_are_cut.Goals as goal

pub returns-clause-alone : goal.returns-clause-alone
returns-clause-alone c = written_alone

pub returns-clause-before : goal.returns-clause-before
returns-clause-before c = written_before
