use Rattle.message_frames.proofs.Cutting.{octets_again, messages_short, left_none}
use Rattle.message_frames.proofs.laws.frames_cut_are_the_octets.Goals as goal

pub returns-clause-octets : goal.returns-clause-octets
returns-clause-octets c = octets_again

pub returns-clause-lengths : goal.returns-clause-lengths
returns-clause-lengths c = messages_short

pub returns-clause-left : goal.returns-clause-left
returns-clause-left c = left_none
