use Rattle.xfr_replies.proofs.PageRooms.{each_fits}
use Rattle.xfr_replies.proofs.laws.messages_are_within_the_limit.Goals as goal

pub returns : goal.returns
returns c = λ request limit singles text pages cut. each_fits request limit singles text pages cut
