use Rattle.xfr_replies.proofs.Reading.{next_adds}
use Rattle.xfr_replies.proofs.place.Side.next.Goals as goal

pub returns-then-self : goal.returns-then-self
returns-then-self c = next_adds c.args.self.now c.if-self.true
