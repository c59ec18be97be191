use Rattle.std.proofs.Common.{None}
use Rattle.std.proofs.Common.{Some}
use Rattle.xfr_replies.proofs.Reading.{heads_start}
use Rattle.xfr_replies.proofs.of_difference.first_key.Goals as goal

pub returns-in-Some : goal.returns-in-Some
returns-in-Some c = heads_start c.args.sets.now (Some (c.in-Some.key.now, c.in-Some.field-0-1.now)) c.len-count.ensures.ordered c.len-count.ensures.full c.in-Some.ensures

pub returns-in-None : goal.returns-in-None
returns-in-None c = heads_start c.args.sets.now None c.len-count.ensures.ordered c.len-count.ensures.full c.in-None.ensures
