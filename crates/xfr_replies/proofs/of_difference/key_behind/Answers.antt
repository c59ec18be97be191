use Rattle.std.proofs.Common.{None, Some}
use Rattle.xfr_replies.proofs.Reading.{heads_behind}
use Rattle.xfr_replies.proofs.of_difference.key_behind.Goals as goal

pub returns-in-Some : goal.returns-in-Some
returns-in-Some c = heads_behind c.args.key.now c.args.sets.now (Some (c.in-Some.found.now, c.in-Some.field-0-1.now)) c.len-count.ensures.ordered c.len-count.ensures.full c.in-Some.ensures

pub returns-in-None : goal.returns-in-None
returns-in-None c = heads_behind c.args.key.now c.args.sets.now None c.len-count.ensures.ordered c.len-count.ensures.full c.in-None.ensures
