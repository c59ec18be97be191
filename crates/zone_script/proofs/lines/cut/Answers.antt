use Rattle.std.proofs.lemmas.List.{take_rest}
use Rattle.zone_script.proofs.CutSteps.{split_found, split_unfound}
use Rattle.zone_script.proofs.lines.cut.Goals as goal

pub returns-in-Some-clause-split : goal.returns-in-Some-clause-split
returns-in-Some-clause-split c = rw take_rest (split_found c.args.at c.args.octets.now c.memchr.result c.in-Some.place c.memchr.ensures c.in-Some.is)

pub returns-in-None-clause-split : goal.returns-in-None-clause-split
returns-in-None-clause-split c = split_unfound c.args.at c.args.octets.now c.memchr.result c.memchr.ensures c.in-None.is
