use Rattle.std.proofs.Common.{rules}
use Rattle.zone_script.proofs.CutSteps.{line_with_end}
use Rattle.zone_script.proofs.lines.next_line.Goals as goal

pub returns-in-Some-clause-found : goal.returns-in-Some-clause-found
returns-in-Some-clause-found c = line_with_end c.args.octets.now c.cut.result.0.now c.in-Some.rest.now (search rules)
