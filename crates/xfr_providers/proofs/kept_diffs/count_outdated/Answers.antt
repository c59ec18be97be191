use Rattle.std.specs.Arc.{arc_value}
use Rattle.xfr_providers.proofs.Outdated.{goes_through, none_goes}
use Rattle.xfr_providers.proofs.kept_diffs.count_outdated.Goals as goal

pub overflow_sub-result : goal.overflow_sub-result
overflow_sub-result c = (goes_through arc_value c.args.serial c.args.diffs.now c.starting_at.result.now _ _ c.starting_at.ensures c.in-Some.ensures.cases.0).0

pub returns-in-Some-clause-left : goal.returns-in-Some-clause-left
returns-in-Some-clause-left c = (goes_through arc_value c.args.serial c.args.diffs.now c.starting_at.result.now _ _ c.starting_at.ensures c.in-Some.ensures.cases.0).1

pub returns-in-None-clause-left : goal.returns-in-None-clause-left
returns-in-None-clause-left c = none_goes arc_value c.args.serial c.args.diffs.now c.starting_at.result.now c.starting_at.ensures c.in-None.ensures.cases
