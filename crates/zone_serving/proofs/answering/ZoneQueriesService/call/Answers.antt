use Rattle.zone_serving.proofs.LongQueries.{queries_only}
use Rattle.zone_serving.proofs.answering.ZoneQueriesService.call.Goals as goal

pub returns-clause-failing : goal.returns-clause-failing
returns-clause-failing g c = queries_only _ _ c.args.request.message c.answer.result c.answer.ensures.replies
