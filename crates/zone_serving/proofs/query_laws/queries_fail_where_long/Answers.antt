use Rattle.zone_serving.proofs.LongQueries.{queries_fail}
use Rattle.zone_serving.proofs.query_laws.queries_fail_where_long.Goals as goal

pub returns : goal.returns
returns g c zone r sent = queries_fail (g.Z.StoredZone.current zone) r sent
