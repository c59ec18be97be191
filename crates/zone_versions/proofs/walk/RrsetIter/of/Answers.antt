use Rattle.zone_versions.proofs.Stops.{stops_told}
use Rattle.zone_versions.proofs.walk.RrsetIter.of.Goals as goal

pub returns : goal.returns
returns c = stops_told c.args.version.now c.sets.result c.sets.ensures.is
