use Rattle.zone_versions.proofs.Few.{few_built}
use Rattle.zone_versions.proofs.laws.few_nodes_are_built.Goals as goal

pub returns : goal.returns
returns c = few_built
