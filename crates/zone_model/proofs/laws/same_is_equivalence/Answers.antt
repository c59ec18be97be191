use Rattle.zone_model.proofs.SameVersions.{same_version_equiv}
use Rattle.zone_model.proofs.laws.same_is_equivalence.Goals as goal

pub returns : goal.returns
returns c = same_version_equiv
