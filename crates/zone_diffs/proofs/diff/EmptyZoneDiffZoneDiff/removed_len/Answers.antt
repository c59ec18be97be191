use Rattle.zone_model.specs.Version.{key_cmp}
use Rattle.zone_model.proofs.Ordered.{sorted_none}
use Rattle.zone_diffs.proofs.diff.EmptyZoneDiffZoneDiff.removed_len.Goals as goal

pub returns-clause-ordered : goal.returns-clause-ordered
returns-clause-ordered c = sorted_none key_cmp
