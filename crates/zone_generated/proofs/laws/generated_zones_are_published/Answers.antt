use Rattle.zone_generated.proofs.Content.{generated_published}
use Rattle.zone_generated.proofs.laws.generated_zones_are_published.Goals as goal

pub returns : goal.returns
returns c = generated_published
