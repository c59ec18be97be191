use Rattle.std.proofs.Common.{refl}
use Rattle.zone_generated.specs.Generated as generated
use Rattle.zone_sync.specs.Primaries.{refuser}
use Rattle.zone_sync.specs.Reported.{generating_provider, generated_asking}
use Rattle.zone_sync.proofs.GeneratedFits.{generated_fits, request_fits}
use Rattle.zone_sync.proofs.number_laws.generated_zones_are_granted.Goals as goal

pub returns : goal.returns
returns c size seed longest some small wide =
    c.history_primaries_grant.ensures refuser (generating_provider size seed) generated.key generated_asking 0 longest refl (generated_fits size seed some small) (request_fits longest wide)
