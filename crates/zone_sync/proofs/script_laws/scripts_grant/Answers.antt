use Rattle.zone_sync.specs.Primaries.{refuser}
use Rattle.zone_sync.proofs.Endings.{script_granted}
use Rattle.zone_sync.proofs.script_laws.scripts_grant.Goals as goal

pub returns : goal.returns
returns c = script_granted _ (λ p key a at longest. c.history_primaries_grant.ensures refuser p key a at longest)
