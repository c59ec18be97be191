use Rattle.zone_sync.proofs.ScriptFacts.{script_fits}
use Rattle.zone_sync.proofs.script_laws.scripts_fit.Goals as goal

pub returns : goal.returns
returns c = script_fits
