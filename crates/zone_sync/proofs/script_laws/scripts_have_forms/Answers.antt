use Rattle.zone_sync.proofs.ScriptFacts.{script_writable}
use Rattle.zone_sync.proofs.script_laws.scripts_have_forms.Goals as goal

pub returns : goal.returns
returns c = script_writable
