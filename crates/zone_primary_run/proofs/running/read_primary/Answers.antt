use Rattle.zone_primary_run.proofs.SpeltPrimaries.{script_told, spells}
use Rattle.zone_primary_run.proofs.running.read_primary.Goals as goal

pub make_primary-requires : goal.make_primary-requires
make_primary-requires g c = script_told c.args.text.now c.in_ok-script.script c.in_ok-script.ensures.ok

pub returns : goal.returns
returns g c = spells c.args.text.now c.in_ok-script.script c.in_ok-make_primary.field-0 c.in_ok-script.ensures.ok c.in_ok-make_primary.ensures
