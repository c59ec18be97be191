use Rattle.zone_handles.proofs.Moves.{commit_leads}
use Rattle.zone_handles.proofs.steps.commit.Goals as goal

pub returns-clause-made : goal.returns-clause-made
returns-clause-made g c = λ handles. commit_leads c.args.bumps c.args.session.now c.publish.new.session handles c.in_ok-publish.ensures.ok
