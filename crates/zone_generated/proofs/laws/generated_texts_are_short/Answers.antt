use Rattle.zone_generated.proofs.ShortTexts.{generated_short, generated_few}
use Rattle.zone_generated.proofs.laws.generated_texts_are_short.Goals as goal

pub returns-clause-each : goal.returns-clause-each
returns-clause-each c = generated_short

pub returns-clause-few : goal.returns-clause-few
returns-clause-few c = generated_few
