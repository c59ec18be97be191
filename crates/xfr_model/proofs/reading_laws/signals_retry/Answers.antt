use Rattle.xfr_model.proofs.InTurn.{signals_retry, retry_tells_nothing}
use Rattle.xfr_model.proofs.reading_laws.signals_retry.Goals as goal

pub returns-clause-signal : goal.returns-clause-signal
returns-clause-signal c = signals_retry

pub returns-clause-nothing : goal.returns-clause-nothing
returns-clause-nothing c = retry_tells_nothing
