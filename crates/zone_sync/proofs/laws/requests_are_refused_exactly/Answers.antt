use Rattle.zone_sync.proofs.Refusing.{refuses_exactly}
use Rattle.zone_sync.proofs.laws.requests_are_refused_exactly.Goals as goal

pub returns : goal.returns
returns c = refuses_exactly
