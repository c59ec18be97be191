use Rattle.zone_sync.proofs.HonestCourses.{granted_succeed}
use Rattle.zone_sync.proofs.laws.granted_transfers_succeed.Goals as goal

pub returns : goal.returns
returns c = granted_succeed
