use Rattle.zone_handles.proofs.Moves.{opens_so, drop_abandons}
use Rattle.zone_handles.proofs.laws.sessions_stand.Goals as goal

pub returns : goal.returns
returns c = record { opens = opens_so; dropped = drop_abandons }
