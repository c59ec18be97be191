use Rattle.xfr_batch.proofs.BatchRooms.{no_room_refused}
use Rattle.xfr_batch.proofs.laws.records_without_room_are_refused.Goals as goal

pub returns : goal.returns
returns g c = λ old new pushed batches r result alike none p.
    no_room_refused g.C.Callbacks.begins g.C.Callbacks.is_full g.C.Callbacks.Readies g.C.Error.From.from_gives old new pushed batches r result alike none p
