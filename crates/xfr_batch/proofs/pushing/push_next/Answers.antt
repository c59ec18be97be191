use Rattle.std.proofs.Common.{refl}
use Rattle.xfr_batch.proofs.BatchAdding.{joins_settled, joins_short, joins_overflow, joins_memory}
use Rattle.xfr_batch.proofs.pushing.push_next.Goals as goal

pub returns-in-Ok-clause-joins : goal.returns-in-Ok-clause-joins
returns-in-Ok-clause-joins g c = λ b begun is room.
    joins_settled b (g.C.Callbacks.is_full c.args.state.now) (g.R.ComposeRecord.record_of c.args.item.now) begun c.args.answer c.push.new.self c.args.kept.now c.settle.new.kept tt c.settle.result is room
    c.in-Ok.ensures.adds c.settle.ensures

pub returns-in-Err-ShortBuf-clause-joins : goal.returns-in-Err-ShortBuf-clause-joins
returns-in-Err-ShortBuf-clause-joins g c = λ b begun is room.
    let adds = rw c.in-Err-ShortBuf.field-0-is at c.in-Err-ShortBuf.ensures.adds in
    joins_short b (g.C.Callbacks.is_full c.args.state.now) (g.R.ComposeRecord.record_of c.args.item.now) begun c.args.answer c.push.new.self c.args.kept.now is room adds

pub returns-in-Err-CountOverflow-clause-joins : goal.returns-in-Err-CountOverflow-clause-joins
returns-in-Err-CountOverflow-clause-joins g c = λ b begun is room.
    let adds = rw c.in-Err-CountOverflow.field-0-is at c.in-Err-CountOverflow.ensures.adds in
    joins_overflow b (g.C.Callbacks.is_full c.args.state.now) (g.R.ComposeRecord.record_of c.args.item.now) begun c.args.answer c.push.new.self c.args.kept.now is room adds

pub returns-in-Err-Memory-clause-joins : goal.returns-in-Err-Memory-clause-joins
returns-in-Err-Memory-clause-joins g c = λ b begun is room.
    let adds = rw c.in-Err-Memory.field-0-is at c.in-Err-Memory.ensures.adds in
    joins_memory b (g.C.Callbacks.is_full c.args.state.now) (g.R.ComposeRecord.record_of c.args.item.now) begun c.args.answer c.push.new.self c.args.kept.now _ is room adds refl
