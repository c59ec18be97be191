use Rattle.xfr_batch.specs.Batches.{batching}
use Rattle.xfr_batch.proofs.BatchRooms.{gains}
use Rattle.xfr_batch.proofs.BatchHistories.{twice}
use Rattle.xfr_batch.proofs.pushing.push_or_retry.Goals as goal

pub returns-in-Ok-true : goal.returns-in-Ok-true
returns-in-Ok-true g c = λ pushed batches st.
    gains g.C.Callbacks.begins g.C.Callbacks.is_full g.C.Callbacks.Readies (g.R.ComposeRecord.record_of c.args.item.now) (batching c.args.request.now c.args.kept.now c.args.state.now)
    (batching c.args.request.now c.try_push.new.kept c.try_push.new.state) pushed batches st (rw c.in-Ok-true.field-0-test at (c.in-Ok-true.ensures pushed batches st))

pub returns-in-Ok-false : goal.returns-in-Ok-false
returns-in-Ok-false g c = λ pushed batches st.
    let tried = rw c.in-Ok-false.field-0-test at (c.in-Ok-false.ensures pushed batches st) in
    twice g.C.Callbacks.begins g.C.Callbacks.is_full g.C.Callbacks.Readies g.C.Error.From.from_gives c.args.request.now (g.R.ComposeRecord.record_of c.args.item.now)
    c.args.kept.now c.try_push.new.kept c.push_again.new.kept c.args.state.now c.try_push.new.state c.push_again.new.state c.push_again.result pushed batches st tried c.push_again.ensures
