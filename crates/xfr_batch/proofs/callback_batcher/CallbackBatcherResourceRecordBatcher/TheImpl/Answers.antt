use Rattle.xfr_batch.proofs.BatchLists.{pushes_one, finishes_all}
use Rattle.xfr_batch.proofs.callback_batcher.CallbackBatcherResourceRecordBatcher.TheImpl.Goals as goal

pub push-tells : goal.push-tells
push-tells g c = λ pushed lists st.
    pushes_one g.C.Callbacks.begins g.C.Callbacks.is_full g.C.Callbacks.Readies g.C.Error.From.from_gives (g.R.ComposeRecord.record_of c.args.item.now)
    c.args.self.now c.new.self.now pushed lists st.batches c.result st.same (c.ensures pushed st.batches st.stands)

pub finish-tells : goal.finish-tells
finish-tells g c = λ pushed lists st.
    finishes_all g.C.Callbacks.begins g.C.Callbacks.is_full g.C.Callbacks.Readies g.C.Error.From.from_gives
    c.args.self.now c.new.self.now pushed lists st.batches c.result st.same (c.ensures pushed st.batches st.stands)
