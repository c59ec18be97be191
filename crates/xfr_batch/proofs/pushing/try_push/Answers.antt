use Rattle.xfr_batch.proofs.BatchHistories.{once_kept, once_full, once_short, once_failed, once_never}
use Rattle.xfr_batch.proofs.pushing.try_push.Goals as goal

pub returns-in-Ok-PushedAndReadyForMore : goal.returns-in-Ok-PushedAndReadyForMore
returns-in-Ok-PushedAndReadyForMore g c = λ pushed batches st.
    let tried = rw c.in-Ok-PushedAndReadyForMore.field-0-is at (c.in-Ok-PushedAndReadyForMore.ensures.tries st.begun st.message) in
    once_kept g.C.Callbacks.begins g.C.Callbacks.is_full g.C.Callbacks.Readies g.C.Error.From.from_gives c.args.request.now (g.R.ComposeRecord.record_of c.args.item.now)
    c.args.kept.now c.push_into.new.kept c.args.state.now pushed batches st tried

pub returns-in-Ok-PushedAndLimitReached : goal.returns-in-Ok-PushedAndLimitReached
returns-in-Ok-PushedAndLimitReached g c = λ pushed batches st.
    let tried = rw c.in-Ok-PushedAndLimitReached.field-0-is at (c.in-Ok-PushedAndLimitReached.ensures.tries st.begun st.message) in
    once_full g.C.Callbacks.begins g.C.Callbacks.is_full g.C.Callbacks.Readies g.C.Error.From.from_gives c.args.request.now (g.R.ComposeRecord.record_of c.args.item.now)
    c.args.kept.now c.push_into.new.kept c.args.state.now c.hand_on.new.state c.in-Ok-PushedAndLimitReached.answer c.hand_on.result pushed batches st tried c.hand_on.ensures

pub returns-in-Ok-NotPushedMessageFull : goal.returns-in-Ok-NotPushedMessageFull
returns-in-Ok-NotPushedMessageFull g c = λ pushed batches st.
    let tried = rw c.in-Ok-NotPushedMessageFull.field-0-is at (c.in-Ok-NotPushedMessageFull.ensures.tries st.begun st.message) in
    once_short g.C.Callbacks.begins g.C.Callbacks.is_full g.C.Callbacks.Readies g.C.Error.From.from_gives c.args.request.now (g.R.ComposeRecord.record_of c.args.item.now)
    c.args.kept.now c.push_into.new.kept c.args.state.now c.hand_on-in-Ok-NotPushedMessageFull.new.state c.in-Ok-NotPushedMessageFull.answer c.hand_on-in-Ok-NotPushedMessageFull.result pushed batches st tried
    c.hand_on-in-Ok-NotPushedMessageFull.ensures

pub returns-in-Ok-Retry : goal.returns-in-Ok-Retry
returns-in-Ok-Retry g c = λ pushed batches st.
    let tried = rw c.in-Ok-Retry.field-0-is at (c.in-Ok-Retry.ensures.tries st.begun st.message) in
    once_never g.C.Callbacks.begins g.C.Callbacks.is_full g.C.Callbacks.Readies g.C.Error.From.from_gives c.args.request.now (g.R.ComposeRecord.record_of c.args.item.now)
    st.begun c.args.kept.now c.push_into.new.kept c.args.state.now _ _ pushed batches tried

pub returns-in-Err : goal.returns-in-Err
returns-in-Err g c = λ pushed batches st.
    once_failed g.C.Callbacks.begins g.C.Callbacks.is_full g.C.Callbacks.Readies g.C.Error.From.from_gives c.args.request.now (g.R.ComposeRecord.record_of c.args.item.now)
    c.args.kept.now c.push_into.new.kept c.args.state.now c.in-Err.error c.from.result pushed batches st (c.in-Err.ensures.tries st.begun st.message) c.from.ensures
