use Rattle.std.proofs.Common.{sym}
use Rattle.xfr_batch.proofs.BatchHistories.{finishes, finishes_idle}
use Rattle.xfr_batch.proofs.pushing.hand_on_last.Goals as goal

pub returns-in-Some-clause-finishes : goal.returns-in-Some-clause-finishes
returns-in-Some-clause-finishes g c = λ request pushed batches st.
    finishes g.C.Callbacks.begins g.C.Callbacks.is_full g.C.Callbacks.Readies g.C.Error.From.from_gives request c.args.kept.now c.take.new.self c.args.state.now c.batch_ready.new.state c.in-Some.answer
    c.batch_ready.result pushed batches (sym c.in-Some.ensures.value) c.take.ensures.after c.batch_ready.ensures st

pub returns-in-None-clause-finishes : goal.returns-in-None-clause-finishes
returns-in-None-clause-finishes g c = λ request pushed batches st.
    finishes_idle g.C.Callbacks.begins g.C.Callbacks.is_full g.C.Callbacks.Readies g.C.Error.From.from_gives request c.args.kept.now c.take.new.self c.args.state.now tt pushed batches
    (sym c.in-None.ensures.value) c.take.ensures.after st
