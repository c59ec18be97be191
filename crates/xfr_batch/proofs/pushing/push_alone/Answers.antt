use Rattle.xfr_batch.proofs.BatchAdding.{opens_settled, opens_refused}
use Rattle.xfr_batch.proofs.pushing.push_alone.Goals as goal

pub returns-in-Ok : goal.returns-in-Ok
returns-in-Ok g c = λ b built.
    opens_settled b (g.C.Callbacks.is_full c.args.state.now) (g.R.ComposeRecord.record_of c.args.item.now) c.args.answer c.push.new.self c.args.kept.now c.settle.new.kept tt c.settle.result built
    c.in-Ok.ensures.adds c.settle.ensures

pub returns-in-Err : goal.returns-in-Err
returns-in-Err g c = λ b built.
    rw c.give_up.ensures.error (opens_refused b (g.C.Callbacks.is_full c.args.state.now) (g.R.ComposeRecord.record_of c.args.item.now) c.args.answer c.push.new.self c.args.kept.now c.give_up.new.kept
    c.in-Err.error built c.in-Err.ensures.adds c.give_up.ensures.none)
