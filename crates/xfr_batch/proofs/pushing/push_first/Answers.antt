use Rattle.xfr_batch.proofs.BatchAdding.{opens_unbegun}
use Rattle.xfr_batch.proofs.pushing.push_first.Goals as goal

pub returns-in-Ok : goal.returns-in-Ok
returns-in-Ok g c = c.push_alone.ensures (g.C.Callbacks.begins c.args.state.now c.args.request.now) c.in-Ok.ensures

pub returns-in-Err : goal.returns-in-Err
returns-in-Err g c =
    rw c.give_up.ensures.error (opens_unbegun (g.C.Callbacks.begins c.args.state.now c.args.request.now) (g.C.Callbacks.is_full c.args.state.now) (g.R.ComposeRecord.record_of c.args.item.now)
    c.args.kept.now c.give_up.new.kept c.in-Err.error c.in-Err.ensures c.give_up.ensures.none)
