use Rattle.std.proofs.Common.{◌≡◌, sym}
use Rattle.std.specs.Prelude.{Some}
use Rattle.xfr_batch.proofs.BatchHistories.{begun_message, begun_room, tries_next, tries_first}
use Rattle.xfr_batch.proofs.pushing.push_into.Goals as goal

pub returns-in-Some-clause-tries : goal.returns-in-Some-clause-tries
returns-in-Some-clause-tries g c = λ begun had.
    let b = g.C.Callbacks.begins c.args.state.now c.args.request.now in
    let f = g.C.Callbacks.is_full c.args.state.now in
    let is : c.args.kept.now ≡ Some c.in-Some.answer = sym c.in-Some.ensures.value in
    tries_next b f (g.R.ComposeRecord.record_of c.args.item.now) begun c.in-Some.answer c.args.kept.now c.take.new.self c.push_next.new.kept c.push_next.result is c.take.ensures.after had
    (c.push_next.ensures.joins b begun (begun_message b f begun c.in-Some.answer c.args.kept.now is had) (begun_room b f begun c.in-Some.answer c.args.kept.now is had))

pub returns-in-None-clause-tries : goal.returns-in-None-clause-tries
returns-in-None-clause-tries g c = λ begun had.
    tries_first (g.C.Callbacks.begins c.args.state.now c.args.request.now) (g.C.Callbacks.is_full c.args.state.now) (g.R.ComposeRecord.record_of c.args.item.now) begun
    c.args.kept.now c.take.new.self c.push_first.new.kept c.push_first.result (sym c.in-None.ensures.value) c.take.ensures.after had c.push_first.ensures
