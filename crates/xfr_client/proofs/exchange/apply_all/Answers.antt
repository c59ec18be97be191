use Rattle.std.proofs.Common.{refl, sym, ap, inr}
use Rattle.std.proofs.lemmas.Result.{err_from_is_err_and}
use Rattle.xfr_outcomes.specs.ZoneUpdates.{update_of}
use Rattle.xfr_client.proofs.Messages.{halts_there, told_error, told_all}
use Rattle.xfr_client.specs.Steps.{numbers_left}
use Rattle.xfr_client.proofs.Steps.{led_none, wish_stays, wish_on}
use Rattle.xfr_client.proofs.Room.{room_on, room_ends, room_all, left_at_error, room_halts, room_stops, still_low, raised_by, refused_by}
use Rattle.xfr_client.proofs.Growing.{grows_on, grows_still}
use Rattle.xfr_client.proofs.exchange.apply_all.Goals as goal

pub updates-init : goal.updates-init
updates-init met c = (
  λ base before g a. record {
    on = record { progress = g; led = led_none (numbers_left base) g c.args.updates.run.updates; fault = refl; retry = refl; ahead = a };
    room = tt;
  },
  wish_stays c.args.session.now,
  λ low. low,
  grows_still c.args.session.now c.args.session.now c.args.made.now.items c.args.made.now.items refl refl,
)

pub updates-preserved : goal.updates-preserved
updates-preserved met c = (
  λ base before g a.
      let i = c.updates.invariant.0 base before g a in
      room_on c.args.most base before c.updates.updater c.apply_one.new.updater c.updates.session c.apply_one.new.session c.updates.made.items c.apply_one.new.made.items g c.args.updates c.updates.updates c.next_update.new.self (update_of c.in_ok-update.field-0)
      i (rw c.in_ok-update.was at c.in-Some.ensures) (c.in_ok-apply_one.ensures.takes base before i.on.progress i.on.ahead) c.in_ok-apply_one.ensures.room,
  wish_on c.args.session.now c.updates.session c.apply_one.new.session c.updates.invariant.1 c.in_ok-apply_one.ensures.keeps,
  λ low. still_low _ c.apply_one.new.full c.in_ok-apply_one.ensures.room (c.in_ok-apply_one.ensures.full (c.updates.invariant.2 low)),
  grows_on c.args.session.now.past c.updates.session.past c.apply_one.new.session.past c.args.made.now.items c.updates.made.items c.apply_one.new.made.items c.updates.invariant.3 c.in_ok-apply_one.ensures.history,
)

pub returns-in_err-update-clause-takes : goal.returns-in_err-update-clause-takes
returns-in_err-update-clause-takes met c base before g a =
    let i = c.updates.invariant.0 base before g a in
    let p = err_from_is_err_and c.from_residual.result c.from_residual.ensures.1 in
    rw (p.1, p.2) (told_error base before c.updates.updater c.updates.session c.updates.made.items g c.args.updates c.updates.updates c.next_update.new.self c.in_err-update.field-0.0
    i.on (rw c.in_err-update.was at c.in-Some.ensures))

pub returns-clause-takes : goal.returns-clause-takes
returns-clause-takes met c base before g a =
    let i = c.updates.invariant.0 base before g a in
    told_all base before c.updates.updater c.updates.session c.updates.made.items g c.args.updates c.updates.updates c.next_update.new.self i.on c.in_default.ensures

pub returns-in_err-apply_one-clause-takes : goal.returns-in_err-apply_one-clause-takes
returns-in_err-apply_one-clause-takes met c base before g a =
    let i = c.updates.invariant.0 base before g a in
    let p = err_from_is_err_and c.from_residual-in_err-apply_one.result c.from_residual-in_err-apply_one.ensures.1 in
    rw (p.1, p.2) (halts_there base before c.updates.updater c.apply_one.new.updater c.updates.session c.apply_one.new.session c.updates.made.items c.apply_one.new.made.items g c.args.updates c.updates.updates c.next_update.new.self (update_of c.in_ok-update.field-0) c.in_err-apply_one.field-0.0
    i.on (rw c.in_ok-update.was at c.in-Some.ensures) (c.in_err-apply_one.ensures.takes base before i.on.progress i.on.ahead))

pub returns-clause-keeps : goal.returns-clause-keeps
returns-clause-keeps met c = c.updates.invariant.1

pub returns-in_err-update-clause-room : goal.returns-in_err-update-clause-room
returns-in_err-update-clause-room met c base before g a =
    let i = c.updates.invariant.0 base before g a in
    let left = left_at_error c.updates.updates c.next_update.new.self c.in_err-update.field-0.0 (rw c.in_err-update.was at c.in-Some.ensures) in (
      room_ends c.args.most base before c.updates.updater c.updates.session c.updates.session c.updates.made.items c.updates.made.items g c.args.updates c.updates.updates i i.on.ahead.made,
      inr (room_all c.args.most base before c.updates.updater c.updates.session c.updates.made.items g c.args.updates c.updates.updates i left),
    )

pub returns-in_err-apply_one-clause-room : goal.returns-in_err-apply_one-clause-room
returns-in_err-apply_one-clause-room met c base before g a =
    let i = c.updates.invariant.0 base before g a in
    let p = err_from_is_err_and c.from_residual-in_err-apply_one.result c.from_residual-in_err-apply_one.ensures.1 in
    rw (p.1, p.2) (room_halts c.args.most base before c.updates.updater c.apply_one.new.updater c.updates.session c.apply_one.new.session c.updates.made.items c.apply_one.new.made.items g c.args.updates c.updates.updates c.next_update.new.self (update_of c.in_ok-update.field-0) c.in_err-apply_one.field-0.0
    i (rw c.in_ok-update.was at c.in-Some.ensures) (c.in_err-apply_one.ensures.takes base before i.on.progress i.on.ahead) c.in_err-apply_one.ensures.room)

pub returns-clause-room : goal.returns-clause-room
returns-clause-room met c base before g a =
    let i = c.updates.invariant.0 base before g a in (
      room_ends c.args.most base before c.updates.updater c.updates.session c.updates.session c.updates.made.items c.updates.made.items g c.args.updates c.updates.updates i i.on.ahead.made,
      inr (room_all c.args.most base before c.updates.updater c.updates.session c.updates.made.items g c.args.updates c.updates.updates i (ap (λ x. x.run.updates) c.in_default.ensures.0)),
    )

pub returns-in_err-apply_one-clause-full : goal.returns-in_err-apply_one-clause-full
returns-in_err-apply_one-clause-full met c low raised =
    let p = err_from_is_err_and c.from_residual-in_err-apply_one.result c.from_residual-in_err-apply_one.ensures.1 in
    rw (p.1, p.2) (ap refused_by (raised_by _ c.apply_one.new.full c.in_err-apply_one.field-0.0 c.in_err-apply_one.ensures.room (c.in_err-apply_one.ensures.full (c.updates.invariant.2 low)) raised))

pub returns-in_err-apply_one-clause-stops : goal.returns-in_err-apply_one-clause-stops
returns-in_err-apply_one-clause-stops met c base before g a low out =
    let i = c.updates.invariant.0 base before g a in
    room_stops c.args.most base before c.updates.updater c.apply_one.new.updater c.updates.session c.apply_one.new.session c.updates.made.items c.apply_one.new.made.items g c.args.updates c.updates.updates c.next_update.new.self (update_of c.in_ok-update.field-0) c.in_err-apply_one.field-0.0 c.apply_one.new.full
    i (rw c.in_ok-update.was at c.in-Some.ensures) (c.in_err-apply_one.ensures.takes base before i.on.progress i.on.ahead) (sym (c.in_err-apply_one.ensures.full (c.updates.invariant.2 low)))

pub returns-in_err-update-clause-history : goal.returns-in_err-update-clause-history
returns-in_err-update-clause-history met c = c.updates.invariant.3

pub returns-in_err-apply_one-clause-history : goal.returns-in_err-apply_one-clause-history
returns-in_err-apply_one-clause-history met c =
    grows_on c.args.session.now.past c.updates.session.past c.apply_one.new.session.past c.args.made.now.items c.updates.made.items c.apply_one.new.made.items c.updates.invariant.3 c.in_err-apply_one.ensures.history

pub returns-clause-history : goal.returns-clause-history
returns-clause-history met c = c.updates.invariant.3
