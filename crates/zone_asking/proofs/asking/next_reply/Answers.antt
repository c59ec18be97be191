use Rattle.std.proofs.Common.{refl, sym, ap, ◌∙◌, inl, inr, Ok, Err, arith}
use Rattle.std.proofs.lemmas.Result.{err_from_is_err_and}
use Rattle.zone_asking.specs.Streams.{has_id}
use Rattle.zone_asking.proofs.Streams.{reads_reply, reads_over, reads_ended, reads_failed, reads_past}
use Rattle.zone_asking.proofs.asking.next_reply.Goals as goal

pub returns-in_err-message-clause-error : goal.returns-in_err-message-clause-error
returns-in_err-message-clause-error g c =
    let p = err_from_is_err_and c.from_residual.result c.from_residual.ensures.1 in
    let e = c.in_err-message.ensures in
    rw (p.1, p.2) (
      inl (c.in_err-message.field-0.0, refl),
      λ limits replies old so_far.
          reads_failed limits c.args.over replies old (g.S.Source.remaining c.passing.src) (g.S.Source.remaining c.read_frame.new.src) c.passing.left c.in_err-message.field-0.0 (c.passing.invariant.read limits replies old so_far)
          (record { cut = λ h. e.cut (ap Err h); ended = λ h. e.ended (ap Err h); within = e.within }),
    )

pub returns-in_default-clause-none : goal.returns-in_default-clause-none
returns-in_default-clause-none g c h limits replies old so_far =
    reads_ended limits c.args.over replies old (g.S.Source.remaining c.passing.src) (g.S.Source.remaining c.read_frame.new.src) c.passing.left (c.passing.invariant.read limits replies old so_far)
    (c.in_ok-message.ensures.none (ap Ok c.in_default.is)) c.in_ok-message.ensures.most

pub returns-in_err-left-clause-error : goal.returns-in_err-left-clause-error
returns-in_err-left-clause-error g c =
    let p = err_from_is_err_and c.from_residual-in_err-left.result c.from_residual-in_err-left.ensures.1 in
    rw (p.1, p.2) (
      inr (c.in_err-left.field-0.0, refl),
      λ limits replies old so_far.
          reads_past limits c.args.over replies old (g.S.Source.remaining c.passing.src) (g.S.Source.remaining c.read_frame.new.src) c.passing.left c.in-Some.message.items c.in_err-left.field-0.0 c.octets_are_cut_frame_by_frame.ensures.some
          (c.passing.invariant.read limits replies old so_far) (rw c.in-Some.is at c.in_ok-message.ensures.message) (rw c.as_slice.ensures.value at c.in_err-left.ensures.passed),
    )

pub returns-then-not-has_id-clause-reply : goal.returns-then-not-has_id-clause-reply
returns-then-not-has_id-clause-reply g c limits replies old so_far =
    reads_reply limits c.args.over replies old (g.S.Source.remaining c.passing.src) (g.S.Source.remaining c.read_frame.new.src) c.passing.left c.in_ok-left.field-0 c.in-Some.message.items c.octets_are_cut_frame_by_frame.ensures.some
    (c.passing.invariant.read limits replies old so_far) (rw c.in-Some.is at c.in_ok-message.ensures.message) (rw c.as_slice.ensures.value at c.in_ok-left.ensures.left)
    (ap (has_id c.args.over) (sym c.as_slice-in-passing.ensures.value) ∙ sym c.has_id.ensures ∙ c.if-not-has_id.true)

pub passing-preserved : goal.passing-preserved
passing-preserved g c = record {
  faults = c.in_ok-message.ensures.steady (λ h. absurd (cc h)) ∙ c.passing.invariant.faults;
  read = λ limits replies old so_far.
      reads_over limits c.args.over replies old (g.S.Source.remaining c.passing.src) (g.S.Source.remaining c.read_frame.new.src) c.passing.left c.in_ok-left.field-0 c.in-Some.message.items c.octets_are_cut_frame_by_frame.ensures.some
      (c.passing.invariant.read limits replies old so_far) (rw c.in-Some.is at c.in_ok-message.ensures.message) (rw c.as_slice.ensures.value at c.in_ok-left.ensures.left)
      (ap (has_id c.args.over) (sym c.as_slice-in-passing.ensures.value) ∙ sym c.has_id.ensures ∙ c.if-not-has_id.false);
}
