use Rattle.std.proofs.Common.{◌∙◌, ◌+◌, ◌-◌, ap, arith, Some, length, ◌==◌}
use Rattle.std.specs.Prelude.{if◌then◌else◌}
use Rattle.dns_name.specs.Pieces.{element_of}
use Rattle.dns_name.proofs.Decoding.{one_less, when_err, within, is_counted, has_counted_same, has_counted_label, has_counted_pointer, none_at_element, none_at_end, none_at_pointer, none_at_label}
use Rattle.dns_name.proofs.parsed.name_end.Goals as goal
use Rattle.dns_name.proofs.parsed.name_end.Goals.{in-Label+else-label-len, in-Pointer+else-pointers-gt255}

pub returns-in_err-piece_at-clause-none : goal.returns-in_err-piece_at-clause-none
returns-in_err-piece_at-clause-none c =
    let s = c.loop-step in
    when_err c.from_residual.result
    (none_at_element s.invariant.octets c.args.message.now c.args.pos s.pointers s.after (512 - s.step) (512 - (s.step + 1)) s.place s.invariant.read
    (one_less s.step c.loop-step-test.true) c.in_err-piece_at.ensures.none)

pub returns-in-Root-clause-found : goal.returns-in-Root-clause-found
returns-in-Root-clause-found c =
    let s = c.loop-step in
    is_counted s.len c.args.message.now c.args.pos s.pointers s.after (512 - s.step) (512 - (s.step + 1)) s.place c.first_end.result s.invariant
    (one_less s.step c.loop-step-test.true) (c.in_ok-piece_at.ensures.found ∙ ap (λ p. Some (element_of p)) c.in-Root.is)
    (omega (arith, c.if-len-eq255.false, s.invariant.short)) c.first_end.ensures

pub returns-then-label-len-clause-none : goal.returns-then-label-len-clause-none
returns-then-label-len-clause-none c =
    let s = c.loop-step in
    let l = c.in-Label.label.now in
    let g = within c.args.message.now s.place _ _ c.in_ok-piece_at.ensures.inside c.in-Label.is in
    none_at_label s.invariant.octets c.args.message.now c.args.pos s.pointers s.after (512 - s.step) (512 - (s.step + 1)) s.place l s.invariant.read
    (one_less s.step c.loop-step-test.true) (c.in_ok-piece_at.ensures.found ∙ ap (λ p. Some (element_of p)) c.in-Label.is) g.1
    (omega (arith, c.if-label-len.true, s.invariant.long))

pub returns-then-pointers-gt255-clause-none : goal.returns-then-pointers-gt255-clause-none
returns-then-pointers-gt255-clause-none c =
    let s = c.loop-step in
    none_at_pointer s.invariant.octets c.args.message.now c.args.pos s.pointers s.after (512 - s.step) (512 - (s.step + 1)) s.place c.in-Pointer.offset s.invariant.read
    (one_less s.step c.loop-step-test.true) (c.in_ok-piece_at.ensures.found ∙ ap (λ p. Some (element_of p)) c.in-Pointer.is) (omega arith)

pub loop-step-preserved : goal.loop-step-preserved
loop-step-preserved c =
    let s = c.loop-step in
    let b = c.match-branch-2 in
    let m = c.args.message.now in
    elim c.match-branch-2.branch [
      | in-Label+else-label-len w ↦
          let l = w.in-Label.label.now in
          let g = within m s.place _ _ c.in_ok-piece_at.ensures.inside w.in-Label.is in
          has_counted_same (s.len + 1 + length l) b.len m c.args.pos s.pointers b.pointers s.after b.after (512 - (s.step + 1)) (s.place + 1 + length l) b.place
          (has_counted_label s.len m c.args.pos s.pointers s.after (512 - s.step) (512 - (s.step + 1)) s.place l s.invariant
          (one_less s.step c.loop-step-test.true) (c.in_ok-piece_at.ensures.found ∙ ap (λ p. Some (element_of p)) w.in-Label.is) g.1
          (omega (arith, w.if-label-len.false, s.invariant.short)))
          w.len-is w.pointers-is w.after-is w.place-is
      | in-Pointer+else-pointers-gt255 w ↦
          has_counted_same s.len b.len m c.args.pos (s.pointers + 1) b.pointers (if s.pointers == 0 then s.place + 2 else s.after) b.after (512 - (s.step + 1)) w.in-Pointer.offset b.place
          (has_counted_pointer s.len m c.args.pos s.pointers s.after (512 - s.step) (512 - (s.step + 1)) s.place w.in-Pointer.offset s.invariant
          (one_less s.step c.loop-step-test.true) (c.in_ok-piece_at.ensures.found ∙ ap (λ p. Some (element_of p)) w.in-Pointer.is)
          (omega (arith, w.if-pointers-gt255.false, s.invariant.read.few)))
          w.len-is w.pointers-is (w.after-is ∙ w.first_end-after.ensures) w.place-is
    ]

pub returns-clause-none : goal.returns-clause-none
returns-clause-none c =
    let s = c.loop-step in
    none_at_end s.invariant.octets c.args.message.now c.args.pos s.pointers s.after (512 - s.step) s.place s.invariant.read (omega (arith, c.loop-step-test.false))
