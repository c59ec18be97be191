use Rattle.std.proofs.Common.{◌∙◌, ◌+◌, ◌-◌, sym, ap, arith, Some, length, ◌++◌, ◌∷◌, ◌==◌}
use Rattle.std.specs.Prelude.{if◌then◌else◌}
use Rattle.dns_name.specs.Pieces.{element_of}
use Rattle.dns_name.proofs.WireForms.{wire_invariant, labels_of_wire}
use Rattle.dns_name.proofs.Decoding.{one_less, when_err, within, is_read, has_read_same, has_read_label, has_read_pointer, none_at_element, none_at_end, none_at_pointer, none_at_label}
use Rattle.dns_name.proofs.parsed.decode.Goals as goal
use Rattle.dns_name.proofs.parsed.decode.Goals.{in-Label+in_ok-append_label-in-Label, in-Pointer+else-pointers-eq256}

pub returns-in_err-piece_at-clause-none : goal.returns-in_err-piece_at-clause-none
returns-in_err-piece_at-clause-none c =
    let s = c.loop-step in
    when_err c.from_residual.result
    (none_at_element s.octets c.args.message.now c.args.pos s.pointers s.after (512 - s.step) (512 - (s.step + 1)) s.place s.invariant
    (one_less s.step c.loop-step-test.true) c.in_err-piece_at.ensures.none)

pub from_wire-requires-clause-name : goal.from_wire-requires-clause-name
from_wire-requires-clause-name c =
    let s = c.loop-step in
    let r = is_read s.octets c.append.new.self c.args.message.now c.args.pos s.pointers s.after (512 - s.step) (512 - (s.step + 1)) s.place c.first_end-end.result s.invariant
    (one_less s.step c.loop-step-test.true) (c.in_ok-piece_at.ensures.found ∙ ap (λ p. Some (element_of p)) c.in-Root.is)
    (omega (arith, c.in_ok-append-in-Root.ensures.fits)) c.in_ok-append-in-Root.ensures.ok c.first_end-end.ensures in
    (wire_invariant c.append.new.self r.labels r.wire r.name).0

pub from_wire-requires-clause-wire : goal.from_wire-requires-clause-wire
from_wire-requires-clause-wire c =
    let s = c.loop-step in
    let r = is_read s.octets c.append.new.self c.args.message.now c.args.pos s.pointers s.after (512 - s.step) (512 - (s.step + 1)) s.place c.first_end-end.result s.invariant
    (one_less s.step c.loop-step-test.true) (c.in_ok-piece_at.ensures.found ∙ ap (λ p. Some (element_of p)) c.in-Root.is)
    (omega (arith, c.in_ok-append-in-Root.ensures.fits)) c.in_ok-append-in-Root.ensures.ok c.first_end-end.ensures in
    (wire_invariant c.append.new.self r.labels r.wire r.name).1

pub returns-in-Root-clause-found : goal.returns-in-Root-clause-found
returns-in-Root-clause-found c =
    let s = c.loop-step in
    let r = is_read s.octets c.append.new.self c.args.message.now c.args.pos s.pointers s.after (512 - s.step) (512 - (s.step + 1)) s.place c.first_end-end.result s.invariant
    (one_less s.step c.loop-step-test.true) (c.in_ok-piece_at.ensures.found ∙ ap (λ p. Some (element_of p)) c.in-Root.is)
    (omega (arith, c.in_ok-append-in-Root.ensures.fits)) c.in_ok-append-in-Root.ensures.ok c.first_end-end.ensures in
    let same = c.from_wire.ensures ∙ labels_of_wire c.append.new.self r.labels r.wire r.name in
    r.reads ∙ (λ i. Some (sym same i, c.first_end-end.result))

pub returns-in_err-append_label-in-Label-clause-none : goal.returns-in_err-append_label-in-Label-clause-none
returns-in_err-append_label-in-Label-clause-none c =
    let s = c.loop-step in
    let l = c.in-Label.label.now in
    let g = within c.args.message.now s.place _ _ c.in_ok-piece_at.ensures.inside c.in-Label.is in
    when_err c.from_residual-in_err-append_label-in-Label.result
    (none_at_label s.octets c.args.message.now c.args.pos s.pointers s.after (512 - s.step) (512 - (s.step + 1)) s.place l s.invariant
    (one_less s.step c.loop-step-test.true) (c.in_ok-piece_at.ensures.found ∙ ap (λ p. Some (element_of p)) c.in-Label.is) g.1
    c.in_err-append_label-in-Label.ensures.full)

pub returns-then-pointers-eq256-clause-none : goal.returns-then-pointers-eq256-clause-none
returns-then-pointers-eq256-clause-none c =
    let s = c.loop-step in
    none_at_pointer s.octets c.args.message.now c.args.pos s.pointers s.after (512 - s.step) (512 - (s.step + 1)) s.place c.in-Pointer.offset s.invariant
    (one_less s.step c.loop-step-test.true) (c.in_ok-piece_at.ensures.found ∙ ap (λ p. Some (element_of p)) c.in-Pointer.is) (omega arith)

pub loop-step-preserved : goal.loop-step-preserved
loop-step-preserved c =
    let s = c.loop-step in
    let b = c.match-branch-2 in
    let m = c.args.message.now in
    elim c.match-branch-2.branch [
      | in-Label+in_ok-append_label-in-Label w ↦
          let l = w.in-Label.label.now in
          let g = within m s.place _ _ c.in_ok-piece_at.ensures.inside w.in-Label.is in
          has_read_same (s.octets ++ length l ∷ l) b.octets m c.args.pos s.pointers b.pointers s.after b.after (512 - (s.step + 1)) (s.place + 1 + length l) b.place
          (has_read_label s.octets m c.args.pos s.pointers s.after (512 - s.step) (512 - (s.step + 1)) s.place l s.invariant
          (one_less s.step c.loop-step-test.true) (c.in_ok-piece_at.ensures.found ∙ ap (λ p. Some (element_of p)) w.in-Label.is) g.1)
          (w.octets-is ∙ w.in_ok-append_label-in-Label.ensures.ok) w.pointers-is w.after-is w.place-is
      | in-Pointer+else-pointers-eq256 w ↦
          has_read_same s.octets b.octets m c.args.pos (s.pointers + 1) b.pointers (if s.pointers == 0 then s.place + 2 else s.after) b.after (512 - (s.step + 1)) w.in-Pointer.offset b.place
          (has_read_pointer s.octets m c.args.pos s.pointers s.after (512 - s.step) (512 - (s.step + 1)) s.place w.in-Pointer.offset s.invariant
          (one_less s.step c.loop-step-test.true) (c.in_ok-piece_at.ensures.found ∙ ap (λ p. Some (element_of p)) w.in-Pointer.is)
          (omega (arith, w.if-pointers-eq256.false, s.invariant.few)))
          w.octets-is w.pointers-is (w.after-is ∙ w.first_end-after.ensures) w.place-is
    ]

pub returns-clause-none : goal.returns-clause-none
returns-clause-none c =
    let s = c.loop-step in
    none_at_end s.octets c.args.message.now c.args.pos s.pointers s.after (512 - s.step) s.place s.invariant (omega (arith, c.loop-step-test.false))
