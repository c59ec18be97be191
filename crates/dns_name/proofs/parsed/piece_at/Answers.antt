use Rattle.std.proofs.Common.{get_or, arith}
use Rattle.dns_name.proofs.Elements.{element_reserved, element_cut, element_pointer, element_ahead, label_within}
use Rattle.dns_name.proofs.parsed.piece_at.Goals as goal
use Rattle.dns_name.proofs.parsed.piece_at.Goals.{then-first-lt192-via-then-first-lt192, then-first-lt192-via-else-first-lt192+then-len-pos-lt2}

pub returns-then-first-lt64-clause-inside : goal.returns-then-first-lt64-clause-inside
returns-then-first-lt64-clause-inside c =
    let m = c.args.message.now in
    let p = c.args.pos in
    label_within m p _ _ (get_or m p 0) (λ k. let f = c.type_inv.message k in omega (arith, f)) c.if-first-lt64.true c.if-first-eq0.false (omega (arith, c.if-pos-len.false, c.if-first-len.false)) (omega arith) (omega arith)

pub returns-then-first-lt192-clause-none : goal.returns-then-first-lt192-clause-none
returns-then-first-lt192-clause-none c =
    let m = c.args.message.now in
    let p = c.args.pos in
    elim c.then-first-lt192.branch [
      | then-first-lt192-via-then-first-lt192 w ↦ element_reserved m p c.if-pos-len.false c.if-first-lt64.false w.if-first-lt192.true
      | then-first-lt192-via-else-first-lt192+then-len-pos-lt2 w ↦ element_cut m p c.if-pos-len.false w.if-len-pos-lt2.true c.if-first-lt64.false
    ]

pub returns-then-offset-pos-clause-found : goal.returns-then-offset-pos-clause-found
returns-then-offset-pos-clause-found c = element_pointer c.args.message.now c.args.pos (omega arith) c.if-first-lt192.false c.if-offset-pos.true

pub returns-else-offset-pos-clause-none : goal.returns-else-offset-pos-clause-none
returns-else-offset-pos-clause-none c = element_ahead c.args.message.now c.args.pos (omega arith) c.if-first-lt192.false c.if-offset-pos.false
