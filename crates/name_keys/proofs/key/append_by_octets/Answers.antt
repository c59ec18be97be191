use Rattle.std.proofs.Common.{length, ap, ◌∙◌, arith}
use Rattle.std.proofs.lemmas.List.{length-set}
use Rattle.name_keys.proofs.Spelling.{one_read}
use Rattle.name_keys.proofs.key.append_by_octets.Goals as goal

pub loop-at-preserved : goal.loop-at-preserved
loop-at-preserved c =
    let s = c.loop-at in
    let r = c.octet_at-octet.result in
    let e = c.octet_at-octet.ensures in
    let one = ap length e.octet in
    let h = s.invariant in
    let more = one_read s.label c.args.piece.now s.len s.at r.1 r.0 (omega (arith, h.0, h.2, one, c.requires.label)) e.octet h.2 h.3 in
    (length-set s.label s.len r.0 ∙ h.0, e.after.1, more.0, more.1)
