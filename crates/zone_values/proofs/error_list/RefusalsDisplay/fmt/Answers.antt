use Rattle.std.proofs.Common.{ℕ, List, Option, subst, sym, take}
use Rattle.std.specs.Prelude.{IfSome}
use Rattle.std.specs.Fmt.{HasWritten, IsPlainFormatter}
use Rattle.zone_values.specs.Texts.{refusal_text, refusals_text}
use Rattle.zone_values.proofs.Printed.{first_more, then_written}
use Rattle.zone_values.proofs.error_list.RefusalsDisplay.fmt.Goals as goal

pub loop-entry-preserved : goal.loop-entry-preserved
loop-entry-preserved g c =
    let took = g.W.Write.write_str_gives in
    let text = g.T.Display.output in
    let f = c.args.f.now in
    let e = c.entry-item.result in
    let i = c.loop-entry.entry-index in
    let all = c.args.self.now.errors.now in
    let now = c.write.new.self in
    subst (λ (o : Option (List ℕ)). IfSome o (λ bs. IsPlainFormatter f → HasWritten took f bs now)) (sym (first_more text all i e c.loop-entry-test.true c.entry-item.is))
    (then_written took f c.loop-entry.f now (refusals_text text (take i all)) (refusal_text text e) c.in_ok-write.field-0 c.loop-entry.invariant c.in_ok-write.ensures.writes)
