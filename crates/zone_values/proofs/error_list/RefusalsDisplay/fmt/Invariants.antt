use Rattle.std.proofs.Common.{take}
use Rattle.std.specs.Prelude.{IfSome}
use Rattle.std.specs.Fmt.{HasWritten, IsPlainFormatter}
use Rattle.zone_values.specs.Texts.{refusals_text}
use Rattle.zone_values.proofs.error_list.RefusalsDisplay.fmt.Given as goal

abbrev pub invariant-loop-entry : goal.invariant-loop-entry
invariant-loop-entry g l =
    IfSome (refusals_text g.T.Display.output (take l.entry-index l.entry-items)) (λ bs. IsPlainFormatter l.initial.f → HasWritten g.W.Write.write_str_gives l.initial.f bs l.f)
