use Rattle.std.proofs.Common.{refl}
use Rattle.zone_report.proofs.WrittenParts.{wrote_last, wrote_nothing}
use Rattle.zone_sync.proofs.Numbers.{numbers_due, tells_numbers, tells_memory}
use Rattle.zone_sync.proofs.program.run_generated.Goals as goal

pub returns-in-Ok-clause-wrote : goal.returns-in-Ok-clause-wrote
returns-in-Ok-clause-wrote g c =
    wrote_last _ c.as_slice.result.now c.in-Ok.status c.write_last.result _ _ (rw c.as_slice.ensures.value (numbers_due _ c.args.size c.args.seed _ c.in-Ok.report.items c.in-Ok.status c.in-Ok.ensures.report))
    c.write_last.ensures.done c.write_last.ensures.written c.write_last.ensures.part

pub returns-in-Ok-clause-by_numbers : goal.returns-in-Ok-clause-by_numbers
returns-in-Ok-clause-by_numbers g c =
    tells_numbers _ c.args.size c.args.seed _ c.in-Ok.report.items c.in-Ok.status c.write_last.result _ _ c.in-Ok.ensures.report c.write_last.ensures.done c.write_last.ensures.sink_faults c.in-Ok.ensures.link_fault
    (λ long. c.generated_zones_are_granted.ensures c.args.size c.args.seed _ c.requires.some c.requires.most long)

pub returns-in-Err-clause-wrote : goal.returns-in-Err-clause-wrote
returns-in-Err-clause-wrote g c = wrote_nothing _ _ _ (refl, c.transfer_generated.ensures.over_link) refl

pub returns-in-Err-clause-by_numbers : goal.returns-in-Err-clause-by_numbers
returns-in-Err-clause-by_numbers g c = tells_memory _ _ _
