use Rattle.std.proofs.Common.{refl, inl}
use Rattle.zone_report.proofs.WrittenParts.{wrote_nothing}
use Rattle.zone_asking.specs.Wishes.{wished}
use Rattle.zone_asking.proofs.Dues.{untouched, written_of_transfer, first_due_of_report, wrote_line}
use Rattle.zone_asking.proofs.Ends.{tells_line}
use Rattle.zone_asking.proofs.program.run_script.Goals as goal

pub returns-in-Ok-clause-wrote : goal.returns-in-Ok-clause-wrote
returns-in-Ok-clause-wrote g c = record {
  whole = written_of_transfer (wished (c.args.mode, c.args.limits)) c.args.at c.args.text.now _ _ _ c.run_transfer.result c.in-Ok.script c.in-Ok.ensures.ok c.run_transfer.ensures.written c.run_transfer.ensures.nothing c.run_transfer.ensures.over_streams c.run_transfer.ensures.others;
  part = λ failed. first_due_of_report (wished (c.args.mode, c.args.limits)) c.args.at c.args.text.now _ _ _ c.in-Ok.script c.in-Ok.ensures.ok (c.run_transfer.ensures.part failed);
}

pub returns-in-Err-Line-clause-wrote : goal.returns-in-Err-Line-clause-wrote
returns-in-Err-Line-clause-wrote g c =
    wrote_line _ _ c.args.text.now _ c.in-Err-Line.number _ _ c.write_bad_line.result untouched (rw c.in-Err-Line.field-0-is at c.in-Err-Line.ensures.bad)
    (rw c.in-Err-Line.field-0-is at c.write_bad_line.ensures.written) (rw c.in-Err-Line.field-0-is at c.write_bad_line.ensures.part) c.write_bad_line.ensures.nothing c.write_bad_line.ensures.others

pub returns-in-Err-Line-clause-stream_faults : goal.returns-in-Err-Line-clause-stream_faults
returns-in-Err-Line-clause-stream_faults g c = tells_line _ _ c.write_bad_line.result c.write_bad_line.ensures.others

pub returns-in-Err-Memory-clause-wrote : goal.returns-in-Err-Memory-clause-wrote
returns-in-Err-Memory-clause-wrote g c = wrote_nothing _ _ _ (refl, inl untouched) refl
