use Rattle.std.proofs.Common.{rules, refl, inl}
use Rattle.xfr_outcomes.specs.Modes.{mode_of}
use Rattle.zone_sync.specs.Primaries.{refuser}
use Rattle.zone_sync.proofs.Dues.{untouched, script_told, written_of_transfer, first_due_of_report, wrote_line}
use Rattle.zone_report.proofs.WrittenParts.{wrote_nothing}
use Rattle.zone_sync.proofs.Endings.{delivers_so}
use Rattle.zone_sync.proofs.program.run_script.Goals as goal

pub run_transfer-requires : goal.run_transfer-requires
run_transfer-requires g c = (search rules, (search rules, script_told c.args.text.now c.in-Ok.script c.in-Ok.ensures.ok))

pub returns-in-Ok-clause-wrote : goal.returns-in-Ok-clause-wrote
returns-in-Ok-clause-wrote g c = record {
  whole = written_of_transfer _ (mode_of c.args.mode) c.args.readers c.args.text.now _ _ _ c.run_transfer.result c.in-Ok.script c.in-Ok.ensures.ok c.run_transfer.ensures.written c.run_transfer.ensures.nothing c.run_transfer.ensures.over_link c.run_transfer.ensures.others;
  part = λ failed. first_due_of_report _ (mode_of c.args.mode) c.args.readers c.args.text.now _ _ _ c.in-Ok.script c.in-Ok.ensures.ok (c.run_transfer.ensures.part failed);
}

pub returns-in-Err-Line-clause-wrote : goal.returns-in-Err-Line-clause-wrote
returns-in-Err-Line-clause-wrote g c =
    wrote_line _ _ c.args.text.now _ c.in-Err-Line.number _ _ c.write_bad_line.result untouched (rw c.in-Err-Line.field-0-is at c.in-Err-Line.ensures.bad)
    (rw c.in-Err-Line.field-0-is at c.write_bad_line.ensures.written) (rw c.in-Err-Line.field-0-is at c.write_bad_line.ensures.part) c.write_bad_line.ensures.nothing c.write_bad_line.ensures.others

pub returns-in-Ok-clause-delivers : goal.returns-in-Ok-clause-delivers
returns-in-Ok-clause-delivers g c script key spelt fits honest no_sink =
    delivers_so _ (λ p key a at longest. c.history_primaries_grant.ensures refuser p key a at longest) (mode_of c.args.mode) c.args.readers c.args.text.now script key _ _ _ spelt fits honest _ c.run_transfer.result c.run_transfer.ensures.others
    c.run_transfer.ensures.sink_faults.fault ((returns-in-Ok-clause-wrote g c).whole) no_sink

pub returns-in-Err-Memory-clause-wrote : goal.returns-in-Err-Memory-clause-wrote
returns-in-Err-Memory-clause-wrote g c = wrote_nothing _ _ _ (refl, inl untouched) refl
