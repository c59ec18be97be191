use Rattle.std.proofs.Common.{refl, inl}
use Rattle.zone_report.specs.declared.status.Status.TheVariants.{SourceFault, TooLong}
use Rattle.zone_sync.proofs.Dues.{untouched, written_of_source, first_of_source}
use Rattle.zone_report.proofs.WrittenParts.{along, wrote_last, wrote_nothing, is_told}
use Rattle.zone_sync.proofs.ScriptRuns.{script_runs}
use Rattle.zone_sync.proofs.program.run_gated.Goals as goal

pub returns-in-Ok-clause-wrote : goal.returns-in-Ok-clause-wrote
returns-in-Ok-clause-wrote g c =
    let read = along _ c.in-Ok.text.items c.as_slice.result.now c.in-Ok.ensures.all c.as_slice.ensures.value in
    record {
      whole = λ no_sink. written_of_source _ _ _ c.as_slice.result.now _ _ _ c.run_script.result read (c.run_script.ensures.wrote.whole no_sink);
      part = λ failed. first_of_source _ _ _ c.as_slice.result.now _ _ _ read (c.run_script.ensures.wrote.part failed);
    }

pub returns-in-Err-Failed-clause-wrote : goal.returns-in-Err-Failed-clause-wrote
returns-in-Err-Failed-clause-wrote g c = wrote_last _ _ SourceFault _ _ _ (refl, untouched) c.write_last.ensures.done c.write_last.ensures.written c.write_last.ensures.part

pub returns-in-Err-TooLong-clause-wrote : goal.returns-in-Err-TooLong-clause-wrote
returns-in-Err-TooLong-clause-wrote g c = wrote_last _ _ TooLong _ _ _ (refl, untouched) c.write_last-in-Err-TooLong.ensures.done c.write_last-in-Err-TooLong.ensures.written c.write_last-in-Err-TooLong.ensures.part

pub returns-in-Err-Memory-clause-wrote : goal.returns-in-Err-Memory-clause-wrote
returns-in-Err-Memory-clause-wrote g c = wrote_nothing _ _ _ (refl, inl untouched) refl

pub returns-in-Ok-clause-by_script : goal.returns-in-Ok-clause-by_script
returns-in-Ok-clause-by_script g c = λ text had.
    let same = is_told _ text c.in-Ok.text.items c.as_slice.result.now had c.in-Ok.ensures.all c.as_slice.ensures.value in
    let sink = c.run_script.ensures.sink_faults in
    script_runs _ text c.as_slice.result.now c.in-Ok.text.items _ _ _ _ _ c.run_script.result same c.as_slice.ensures.value c.in-Ok.ensures.bounded sink c.run_script.ensures.link_faults c.run_script.ensures.delivers c.run_script.ensures.script c.run_script.ensures.bad_script c.run_script.ensures.others
