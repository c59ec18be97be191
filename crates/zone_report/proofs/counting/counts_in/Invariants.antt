use Rattle.std.proofs.Common.{◌≡◌, ◌+◌, length}
use Rattle.std.specs.Prelude.{flat_map}
use Rattle.zone_report.specs.Lines.{items_told}
use Rattle.zone_report.proofs.counting.counts_in.Given as goal

-- What is counted, with what is left, is the whole.
abbrev pub invariant-loop-found : goal.invariant-loop-found
invariant-loop-found l = record {
  sets : l.count + length l.found-iterator ≡ length l.fn.sets;
  records : l.records + length (flat_map items_told l.found-iterator) ≡ length (flat_map items_told l.fn.sets);
}
