use Rattle.std.proofs.Common.{◌≡◌, ◌++◌}
use Rattle.std.specs.Prelude.{flat_map}
use Rattle.dns_rdata.specs.Records.{record_wire}
use Rattle.zone_model.specs.Walk.{walk}
use Rattle.zone_report.specs.Lines.{stop_lines}
use Rattle.zone_report.proofs.walk_lines.append_walk.Given as goal

abbrev pub invariant-loop-stop : goal.invariant-loop-stop
invariant-loop-stop l = l.out.items ++ flat_map (stop_lines record_wire l.zone.version) l.stop-iterator ≡ l.initial.out.items ++ flat_map (stop_lines record_wire l.zone.version) (walk l.zone.version)
