use Rattle.std.proofs.Common.{◌≡◌, ◌++◌, length}
use Rattle.std.specs.Prelude.{flat_map}
use Rattle.dns_rdata.specs.Records.{record_wire}
use Rattle.zone_report.specs.Lines.{query_lines}
use Rattle.zone_report.proofs.answers.append_answers.Given as goal

abbrev pub invariant-queries : goal.invariant-queries
invariant-queries l = l.out.items ++ flat_map (query_lines record_wire l.zone.version) l.rest ≡ l.initial.out.items ++ flat_map (query_lines record_wire l.zone.version) l.queries

abbrev pub decreases-queries : goal.decreases-queries
decreases-queries l = length l.rest
