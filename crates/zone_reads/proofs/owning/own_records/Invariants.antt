use Rattle.std.proofs.Common.{◌≡◌, ◌++◌, length}
use Rattle.zone_reads.proofs.owning.own_records.Given as goal

-- what is kept, with what is left
abbrev pub invariant-records : goal.invariant-records
invariant-records l = l.kept.items ++ l.records ≡ l.initial.records

abbrev pub decreases-records : goal.decreases-records
decreases-records l = length l.records
