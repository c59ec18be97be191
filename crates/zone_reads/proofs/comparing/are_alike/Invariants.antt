use Rattle.std.proofs.Common.{length, ◌≡◌}
use Rattle.std.specs.Cmp.Lexicographic.{pointwise}
use Rattle.std.specs.Slice.Iter.{iter_rest}
use Rattle.dns_name.specs.Records.{same_data}
use Rattle.dns_rdata.specs.ZoneData.{data_fields}
use Rattle.zone_reads.proofs.comparing.are_alike.Given as goal

abbrev pub invariant-loop-item : goal.invariant-loop-item
invariant-loop-item l = pointwise (λ x y. same_data (data_fields x) (data_fields y)) (iter_rest l.initial.ones) (iter_rest l.initial.others) ≡ pointwise (λ x y. same_data (data_fields x) (data_fields y)) (iter_rest l.ones) (iter_rest l.others)

abbrev pub decreases-loop-item : goal.decreases-loop-item
decreases-loop-item l = length (iter_rest l.ones)
