use Rattle.std.proofs.Common.{◌≡◌, ◌++◌, length}
use Rattle.std.specs.Vec.Iter.{into_iter_items, into_iter_len}
use Rattle.zone_values.specs.Invalid.{invalid_records}
use Rattle.zone_values.proofs.error_list.ZoneErrors+ContextError.into_record_errors.Given as goal

-- With those that are left, they are all.
abbrev pub invariant-loop-name : goal.invariant-loop-name
invariant-loop-name l = (l.errors ++ invalid_records (into_iter_items l.name-iterator) ≡ invalid_records (into_iter_items l.initial.name-iterator)) × (into_iter_len l.name-iterator ≡ length (into_iter_items l.name-iterator))
