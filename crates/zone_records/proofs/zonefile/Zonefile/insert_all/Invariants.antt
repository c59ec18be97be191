use Rattle.std.proofs.Common.{◌≡◌, length}
use Rattle.std.specs.Vec.Iter.{into_iter_items, into_iter_len}
use Rattle.zone_records.specs.Refusals.{read_all}
use Rattle.zone_records.proofs.zonefile.Zonefile.insert_all.Given as goal

-- With the records that are left, it is what all of them make.
abbrev pub invariant-loop-found : goal.invariant-loop-found
invariant-loop-found l = (read_all (l.self, l.errors) (into_iter_items l.found-iterator) ≡ read_all (l.initial.self, l.initial.errors) (into_iter_items l.initial.found-iterator))
    × (into_iter_len l.found-iterator ≡ length (into_iter_items l.found-iterator))
