use Rattle.std.proofs.Common.{◌≡◌, filter}
use Rattle.zone_versions.specs.Strays.{is_stray_at}
use Rattle.zone_changes.specs.Touched.{noted_all, stray_keys, Keeps}
use Rattle.zone_changes.proofs.touched.TouchedKeys.note_strays.Given as goal

-- With those of the keys left, all are noted; and no key was lost.
abbrev pub invariant-loop-key : goal.invariant-loop-key
invariant-loop-key l =
    (noted_all l.self (filter (is_stray_at l.version) l.key-iterator) ≡ noted_all l.fn.self (stray_keys l.version)) × Keeps l.fn.self l.self
