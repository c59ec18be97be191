use Rattle.std.proofs.Common.{◌≡◌, filter}
use Rattle.dns_name.specs.Names.{under}
use Rattle.zone_model.specs.Version.{Key}
use Rattle.zone_changes.specs.Touched.{noted_all, keys_below, Keeps}
use Rattle.zone_changes.proofs.touched.TouchedKeys.note_under.Given as goal

-- With those of the keys left, all are noted; and no key was lost.
abbrev pub invariant-loop-key : goal.invariant-loop-key
invariant-loop-key l =
    (noted_all l.self (filter (λ (k : Key). under k.0 l.name) l.key-iterator) ≡ noted_all l.fn.self (keys_below l.version l.name)) × Keeps l.fn.self l.self
