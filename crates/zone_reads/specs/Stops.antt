-- Sets of a walk: two that are the same but for the order of their data and the case of letters, and that each set has one stop.
use Rattle.std.specs.Prelude.{◌≡◌, Bool, map}
use Rattle.std.specs.List.Sorted.{IsStrictlySortedBy}
use Rattle.dns_name.specs.Names.{Name, fold}
use Rattle.zone_model.specs.Version.{RecordSet, Key, Version, IsValid, key_cmp, same_entry}
use Rattle.zone_model.specs.Walk.{Stop, walk}
use Rattle.zone_values.specs.TypedSets.{TypedSet}
use Rattle.zone_versions.specs.Stops.{entry_told}

-- sets as the tree of a version gives them
abbrev pub same_told : Name × TypedSet → Name × TypedSet → Bool
same_told s t = same_entry (entry_told s) (entry_told t)

-- where a stop's set stands in the version, and the set
abbrev pub key_of : Stop → Key
key_of s = (fold s.owner, s.rtype)

abbrev pub entry_of : Stop → Key × RecordSet
entry_of s = (key_of s, s.contents)

-- the stops of a published version are its sets, each once, in the canonical order of their owners and types (RFC 4034, 6.1)
abbrev pub VisitsOnce : Type 0
VisitsOnce = (v : Version) → IsValid v → (map entry_of (walk v) ≡ v.sets) × IsStrictlySortedBy key_cmp (map key_of (walk v))
