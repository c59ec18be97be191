-- The sets of a difference as they are kept.
use Rattle.std.specs.Prelude.{Bool, ◌==◌, ◌&&◌, not, length}
use Rattle.zone_model.specs.Version.{RecordSet, Key}
use Rattle.zone_values.specs.TypedSets.{TypedSet}
use Rattle.zone_values.specs.TypedEntries.{has_own_type}

-- whether a set is of its key's type, and has data
abbrev pub is_kept : Key × TypedSet → Bool
is_kept e = has_own_type e && not (length e.1.contents.items == 0)

-- whether a set has data
abbrev pub holds_data : Key × RecordSet → Bool
holds_data e = not (length e.1.items == 0)
