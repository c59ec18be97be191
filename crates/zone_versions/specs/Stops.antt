-- An entry of a version as a walk shows it.
use Rattle.std.specs.Prelude.{List, [], ◌∷◌, Option, Some, None, is_some}
use Rattle.std.specs.List.{find}
use Rattle.std.specs.Ordering.{is_le}
use Rattle.dns_name.specs.Names.{Name, fold}
use Rattle.zone_model.specs.Version.{RecordSet, Key, Version, key_cmp}
use Rattle.zone_model.specs.Answer.{highest_cut}
use Rattle.zone_model.specs.Walk.{Stop, shown_owner, walk}
use Rattle.zone_values.specs.TypedSets.{TypedSet}

-- the stop of an entry
abbrev pub stop_of : Version → Key × RecordSet → Stop
stop_of v e = record { owner = shown_owner v e.0.0; rtype = e.0.1; contents = e.1; below_cut = is_some (highest_cut v e.0.0) }

abbrev pub first_of : List Stop → Option Stop
first_of [] = None
first_of (s ∷ more) = Some s

-- the first stop of a walk
abbrev pub first_stop : Version → Option Stop
first_stop v = first_of (walk v)

-- the first entry whose owner isn't before a name
abbrev pub first_from : Version → Name → Option (Key × RecordSet)
first_from v n = find (λ (e : Key × RecordSet). is_le (key_cmp (fold n, 0) e.0)) v.sets

-- a set of a walk of the tree, as an entry of the version, and its key
abbrev pub entry_told : Name × TypedSet → Key × RecordSet
entry_told e = ((e.0, e.1.rtype), e.1.contents)

abbrev pub key_told : Name × TypedSet → Key
key_told e = (e.0, e.1.rtype)
