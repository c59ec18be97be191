-- Sets with their type, as they are kept and told (RFC 2181, 5).
use Rattle.std.specs.Prelude.{ℕ, Bool, ◌==◌, Option, option_map}
use Rattle.zone_model.specs.Version.{RecordSet, Key, Sets, set_in}
use Rattle.zone_values.specs.TypedSets.{TypedSet}

-- a set with its type
abbrev pub typed : ℕ → RecordSet → TypedSet
typed rtype s = record { rtype = rtype; contents = s }

-- a set without it, where there is one
abbrev pub untyped : Option TypedSet → Option RecordSet
untyped found = option_map (λ (s : TypedSet). s.contents) found

-- an entry with the type that its key has
abbrev pub item_of : Key × RecordSet → Key × TypedSet
item_of e = (e.0, typed e.0.1 e.1)

-- an entry without it
abbrev pub entry_of : Key × TypedSet → Key × RecordSet
entry_of e = (e.0, e.1.contents)

-- whether a set is of its key's type
abbrev pub has_own_type : Key × TypedSet → Bool
has_own_type e = e.1.rtype == e.0.1

-- the set of an owner and type with its type
abbrev pub typed_set_in : Sets → Key → Option TypedSet
typed_set_in sets k = option_map (typed k.1) (set_in sets k)
