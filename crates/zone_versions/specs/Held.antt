-- What nodes hold, as it is kept and told.
use Rattle.std.specs.Prelude.{ℕ, ◌+◌, ◌-◌, ◌^◌, min, List, map, filter, Option, option_map}
use Rattle.std.specs.Ordering.{nat_cmp, is_lt}
use Rattle.std.specs.BTreeMap.{is_at}
use Rattle.std.specs.Map.{lookup}
use Rattle.dns_name.specs.Names.{Name}
use Rattle.zone_model.specs.Version.{RecordSet, Key}
use Rattle.zone_values.specs.TypedSets.{TypedSet}
use Rattle.zone_values.specs.TypedEntries.{typed}
use Rattle.zone_versions.specs.Trees.{NodeSets}

-- a node's set of a type, with it
abbrev pub typed_set_of : NodeSets → ℕ → Option TypedSet
typed_set_of held rtype = option_map (typed rtype) (lookup (is_at (nat_cmp rtype)) held)

-- a node's sets in order, with their types
abbrev pub typed_sets : NodeSets → List TypedSet
typed_sets held = map (λ (e : ℕ × RecordSet). typed e.0 e.1) held

-- a set of a version as a walk gives it: with its owner and type
abbrev pub told : Key × RecordSet → Name × TypedSet
told e = (e.0.0, typed e.0.1 e.1)

-- a node's sets in order, with their owner and types
abbrev pub told_at : Name → List TypedSet → List (Name × TypedSet)
told_at owner sets = map (λ (s : TypedSet). (owner, s)) sets

-- a node's sets of types after one
abbrev pub after_type : ℕ → NodeSets → NodeSets
after_type rtype held = filter (λ (e : ℕ × RecordSet). is_lt (nat_cmp rtype e.0)) held

-- sets in a row by type
abbrev pub held_of : List TypedSet → NodeSets
held_of sets = map (λ (s : TypedSet). (s.rtype, s.contents)) sets

-- the count of nodes after so many more, which stays at the greatest number
abbrev pub counted : ℕ → ℕ → ℕ
counted count more = min (count + more) (2 ^ 64 - 1)
