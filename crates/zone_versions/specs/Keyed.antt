-- Nodes as they are kept: by the keys of their names.
use Rattle.std.specs.Prelude.{ℕ, Bool, false, ◌&&◌, ◌==◌, not, List, length, filter, map, Option, Some, None}
use Rattle.std.specs.Ordering.{is_eq, is_le}
use Rattle.std.specs.List.{AllByRecursion}
use Rattle.std.specs.Map.{keys_of}
use Rattle.name_keys.specs.NameKeys.{name_of_key, IsNameKey}
use Rattle.paged_map.specs.Octets.{octets_cmp, begins_with}
use Rattle.zone_versions.specs.Trees.{NodeSets, Nodes}

abbrev pub Keyed : Type 0
Keyed = List (List ℕ × NodeSets)

-- by the names that the keys spell
abbrev pub named : Keyed → Nodes
named es = map (λ (e : List ℕ × NodeSets). (name_of_key e.0, e.1)) es

-- the keys are keys of names
abbrev pub AreKeys : Keyed → Type 0
AreKeys es = AllByRecursion IsNameKey (keys_of es)

-- whether an entry is of a key that begins with a string and isn't another, and holds sets
abbrev pub holds_besides : List ℕ → List ℕ → List ℕ × NodeSets → Bool
holds_besides prefix key e = begins_with e.0 prefix && not (length e.1 == 0) && not (is_eq (octets_cmp key e.0))

-- whether an entry is of a key that begins with a string and not with another, and holds sets
abbrev pub holds_outside : List ℕ → List ℕ → List ℕ × NodeSets → Bool
holds_outside prefix other e = begins_with e.0 prefix && (not (begins_with e.0 other) && not (length e.1 == 0))

-- whether a key is at an entry or after it, where there is one
abbrev pub from_entry : Option (List ℕ × NodeSets) → List ℕ × NodeSets → Bool
from_entry None f = false
from_entry (Some e) f = is_le (octets_cmp e.0 f.0)

-- how many entries a look has before it
abbrev pub left_from : Keyed → Option (List ℕ × NodeSets) → ℕ
left_from es next = length (filter (from_entry next) es)
