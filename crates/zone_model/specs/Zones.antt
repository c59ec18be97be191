-- Many zones by class and apex, and the names of one (RFC 1034, 4.3.2, step 2; RFC 4592, 2.2.2).
use Rattle.std.specs.Prelude.{ℕ, List, [], ◌∷◌, filter, flat_map, Option, None}
use Rattle.std.specs.declared.cmp.Ordering.{Ordering}
use Rattle.std.specs.Ordering.{nat_cmp, ordering_then}
use Rattle.std.specs.Option.{option_or}
use Rattle.std.specs.BTreeMap.{insert_entry, is_at}
use Rattle.std.specs.Map.{lookup, keys_of}
use Rattle.dns_name.specs.Names.{Name, fold, canonical_cmp, upwards}
use Rattle.zone_model.specs.Version.{RecordSet, Key, Version, in_zone}

-- a class and a folded apex
abbrev pub ZoneKey : Type 0
ZoneKey = ℕ × Name

-- by class, then canonical apex
abbrev pub zone_key_cmp : ZoneKey → ZoneKey → Ordering
zone_key_cmp p q = ordering_then (nat_cmp p.0 q.0) (canonical_cmp p.1 q.1)

-- the zones of a server: a finite map, as its entries in order
abbrev pub Zones : Type 0 → Type 0
Zones Z = List (ZoneKey × Z)

abbrev pub zone_of : {Z : Type 0} → Zones Z → ℕ → Name → Option Z
zone_of zones class apex = lookup (is_at (zone_key_cmp (class, fold apex))) zones

abbrev pub first_zone : {Z : Type 0} → Zones Z → ℕ → List Name → Option Z
first_zone zones class [] = None
first_zone zones class (n ∷ more) = option_or (zone_of zones class n) (first_zone zones class more)

-- the zone that is nearest above a name (RFC 1034, 4.3.2, step 2)
abbrev pub find_zone : {Z : Type 0} → Zones Z → ℕ → Name → Option Z
find_zone zones class name = first_zone zones class (upwards name)

-- the names that exist in a version, each once, in canonical order (RFC 4592, 2.2.2)
abbrev pub with_name : Name → List (Name × Unit {0}) → List (Name × Unit {0})
with_name n names = insert_entry canonical_cmp names n tt

abbrev pub with_names : List Name → List (Name × Unit {0}) → List (Name × Unit {0})
with_names [] names = names
with_names (n ∷ more) names = with_name n (with_names more names)

abbrev pub nodes : Version → List Name
nodes v = keys_of (with_names (fold v.apex ∷ filter (in_zone v) (flat_map (λ (e : Key × RecordSet). upwards e.0.0) v.sets)) [])
