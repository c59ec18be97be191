-- A version of a zone as a tree: one node for each name that exists in it (RFC 1034, 3.1; RFC 4592, 2.2.2).
use Rattle.std.specs.Prelude.{◌≡◌, ℕ, ◌+◌, Bool, ◌&&◌, ◌||◌, not, ◌==◌, nat_le, if◌then◌else◌, List, length, map, flat_map, filter, Option, Some, None, is_some, IsTrue}
use Rattle.std.specs.List.{list_all, AllByRecursion}
use Rattle.std.specs.List.Sorted.{IsStrictlySortedBy}
use Rattle.std.specs.Ordering.{nat_cmp}
use Rattle.std.specs.BTreeMap.{is_at}
use Rattle.std.specs.Map.{lookup, keys_of, values_of}
use Rattle.dns_name.specs.Names.{Name, fold, same_name, under, canonical_cmp, upwards}
use Rattle.zone_model.specs.Version.{RecordSet, Key, Sets, Version, set_at, in_zone, exists}
use Rattle.zone_model.specs.Edits.{remove_set, put_set}

-- what a node holds: its sets by type
abbrev pub NodeSets : Type 0
NodeSets = List (ℕ × RecordSet)

-- names in lower case, in canonical order, with what their nodes hold
abbrev pub Nodes : Type 0
Nodes = List (Name × NodeSets)

-- whether a set has records
abbrev pub has_records : ℕ × RecordSet → Bool
has_records e = nat_le 1 (length e.1.items)

-- what a node may hold: each type once, ascending, and no set without records
pub record IsHeld (held : NodeSets) : Type 0 where
  pub ordered : IsStrictlySortedBy nat_cmp (keys_of held)
  pub full : IsTrue (list_all has_records held)

-- the node of a name, where there is one
abbrev pub node_at : Nodes → Name → Option NodeSets
node_at nodes n = lookup (is_at (canonical_cmp n)) nodes

-- a node's set of a type
abbrev pub set_of_type : NodeSets → ℕ → Option RecordSet
set_of_type held t = lookup (is_at (nat_cmp t)) held

-- .. where there is a node
abbrev pub type_in : Option NodeSets → ℕ → Option RecordSet
type_in None t = None
type_in (Some held) t = set_of_type held t

-- the sets of a node by owner and type
abbrev pub sets_of_node : Name × NodeSets → Sets
sets_of_node node = map (λ (e : ℕ × RecordSet). ((node.0, e.0), e.1)) node.1

-- the sets of all nodes, in order
abbrev pub sets_of : Nodes → Sets
sets_of nodes = flat_map sets_of_node nodes

-- whether a name exists in the zone
abbrev pub in_tree : Version → Name → Bool
in_tree v n = in_zone v n && exists v n

-- nodes in canonical order, each name in lower case and once
pub record AreNodes (nodes : Nodes) : Type 0 where
  pub ordered : IsStrictlySortedBy canonical_cmp (keys_of nodes)
  pub folded : AllByRecursion (λ n. fold n ≡ n) (keys_of nodes)
  pub held : AllByRecursion IsHeld (values_of nodes)

-- the nodes are the tree of a version: they have its sets, and their names are those that exist in the zone
pub record IsTree (v : Version) (nodes : Nodes) : Type 0 where
  pub are_nodes : AreNodes nodes
  pub sets : sets_of nodes ≡ v.sets
  pub names : (n : Name) → is_some (node_at nodes n) ≡ in_tree v n

-- the sets of a name by type
abbrev pub sets_at : Version → Name → NodeSets
sets_at v n = map (λ (e : Key × RecordSet). (e.0.1, e.1)) (filter (λ (e : Key × RecordSet). same_name e.0.0 n) v.sets)

-- a name's node in the tree of a version
abbrev pub node_of : Version → Name → Option NodeSets
node_of v n = if in_tree v n then Some (sets_at v n) else None

-- ---- edits

-- the version with a set in place of the one of an owner and type, or without it
abbrev pub with_set : Version → Name → ℕ → Option RecordSet → Version
with_set v owner rtype None = remove_set v owner rtype
with_set v owner rtype (Some s) = put_set v owner rtype s

-- the names that begin to exist from v to w, among an owner and those above it
abbrev pub begun : Version → Version → Name → List Name
begun v w owner = filter (λ n. in_tree w n && not (in_tree v n)) (upwards (fold owner))

-- whether a set stands at an owner and type in either
abbrev pub touches : Version → Version → Name → ℕ → Bool
touches v w owner rtype = is_some (set_at v owner rtype) || is_some (set_at w owner rtype)

-- how many nodes an edit of a set builds: those of names that begin to exist, and its owner's where that was there and stays
abbrev pub built : Version → Version → Name → ℕ → ℕ
built v w owner rtype = length (begun v w owner) + (if in_tree v owner && in_tree w owner && touches v w owner rtype then 1 else 0)

-- how many nodes it builds to take all sets at and below a name out: the apex's where that is among those names and there are sets
abbrev pub built_by_clear : Version → Name → ℕ
built_by_clear v n = if under v.apex n && not (length v.sets == 0) then 1 else 0
