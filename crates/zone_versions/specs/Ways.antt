-- What an edit of a set makes of the nodes, and on what way upwards.
use Rattle.std.specs.Prelude.{ℕ, ◌+◌, Bool, ◌&&◌, ◌||◌, not, ◌==◌, nat_lt, filter, [], ◌∷◌, length, Option, Some, None, is_some, if◌then◌else◌}
use Rattle.std.specs.List.{list_any}
use Rattle.std.specs.Ordering.{nat_cmp}
use Rattle.std.specs.BTreeMap.{insert_entry, is_at}
use Rattle.std.specs.Map.{lookup, remove_entry}
use Rattle.dns_name.specs.Names.{Name, canonical_cmp, under}
use Rattle.zone_model.specs.Version.{RecordSet, Version}
use Rattle.zone_versions.specs.Trees.{NodeSets, Nodes, node_at, sets_of, in_tree}

-- the version of an apex, a class and nodes
abbrev pub version_of : Name → ℕ → Nodes → Version
version_of apex class nodes = record { apex = apex; class = class; sets = sets_of nodes }

-- the nodes with one at a name
abbrev pub put_node : Nodes → Name → NodeSets → Nodes
put_node nodes n held = insert_entry canonical_cmp nodes n held

-- ---- a set is put

-- the nodes with one at a name and at each above it, up to the first that has one
abbrev pub add_upwards : Nodes → Name → Nodes
add_upwards nodes [] = if is_some (node_at nodes []) then nodes else put_node nodes [] []
add_upwards nodes (label ∷ n) = if is_some (node_at nodes (label ∷ n)) then nodes else add_upwards (put_node nodes (label ∷ n) []) n

-- how many those are
abbrev pub lacking_upwards : Nodes → Name → ℕ
lacking_upwards nodes [] = if is_some (node_at nodes []) then 0 else 1
lacking_upwards nodes (label ∷ n) = if is_some (node_at nodes (label ∷ n)) then 0 else 1 + lacking_upwards (put_node nodes (label ∷ n) []) n

-- the same from the name above one, where that isn't the root
abbrev pub add_above : Nodes → Name → Nodes
add_above nodes [] = nodes
add_above nodes (label ∷ n) = add_upwards nodes n

abbrev pub lacking_above : Nodes → Name → ℕ
lacking_above nodes [] = 0
lacking_above nodes (label ∷ n) = lacking_upwards nodes n

-- the nodes with a set put at a name and type: into the node that is there, or a new one with those above it
abbrev pub put_held : Nodes → Name → ℕ → RecordSet → Option NodeSets → Nodes
put_held nodes n rtype s None = add_above (put_node nodes n ((rtype, s) ∷ [])) n
put_held nodes n rtype s (Some held) = put_node nodes n (insert_entry nat_cmp held rtype s)

-- how many nodes that builds
abbrev pub put_steps : Nodes → Name → ℕ → RecordSet → Option NodeSets → ℕ
put_steps nodes n rtype s None = 1 + lacking_above (put_node nodes n ((rtype, s) ∷ [])) n
put_steps nodes n rtype s (Some held) = 1

-- ---- a set is taken out

-- whether sets are held at or below a name
abbrev pub any_held : Nodes → Name → Bool
any_held nodes n = list_any (λ (e : Name × NodeSets). under e.0 n && not (length e.1 == 0)) nodes

-- whether a name exists without the sets of an owner: at or above the apex, or sets are held at or below it
abbrev pub stays_at : Nodes → Name → Name → Name → Bool
stays_at nodes apex owner n = under apex n || any_held (put_node nodes owner []) n

-- the highest name from one upwards below the first that passes a test
abbrev pub highest_below : (Name → Bool) → Name → Name
highest_below test [] = []
highest_below test (label ∷ n) = if test n then label ∷ n else highest_below test n

-- .. below the first that exists in a version
abbrev pub topmost : Version → Name → Name
topmost w n = highest_below (in_tree w) n

-- .. below the first that exists without the sets of an owner
abbrev pub climb : Nodes → Name → Name → Name → Name
climb nodes apex owner n = highest_below (stays_at nodes apex owner) n

-- whether an owner's node stays once one of its sets is taken out
abbrev pub node_stays : Nodes → Name → Name → NodeSets → Bool
node_stays nodes apex n held = nat_lt 1 (length held) || stays_at nodes apex n n

-- the nodes without a set that is there
abbrev pub taken_out : Nodes → Name → Name → ℕ → NodeSets → Nodes
taken_out nodes apex n rtype held =
    if node_stays nodes apex n held then put_node nodes n (remove_entry (is_at (nat_cmp rtype)) held)
    else filter (λ (e : Name × NodeSets). not (under e.0 (climb nodes apex n n))) nodes

-- the nodes without the set of a name and type
abbrev pub remove_held : Nodes → Name → Name → ℕ → Option NodeSets → Nodes
remove_held nodes apex n rtype None = nodes
remove_held nodes apex n rtype (Some held) = if is_some (lookup (is_at (nat_cmp rtype)) held) then taken_out nodes apex n rtype held else nodes

-- how many nodes that builds
abbrev pub remove_steps : Nodes → Name → Name → ℕ → Option NodeSets → ℕ
remove_steps nodes apex n rtype None = 0
remove_steps nodes apex n rtype (Some held) = if is_some (lookup (is_at (nat_cmp rtype)) held) && node_stays nodes apex n held then 1 else 0

-- ---- all sets at and below a name are taken out

-- the nodes that aren't at or below a name
abbrev pub outside : Nodes → Name → Nodes
outside nodes n = filter (λ (e : Name × NodeSets). not (under e.0 n)) nodes

-- whether a name exists without the sets at and below another: at or above the apex, or other sets are held at or below it
abbrev pub stays_without : Nodes → Name → Name → Name → Bool
stays_without nodes apex cleared n = under apex n || any_held (outside nodes cleared) n

-- the nodes without the sets at and below a name that is neither the apex nor above it
abbrev pub clear_held : Nodes → Name → Name → Nodes
clear_held nodes apex n = if is_some (node_at nodes n) then outside nodes (highest_below (stays_without nodes apex n) n) else nodes
