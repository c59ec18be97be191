-- What a tree tells of a name, and names in lower case.
use Rattle.std.proofs.Common.{◌≡◌, ℕ, ◌+◌, Bool, true, false, cond, ◌&&◌, ◌||◌, ◌==◌, not, if◌then◌else◌, [], ◌∷◌, ◌++◌, map, length, filter, refl, sym, ap, ◌∙◌, true≢false, append-nil, Option, Some, None, is_some, is_eq, unwrap_or}
use Rattle.std.specs.List.Sorted.{IsStrictlySortedBy}
use Rattle.std.specs.BTreeMap.{insert_entry}
use Rattle.std.specs.Map.{keys_of, remove_entry}
use Rattle.std.proofs.lemmas.List.{map-append}
use Rattle.std.proofs.lemmas.List.Elements.{filter-append}
use Rattle.std.proofs.lemmas.Map.Keys.{sorted_tail}
use Rattle.dns_name.specs.Names.{Name, fold, same_name, under, canonical_cmp, upwards}
use Rattle.dns_name.specs.NameOrder.{canonical_total}
use Rattle.zone_model.specs.Version.{RecordSet, Key, Version, key_cmp, has_key, set_in, set_at}
use Rattle.zone_model.specs.Edits.{with_sets, put_set}
use Rattle.zone_model.proofs.Folded.{fold-fold}
use Rattle.zone_model.proofs.Ordered.{sorted_none, sorted_cons, past_head}
use Rattle.zone_versions.specs.Held.{counted}
use Rattle.zone_versions.specs.Trees.{NodeSets, Nodes, IsTree, node_at, sets_of_node, sets_of, in_tree, sets_at, node_of, with_set, built, type_in}
use Rattle.zone_versions.specs.Ways.{version_of}
use Rattle.zone_versions.proofs.Flat.{set_in-sets_of}
use Rattle.zone_versions.proofs.Above.{is_same, same_is, tied, ties}
use Rattle.zone_versions.proofs.Kept.{nothing_held}
use Rattle.zone_versions.proofs.Existing.{in_tree_alike, apex_in_tree}
use Rattle.zone_versions.proofs.Grown.{same_tests, node_alike}

-- ---- the sets of a name

abbrev type_and_set : Key × RecordSet → ℕ × RecordSet
type_and_set e = (e.0.1, e.1)

abbrev is_of : Name → Key × RecordSet → Bool
is_of n e = same_name e.0.0 n

of_node : (n m : Name) (held : NodeSets) → map type_and_set (filter (is_of n) (sets_of_node (m, held))) ≡ cond (same_name m n) held []
of_node n m [] = by (same_name m n)
  where
    by : (b : Bool) → ◌≡◌ {A = NodeSets} [] (cond b [] [])
    by true = refl
    by false = refl
of_node n m (e ∷ held) = by (same_name m n) (of_node n m held)
  where
    by : (b : Bool) → map type_and_set (filter (is_of n) (sets_of_node (m, held))) ≡ cond b held []
        → map type_and_set (cond b (((m, e.0), e.1) ∷ filter (is_of n) (sets_of_node (m, held))) (filter (is_of n) (sets_of_node (m, held)))) ≡ cond b (e ∷ held) []
    by true h = ap (λ l. e ∷ l) h
    by false h = h

same_tie : (m n : Name) → same_name m n ≡ is_eq (canonical_cmp n m)
same_tie m n = same_tests (same_name m n) (is_eq (canonical_cmp n m)) (λ h. ties n m (sym (same_is m n h))) (λ h. is_same m n (sym (tied n m h)))

of_nodes : (n : Name) (nodes : Nodes) → IsStrictlySortedBy canonical_cmp (keys_of nodes) → map type_and_set (filter (is_of n) (sets_of nodes)) ≡ unwrap_or (node_at nodes n) []
of_nodes n [] s = refl
of_nodes n (e ∷ nodes) s =
    ap (map type_and_set) (filter-append (is_of n) (sets_of_node e) (sets_of nodes)) ∙ map-append type_and_set (filter (is_of n) (sets_of_node e)) (filter (is_of n) (sets_of nodes))
    ∙ (λ i. (of_node n e.0 e.1 ∙ ap (λ b. cond b e.1 []) (same_tie e.0 n)) i ++ of_nodes n nodes (sorted_tail canonical_cmp e.0 (keys_of nodes) s) i)
    ∙ by (is_eq (canonical_cmp n e.0)) refl
  where
    by : (b : Bool) → is_eq (canonical_cmp n e.0) ≡ b → cond b e.1 [] ++ unwrap_or (node_at nodes n) [] ≡ unwrap_or (cond b (Some e.1) (node_at nodes n)) []
    by true h = ap (λ o. e.1 ++ unwrap_or o []) (past_head canonical_total n e nodes s h) ∙ append-nil e.1
    by false h = refl

pub node_told : (v : Version) (nodes : Nodes) (n : Name) → IsTree v nodes → node_at nodes n ≡ node_of v n
node_told v nodes n t = by (node_at nodes n) refl
  where
    sets : sets_at v n ≡ unwrap_or (node_at nodes n) []
    sets = ap (λ es. map type_and_set (filter (is_of n) es)) (sym t.sets) ∙ of_nodes n nodes t.are_nodes.ordered

    by : (o : Option NodeSets) → node_at nodes n ≡ o → o ≡ node_of v n
    by None e = ap (λ b. if b then Some (sets_at v n) else None) (sym (ap is_some e) ∙ t.names n)
    by (Some held) e = ap Some (sym (sets ∙ ap (λ o. unwrap_or o []) e)) ∙ ap (λ b. if b then Some (sets_at v n) else None) (sym (ap is_some e) ∙ t.names n)

pub set_told : (v : Version) (nodes : Nodes) (n : Name) (rtype : ℕ) → IsTree v nodes → type_in (node_at nodes n) rtype ≡ set_at v n rtype
set_told v nodes n rtype t =
    ap (λ o. type_in o rtype) (node_alike nodes n (fold n) (sym (fold-fold n))) ∙ sym (set_in-sets_of nodes (fold n) rtype t.are_nodes.ordered) ∙ ap (λ es. set_in es (fold n, rtype)) t.sets

-- the same in the name's node
pub set_of_node : (v : Version) (nodes : Nodes) (n : Name) (o : Option NodeSets) (rtype : ℕ) → IsTree v nodes → o ≡ node_of v n → type_in o rtype ≡ set_at v n rtype
set_of_node v nodes n o rtype t e = ap (λ x. type_in x rtype) (e ∙ sym (node_told v nodes n t)) ∙ set_told v nodes n rtype t

pub no_node : (v : Version) (nodes : Nodes) (n : Name) → IsTree v nodes → is_some (node_of v n) ≡ false → node_at nodes n ≡ None
no_node v nodes n t h = by (node_at nodes n) (ap is_some (node_told v nodes n t) ∙ h)
  where
    by : (o : Option NodeSets) → is_some o ≡ false → o ≡ None
    by None e = refl
    by (Some held) e = absurd (true≢false e)

-- ---- lower case

pub node_folded : (v : Version) (n : Name) → node_of v (fold n) ≡ node_of v n
node_folded v n =
    (λ i. if in_tree_alike v (fold n) n (fold-fold n) i then Some (map type_and_set (filter (λ (e : Key × RecordSet). labels_alike e.0.0 i) v.sets)) else None)
  where
    labels_alike : (m : Name) → same_name m (fold n) ≡ same_name m n
    labels_alike m = same_tie m (fold n) ∙ same_tests (is_eq (canonical_cmp (fold n) m)) (is_eq (canonical_cmp n m)) (λ h. ties n m (sym (fold-fold n) ∙ tied (fold n) m h)) (λ h. ties (fold n) m (fold-fold n ∙ tied n m h)) ∙ sym (same_tie m n)

abbrev removed_at : Version → Name → ℕ → Version
removed_at v folded rtype = with_sets v (remove_entry (has_key (folded, rtype)) v.sets)

abbrev put_at : Version → Name → ℕ → RecordSet → Version
put_at v folded rtype s = if length s.items == 0 then removed_at v folded rtype else with_sets v (insert_entry key_cmp v.sets (folded, rtype) s)

pub with_folded : (v : Version) (n : Name) (rtype : ℕ) (s : Option RecordSet) → with_set v (fold n) rtype s ≡ with_set v n rtype s
with_folded v n rtype None = ap (λ m. removed_at v m rtype) (fold-fold n)
with_folded v n rtype (Some s) = ap (λ m. put_at v m rtype s) (fold-fold n)

abbrev built_at : Version → Version → Name → Bool → Bool → ℕ → ℕ
built_at v w folded was stays rtype =
    length (filter (λ n. in_tree w n && not (in_tree v n)) (upwards folded)) + (if was && stays && (is_some (set_in v.sets (folded, rtype)) || is_some (set_in w.sets (folded, rtype))) then 1 else 0)

pub built_folded : (v w : Version) (n : Name) (rtype : ℕ) → built v w (fold n) rtype ≡ built v w n rtype
built_folded v w n rtype = λ i. built_at v w (fold-fold n i) (in_tree_alike v (fold n) n (fold-fold n) i) (in_tree_alike w (fold n) n (fold-fold n) i) rtype

-- ---- an edit of a name's set, by the name in lower case that its key has

module _ (n key : Name) (is : key ≡ fold n) where
  pub set_by_key : (v : Version) (rtype : ℕ) → set_at v key rtype ≡ set_at v n rtype
  set_by_key v rtype = ap (λ m. set_in v.sets (m, rtype)) (ap fold is ∙ fold-fold n)

  pub edit_by_key : (v : Version) (rtype : ℕ) (edit : Option RecordSet → RecordSet) → put_set v key rtype (edit (set_at v key rtype)) ≡ put_set v n rtype (edit (set_at v n rtype))
  edit_by_key v rtype edit = ap (λ m. put_at v m rtype (edit (set_in v.sets (m, rtype)))) (ap fold is ∙ fold-fold n)

  pub counted_by_key : (v w : Version) (rtype count : ℕ) → counted count (built v w key rtype) ≡ counted count (built v w n rtype)
  counted_by_key v w rtype count = ap (counted count) (ap (λ m. built v w m rtype) is ∙ built_folded v w n rtype)

-- ---- the apex alone

abbrev one_node : Bool → Option NodeSets
one_node b = cond b (Some []) None

pub apex_tree : (apex : Name) (class : ℕ) → IsTree (version_of apex class ((fold apex, []) ∷ [])) ((fold apex, []) ∷ [])
apex_tree apex class = record {
  are_nodes = record { ordered = sorted_cons canonical_cmp (fold apex) [] tt (sorted_none canonical_cmp); folded = (fold-fold apex, tt); held = (nothing_held, tt) };
  sets = refl;
  names = λ q. by q (is_eq (canonical_cmp q (fold apex))) refl;
}
  where
    apart : (q : Name) → is_eq (canonical_cmp q (fold apex)) ≡ false → (under q apex && (same_name q apex || false)) ≡ false
    apart q e = by (under q apex) (same_name q apex) refl
      where
        by : (b c : Bool) → same_name q apex ≡ c → (b && (c || false)) ≡ false
        by true true h = absurd (true≢false (sym (ties q (fold apex) (same_is q apex h ∙ sym (fold-fold apex))) ∙ e))
        by true false h = refl
        by false c h = refl

    by : (q : Name) (b : Bool) → is_eq (canonical_cmp q (fold apex)) ≡ b → is_some (one_node b) ≡ in_tree (version_of apex class ((fold apex, []) ∷ [])) q
    by q true e = sym (apex_in_tree (version_of apex class ((fold apex, []) ∷ [])) q (tied q (fold apex) e ∙ fold-fold apex))
    by q false e = sym (apart q e)
