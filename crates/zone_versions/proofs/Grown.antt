-- A set that is put, and the nodes of the names that then begin to exist.
use Rattle.std.proofs.Common.{◌≡◌, ℕ, ◌+◌, ◌≤◌, Bool, true, false, cond, ◌&&◌, ◌||◌, not, if◌then◌else◌, List, [], ◌∷◌, length, drop, filter, refl, sym, ap, ◌∙◌, subst, true≢false, ⊎_elim, arith, Option, Some, None, is_some, is_eq, nat_cmp, leb-true, ne_eqb}
use Rattle.std.specs.Cmp.{Equal-is, nat_cmp_total, first_so, second_so}
use Rattle.std.specs.BTreeMap.{insert_entry, is_at}
use Rattle.std.specs.Map.{remove_entry}
use Rattle.dns_name.specs.Names.{Name, fold, same_name, under, canonical_cmp, upwards}
use Rattle.dns_name.specs.NameOrder.{canonical_total}
use Rattle.zone_model.specs.Version.{RecordSet, Version, key_cmp, has_key, exists}
use Rattle.zone_model.specs.Edits.{with_sets, put_set}
use Rattle.zone_model.proofs.Folded.{fold-fold, under_alike}
use Rattle.zone_model.proofs.Ordered.{find_alike, lookup-insert_entry, lookup-remove_entry}
use Rattle.zone_versions.specs.Trees.{NodeSets, Nodes, AreNodes, IsHeld, IsTree, has_records, node_at, sets_of, in_tree, set_of_type, type_in}
use Rattle.zone_versions.specs.Ways.{put_node, add_upwards, lacking_upwards}
use Rattle.zone_versions.proofs.Above.{under_itself, under_trans, under_longer, under_cases, under_root, under_longest, under_both, is_same, same_is, tied, ties}
use Rattle.zone_versions.proofs.Kept.{nothing_held, held_insert, nodes_put, node_at-put, edited_at, sets_put}
use Rattle.zone_versions.proofs.Existing.{or_so, or_left, or_right, and_so, in_tree_above, apex_in_tree, put_exists}

-- ---- look-ups of nodes

pub node_alike : (nodes : Nodes) (m n : Name) → fold m ≡ fold n → node_at nodes m ≡ node_at nodes n
node_alike nodes m n e = find_alike canonical_total nodes m n ((Equal-is (canonical_cmp m n)).0 (ties m n e))

pub put_some : (nodes : Nodes) (n : Name) (held : NodeSets) (q : Name) → is_some (node_at nodes q) ≡ true → is_some (node_at (put_node nodes n held) q) ≡ true
put_some nodes n held q h = ap is_some (node_at-put nodes n held q) ∙ by (is_eq (canonical_cmp q n))
  where
    by : (b : Bool) → is_some (cond b (Some held) (node_at nodes q)) ≡ true
    by true = refl
    by false = h

-- a node of another name
pub put_apart : (nodes : Nodes) (n : Name) (held : NodeSets) (q : Name) → is_eq (canonical_cmp q n) ≡ false → node_at (put_node nodes n held) q ≡ node_at nodes q
put_apart nodes n held q e = node_at-put nodes n held q ∙ ap (λ b. cond b (Some held) (node_at nodes q)) e

pub put_here : (nodes : Nodes) (n : Name) (held : NodeSets) (q : Name) → is_eq (canonical_cmp q n) ≡ true → node_at (put_node nodes n held) q ≡ Some held
put_here nodes n held q e = node_at-put nodes n held q ∙ ap (λ b. cond b (Some held) (node_at nodes q)) e

-- the sets of the nodes after one at a name takes a set, whether or not it was there
pub types_put : (nodes : Nodes) (o : Name) (held : NodeSets) (rtype : ℕ) (s : RecordSet) → ((t : ℕ) → type_in (node_at nodes o) t ≡ set_of_type held t) → (q : Name) (t : ℕ)
    → type_in (node_at (put_node nodes o (insert_entry nat_cmp held rtype s)) q) t ≡ edited_at o rtype (Some s) q t (type_in (node_at nodes q) t)
types_put nodes o held rtype s same q t = by (is_eq (canonical_cmp q o)) refl
  where
    by : (b : Bool) → is_eq (canonical_cmp q o) ≡ b
        → type_in (node_at (put_node nodes o (insert_entry nat_cmp held rtype s)) q) t ≡ cond (b && is_eq (nat_cmp t rtype)) (Some s) (type_in (node_at nodes q) t)
    by true e =
        ap (λ x. type_in x t) (put_here nodes o (insert_entry nat_cmp held rtype s) q e) ∙ lookup-insert_entry nat_cmp_total held rtype s t
        ∙ ap (cond (is_eq (nat_cmp t rtype)) (Some s)) (sym (same t) ∙ ap (λ x. type_in x t) (sym (node_alike nodes q o (tied q o e))))
    by false e = ap (λ x. type_in x t) (put_apart nodes o (insert_entry nat_cmp held rtype s) q e)

-- .. or loses one
pub types_removed : (nodes : Nodes) (o : Name) (held : NodeSets) (rtype : ℕ) → IsHeld held → ((t : ℕ) → type_in (node_at nodes o) t ≡ set_of_type held t) → (q : Name) (t : ℕ)
    → type_in (node_at (put_node nodes o (remove_entry (is_at (nat_cmp rtype)) held)) q) t ≡ edited_at o rtype None q t (type_in (node_at nodes q) t)
types_removed nodes o held rtype good same q t = by (is_eq (canonical_cmp q o)) refl
  where
    by : (b : Bool) → is_eq (canonical_cmp q o) ≡ b
        → type_in (node_at (put_node nodes o (remove_entry (is_at (nat_cmp rtype)) held)) q) t ≡ cond (b && is_eq (nat_cmp t rtype)) None (type_in (node_at nodes q) t)
    by true e =
        ap (λ x. type_in x t) (put_here nodes o (remove_entry (is_at (nat_cmp rtype)) held) q e) ∙ lookup-remove_entry nat_cmp_total held rtype t good.ordered
        ∙ ap (cond (is_eq (nat_cmp t rtype)) None) (sym (same t) ∙ ap (λ x. type_in x t) (sym (node_alike nodes q o (tied q o e))))
    by false e = ap (λ x. type_in x t) (put_apart nodes o (remove_entry (is_at (nat_cmp rtype)) held) q e)

-- ---- upwards

-- the name above one isn't that one, nor are those above it
pub apart_above : (l : List ℕ) (n m : Name) → under n m ≡ true → is_eq (canonical_cmp m (l ∷ n)) ≡ false
apart_above l n m h = by (is_eq (canonical_cmp m (l ∷ n))) refl
  where
    by : (b : Bool) → is_eq (canonical_cmp m (l ∷ n)) ≡ b → b ≡ false
    by true e = absurd (omega (arith, under_longest n (l ∷ n) (under_trans n m (l ∷ n) h (under_itself m (l ∷ n) (tied m (l ∷ n) e)))))
    by false e = refl

pub same_tests : (a b : Bool) → (a ≡ true → b ≡ true) → (b ≡ true → a ≡ true) → a ≡ b
same_tests true b f g = sym (f refl)
same_tests false true f g = g refl
same_tests false false f g = refl

pub same_apex : (apex n : Name) → under n apex ≡ true → same_name n apex ≡ under (fold apex) n
same_apex apex n z =
    same_tests (same_name n apex) (under (fold apex) n) (λ h. under_itself (fold apex) n (fold-fold apex ∙ sym (same_is n apex h)))
    (λ h. is_same n apex (under_both n apex z (sym (under_alike (fold apex) apex n n (fold-fold apex) refl) ∙ h)))

under_next : (l : List ℕ) (n q : Name) → is_eq (canonical_cmp q (l ∷ n)) ≡ false → under n q ≡ under (l ∷ n) q
under_next l n q apart =
    same_tests (under n q) (under (l ∷ n) q) (under_longer l n q)
    (λ h. ⊎_elim (λ e. absurd (true≢false (sym (ties q (l ∷ n) (sym e)) ∙ apart))) (λ u. u) (under_cases l n q h))

fold_rest : (l : List ℕ) (n : Name) → fold (l ∷ n) ≡ l ∷ n → fold n ≡ n
fold_rest l n e = ap (drop 1) e

lacking : (nodes : Nodes) (n : Name) → is_some (node_at nodes n) ≡ false → node_at nodes n ≡ None
lacking nodes n h = by (node_at nodes n) h
  where
    by : (o : Option NodeSets) → is_some o ≡ false → o ≡ None
    by None e = refl
    by (Some x) e = absurd (true≢false e)

-- nodes without sets add none
types_empty : (nodes : Nodes) (n q : Name) (t : ℕ) → is_some (node_at nodes n) ≡ false → type_in (node_at (put_node nodes n []) q) t ≡ type_in (node_at nodes q) t
types_empty nodes n q t none = by (is_eq (canonical_cmp q n)) refl
  where
    by : (b : Bool) → is_eq (canonical_cmp q n) ≡ b → type_in (node_at (put_node nodes n []) q) t ≡ type_in (node_at nodes q) t
    by true e = ap (λ x. type_in x t) (put_here nodes n [] q e) ∙ sym (ap (λ x. type_in x t) (node_alike nodes q n (tied q n e) ∙ lacking nodes n none))
    by false e = ap (λ x. type_in x t) (put_apart nodes n [] q e)

pub types_upwards : (nodes : Nodes) (n q : Name) (t : ℕ) → type_in (node_at (add_upwards nodes n) q) t ≡ type_in (node_at nodes q) t
types_upwards nodes [] q t = by (is_some (node_at nodes [])) refl
  where
    by : (b : Bool) → is_some (node_at nodes []) ≡ b → type_in (node_at (if b then nodes else put_node nodes [] []) q) t ≡ type_in (node_at nodes q) t
    by true e = refl
    by false e = types_empty nodes [] q t e
types_upwards nodes (l ∷ n) q t = by (is_some (node_at nodes (l ∷ n))) refl (types_upwards (put_node nodes (l ∷ n) []) n q t)
  where
    by : (b : Bool) → is_some (node_at nodes (l ∷ n)) ≡ b → type_in (node_at (add_upwards (put_node nodes (l ∷ n) []) n) q) t ≡ type_in (node_at (put_node nodes (l ∷ n) []) q) t
        → type_in (node_at (if b then nodes else add_upwards (put_node nodes (l ∷ n) []) n) q) t ≡ type_in (node_at nodes q) t
    by true e h = refl
    by false e h = h ∙ types_empty nodes (l ∷ n) q t e

pub nodes_upwards : (nodes : Nodes) (n : Name) → fold n ≡ n → AreNodes nodes → AreNodes (add_upwards nodes n)
nodes_upwards nodes [] f a = by (is_some (node_at nodes []))
  where
    by : (b : Bool) → AreNodes (if b then nodes else put_node nodes [] [])
    by true = a
    by false = nodes_put nodes [] [] refl nothing_held a
nodes_upwards nodes (l ∷ n) f a = by (is_some (node_at nodes (l ∷ n))) (nodes_upwards (put_node nodes (l ∷ n) []) n (fold_rest l n f) (nodes_put nodes (l ∷ n) [] f nothing_held a))
  where
    by : (b : Bool) → AreNodes (add_upwards (put_node nodes (l ∷ n) []) n) → AreNodes (if b then nodes else add_upwards (put_node nodes (l ∷ n) []) n)
    by true h = a
    by false h = h

module _ (apex : Name) where
  -- from a name on, what is above a name with a node has one
  abbrev pub Closed : Nodes → Name → Type 0
  Closed nodes n = (m q : Name) → under n m ≡ true → under m q ≡ true → under q apex ≡ true → is_some (node_at nodes m) ≡ true → is_some (node_at nodes q) ≡ true

  pub closed_next : (nodes : Nodes) (l : List ℕ) (n : Name) (held : NodeSets) → Closed nodes (l ∷ n) → Closed (put_node nodes (l ∷ n) held) n
  closed_next nodes l n held c m q h k z e =
      put_some nodes (l ∷ n) held q (c m q (under_longer l n m h) k z (sym (ap is_some (put_apart nodes (l ∷ n) held m (apart_above l n m h))) ∙ e))

  pub above_apex : (l : List ℕ) (n : Name) (nodes : Nodes) → under (l ∷ n) apex ≡ true → is_some (node_at nodes apex) ≡ true → is_some (node_at nodes (l ∷ n)) ≡ false → under n apex ≡ true
  above_apex l n nodes z there none = ⊎_elim (λ e. absurd (true≢false (sym (ap is_some (node_alike nodes (l ∷ n) apex e) ∙ there) ∙ none))) (λ u. u) (under_cases l n apex z)

  -- the names of the nodes then
  pub names_upwards : (nodes : Nodes) (n : Name) → Closed nodes n → under n apex ≡ true → is_some (node_at nodes apex) ≡ true
      → (q : Name) → is_some (node_at (add_upwards nodes n) q) ≡ (is_some (node_at nodes q) || (under q apex && under n q))
  names_upwards nodes [] c z there q = by (is_some (node_at nodes [])) refl
    where
      root : is_some (node_at nodes []) ≡ true
      root = ap is_some (node_alike nodes [] apex (under_root apex z)) ∙ there

      by : (b : Bool) → is_some (node_at nodes []) ≡ b → is_some (node_at (if b then nodes else put_node nodes [] []) q) ≡ (is_some (node_at nodes q) || (under q apex && under [] q))
      by true e =
          same_tests (is_some (node_at nodes q)) (is_some (node_at nodes q) || (under q apex && under [] q)) (or_left (is_some (node_at nodes q)) (under q apex && under [] q))
          (λ h. ⊎_elim (λ g. g) (λ g. ap is_some (sym (node_alike nodes [] q (under_root q (second_so (under q apex) (under [] q) g)))) ∙ e) (or_so (is_some (node_at nodes q)) (under q apex && under [] q) h))
      by false e = absurd (true≢false (sym root ∙ e))
  names_upwards nodes (l ∷ n) c z there q =
      by (is_some (node_at nodes (l ∷ n))) refl
      (λ z1. names_upwards (put_node nodes (l ∷ n) []) n (closed_next nodes l n [] c) z1 (put_some nodes (l ∷ n) [] apex there) q)
    where
      here : (b : Bool) → is_eq (canonical_cmp q (l ∷ n)) ≡ b
          → (is_some (node_at (put_node nodes (l ∷ n) []) q) || (under q apex && under n q)) ≡ (is_some (node_at nodes q) || (under q apex && under (l ∷ n) q))
      here true e =
          ap (λ x. is_some x || (under q apex && under n q)) (put_here nodes (l ∷ n) [] q e)
          ∙ sym (or_right (is_some (node_at nodes q)) (under q apex && under (l ∷ n) q)
          (and_so (under q apex) (under (l ∷ n) q) (under_alike q (l ∷ n) apex apex (tied q (l ∷ n) e) refl ∙ z) (under_itself (l ∷ n) q (sym (tied q (l ∷ n) e)))))
      here false e = λ i. is_some (put_apart nodes (l ∷ n) [] q e i) || (under q apex && under_next l n q e i)

      by : (b : Bool) → is_some (node_at nodes (l ∷ n)) ≡ b
          → (under n apex ≡ true → is_some (node_at (add_upwards (put_node nodes (l ∷ n) []) n) q) ≡ (is_some (node_at (put_node nodes (l ∷ n) []) q) || (under q apex && under n q)))
          → is_some (node_at (if b then nodes else add_upwards (put_node nodes (l ∷ n) []) n) q) ≡ (is_some (node_at nodes q) || (under q apex && under (l ∷ n) q))
      by true e later =
          same_tests (is_some (node_at nodes q)) (is_some (node_at nodes q) || (under q apex && under (l ∷ n) q)) (or_left (is_some (node_at nodes q)) (under q apex && under (l ∷ n) q))
          (λ h. ⊎_elim (λ g. g)
          (λ g. c (l ∷ n) q (under_itself (l ∷ n) (l ∷ n) refl) (second_so (under q apex) (under (l ∷ n) q) g) (first_so (under q apex) (under (l ∷ n) q) g) e)
          (or_so (is_some (node_at nodes q)) (under q apex && under (l ∷ n) q) h))
      by false e later = later (above_apex l n nodes z there e) ∙ here (is_eq (canonical_cmp q (l ∷ n))) refl

  -- ---- how many

  pub none_above : (p : Name → Bool) (n : Name) → ((m : Name) → under n m ≡ true → p m ≡ false) → filter p (upwards n) ≡ []
  none_above p [] h = ap (λ b. cond b ([] ∷ []) []) (h [] (under_itself [] [] refl))
  none_above p (l ∷ n) h =
      ap (λ b. cond b ((l ∷ n) ∷ filter p (upwards n)) (filter p (upwards n))) (h (l ∷ n) (under_itself (l ∷ n) (l ∷ n) refl))
      ∙ none_above p n (λ m u. h m (under_longer l n m u))

  and_none : (p q : Bool) → q ≡ false → (p && q) ≡ false
  and_none true q e = e
  and_none false q e = refl

  pub counted_upwards : (p : Name → Bool) (nodes : Nodes) (n : Name) → ((m : Name) → under n m ≡ true → p m ≡ (under m apex && not (is_some (node_at nodes m))))
      → Closed nodes n → under n apex ≡ true → is_some (node_at nodes apex) ≡ true → length (filter p (upwards n)) ≡ lacking_upwards nodes n
  counted_upwards p nodes [] is c z there =
      let root : is_some (node_at nodes []) ≡ true = ap is_some (node_alike nodes [] apex (under_root apex z)) ∙ there in
      ap length (ap (λ b. cond b ([] ∷ []) []) (is [] (under_itself [] [] refl) ∙ and_none (under [] apex) (not (is_some (node_at nodes []))) (ap not root)))
      ∙ sym (ap (λ b. if b then 0 else 1) root)
  counted_upwards p nodes (l ∷ n) is c z there =
      by (is_some (node_at nodes (l ∷ n))) refl
      (λ z1. counted_upwards p (put_node nodes (l ∷ n) []) n
      (λ m u. is m (under_longer l n m u) ∙ ap (λ o. under m apex && not (is_some o)) (sym (put_apart nodes (l ∷ n) [] m (apart_above l n m u))))
      (closed_next nodes l n [] c) z1 (put_some nodes (l ∷ n) [] apex there))
    where
      by : (b : Bool) → is_some (node_at nodes (l ∷ n)) ≡ b → (under n apex ≡ true → length (filter p (upwards n)) ≡ lacking_upwards (put_node nodes (l ∷ n) []) n)
          → length (cond (p (l ∷ n)) ((l ∷ n) ∷ filter p (upwards n)) (filter p (upwards n))) ≡ (if b then 0 else 1 + lacking_upwards (put_node nodes (l ∷ n) []) n)
      by true e later =
          ap length (none_above p (l ∷ n) (λ m u. is m u ∙ by_zone m u (under m apex) refl))
        where
          by_zone : (m : Name) → under (l ∷ n) m ≡ true → (b : Bool) → under m apex ≡ b → (b && not (is_some (node_at nodes m))) ≡ false
          by_zone m u true w = ap not (c (l ∷ n) m (under_itself (l ∷ n) (l ∷ n) refl) u w e)
          by_zone m u false w = refl
      by false e later =
          let here : p (l ∷ n) ≡ true = is (l ∷ n) (under_itself (l ∷ n) (l ∷ n) refl) ∙ and_so (under (l ∷ n) apex) (not (is_some (node_at nodes (l ∷ n)))) z (ap not e) in
          let rest = later (above_apex l n nodes z there e) in
          ap length (ap (λ b. cond b ((l ∷ n) ∷ filter p (upwards n)) (filter p (upwards n))) here) ∙ omega (arith, rest)

-- ---- trees

pub put_is : (v : Version) (owner : Name) (rtype : ℕ) (s : RecordSet) → has_records (rtype, s) ≡ true → put_set v owner rtype s ≡ with_sets v (insert_entry key_cmp v.sets (fold owner, rtype) s)
put_is v owner rtype s h =
    let some : 1 ≤ length s.items = leb-true 1 (length s.items) h in
    ap (λ b. if b then with_sets v (remove_entry (has_key (fold owner, rtype)) v.sets) else with_sets v (insert_entry key_cmp v.sets (fold owner, rtype) s)) (ne_eqb (length s.items) 0 (λ z. omega arith))

module _ (v : Version) (nodes : Nodes) (tree : IsTree v nodes) where
  pub tree_closed : (n : Name) → Closed v.apex nodes n
  tree_closed n m q h k z e = tree.names q ∙ in_tree_above v m q k z (sym (tree.names m) ∙ e)

  pub apex_there : is_some (node_at nodes v.apex) ≡ true
  apex_there = tree.names v.apex ∙ apex_in_tree v v.apex refl

  module _ (owner : Name) (rtype : ℕ) (s : RecordSet) (zone : under owner v.apex ≡ true) (full : has_records (rtype, s) ≡ true) where
    -- the version then
    abbrev pub put_version : Version
    put_version = with_sets v (insert_entry key_cmp v.sets (fold owner, rtype) s)

    pub put_names : (q : Name) → in_tree put_version q ≡ (in_tree v q || (under q v.apex && under owner q))
    put_names q = ap (λ b. under q v.apex && b) (put_exists v owner rtype s q) ∙ by (under q v.apex) (exists v q) (under owner q)
      where
        by : (p q r : Bool) → (p && (q || r)) ≡ ((p && q) || (p && r))
        by true q r = refl
        by false q r = refl

    sets_then : (after : Nodes) → AreNodes after → ((q : Name) (t : ℕ) → type_in (node_at after q) t ≡ edited_at (fold owner) rtype (Some s) q t (type_in (node_at nodes q) t)) → sets_of after ≡ put_version.sets
    sets_then after a h = sets_put nodes after (fold owner) rtype s (fold-fold owner) tree.are_nodes a h ∙ ap (λ es. insert_entry key_cmp es (fold owner, rtype) s) tree.sets

    -- at an owner that has a node
    pub tree_put : (held : NodeSets) → node_at nodes (fold owner) ≡ Some held → IsHeld held → IsTree put_version (put_node nodes (fold owner) (insert_entry nat_cmp held rtype s))
    tree_put held there good = record {
      are_nodes = a;
      sets = sets_then after a (types_put nodes (fold owner) held rtype s (λ t. ap (λ o. type_in o t) there));
      names = λ q. names q (is_eq (canonical_cmp q (fold owner))) refl ∙ sym (put_names q ∙ ap (λ b. b || (under q v.apex && under owner q)) (sym (tree.names q)));
    }
      where
        after : Nodes
        after = put_node nodes (fold owner) (insert_entry nat_cmp held rtype s)

        a : AreNodes after
        a = nodes_put nodes (fold owner) (insert_entry nat_cmp held rtype s) (fold-fold owner) (held_insert held rtype s full good) tree.are_nodes

        some : (q : Name) → (under q v.apex && under owner q) ≡ true → is_some (node_at nodes q) ≡ true
        some q h =
            tree_closed owner owner q (under_itself owner owner refl) (second_so (under q v.apex) (under owner q) h) (first_so (under q v.apex) (under owner q) h)
            (ap is_some (node_alike nodes owner (fold owner) (sym (fold-fold owner)) ∙ there))

        kept : (q : Name) → is_some (node_at nodes q) ≡ (is_some (node_at nodes q) || (under q v.apex && under owner q))
        kept q =
            same_tests (is_some (node_at nodes q)) (is_some (node_at nodes q) || (under q v.apex && under owner q)) (or_left (is_some (node_at nodes q)) (under q v.apex && under owner q))
            (λ h. ⊎_elim (λ g. g) (some q) (or_so (is_some (node_at nodes q)) (under q v.apex && under owner q) h))

        names : (q : Name) (b : Bool) → is_eq (canonical_cmp q (fold owner)) ≡ b → is_some (node_at after q) ≡ (is_some (node_at nodes q) || (under q v.apex && under owner q))
        names q true e = ap is_some (put_here nodes (fold owner) (insert_entry nat_cmp held rtype s) q e)
            ∙ sym (or_left (is_some (node_at nodes q)) (under q v.apex && under owner q) (ap is_some (node_alike nodes q (fold owner) (tied q (fold owner) e) ∙ there)))
        names q false e = ap is_some (put_apart nodes (fold owner) (insert_entry nat_cmp held rtype s) q e) ∙ kept q

    -- at an owner that has none: it and the names above it get theirs
    pub tree_new : (label : List ℕ) (n : Name) → fold owner ≡ label ∷ n → node_at nodes (fold owner) ≡ None → IsTree put_version (add_upwards (put_node nodes (fold owner) ((rtype, s) ∷ [])) n)
    tree_new label n is none = record {
      are_nodes = a;
      sets = sets_then after a (λ q t. types_upwards first n q t ∙ types_put nodes (fold owner) [] rtype s (λ t. ap (λ o. type_in o t) none) q t);
      names = λ q. names_upwards v.apex first n closed zone_above (put_some nodes (fold owner) ((rtype, s) ∷ []) v.apex apex_there) q
          ∙ names q (is_eq (canonical_cmp q (fold owner))) refl ∙ sym (put_names q ∙ ap (λ b. b || (under q v.apex && under owner q)) (sym (tree.names q)));
    }
      where
        first : Nodes
        first = put_node nodes (fold owner) ((rtype, s) ∷ [])

        after : Nodes
        after = add_upwards first n

        a : AreNodes after
        a = nodes_upwards first n (fold_rest label n (sym (ap fold is) ∙ fold-fold owner ∙ is))
            (nodes_put nodes (fold owner) ((rtype, s) ∷ []) (fold-fold owner) (held_insert [] rtype s full nothing_held) tree.are_nodes)

        zone_at : under (label ∷ n) v.apex ≡ true
        zone_at = under_alike (label ∷ n) owner v.apex v.apex (sym (ap fold is) ∙ fold-fold owner) refl ∙ zone

        zone_above : under n v.apex ≡ true
        zone_above = above_apex v.apex label n nodes zone_at apex_there (ap (λ m. is_some (node_at nodes m)) (sym is) ∙ ap is_some none)

        closed : Closed v.apex first n
        closed = subst (λ m. Closed v.apex (put_node nodes m ((rtype, s) ∷ [])) n) (sym is) (closed_next v.apex nodes label n ((rtype, s) ∷ []) (tree_closed (label ∷ n)))

        under_owner : (q : Name) → under (label ∷ n) q ≡ under owner q
        under_owner q = under_alike (label ∷ n) owner q q (sym (ap fold is) ∙ fold-fold owner) refl

        names : (q : Name) (b : Bool) → is_eq (canonical_cmp q (fold owner)) ≡ b
            → (is_some (node_at first q) || (under q v.apex && under n q)) ≡ (is_some (node_at nodes q) || (under q v.apex && under owner q))
        names q true e =
            let same : fold q ≡ fold owner = tied q (fold owner) e ∙ fold-fold owner in
            or_left (is_some (node_at first q)) (under q v.apex && under n q) (ap is_some (put_here nodes (fold owner) ((rtype, s) ∷ []) q e))
            ∙ sym (or_right (is_some (node_at nodes q)) (under q v.apex && under owner q)
            (and_so (under q v.apex) (under owner q) (under_alike q owner v.apex v.apex same refl ∙ zone) (under_itself owner q (sym same))))
        names q false e =
            let next : under n q ≡ under owner q = under_next label n q (ap (λ m. is_eq (canonical_cmp q m)) (sym is) ∙ e) ∙ under_owner q in
            (λ i. is_some (put_apart nodes (fold owner) ((rtype, s) ∷ []) q e i) || (under q v.apex && next i))
