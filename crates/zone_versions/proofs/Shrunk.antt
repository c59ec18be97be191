-- A set that is taken out, and the nodes of the names that then no longer exist.
use Rattle.std.proofs.Common.{◌≡◌, ℕ, Bool, true, false, cond, ◌&&◌, not, List, [], ◌∷◌, filter, refl, sym, ap, ◌∙◌, subst, true≢false, ◌⊎◌, inl, inr, ⊎_elim, Option, Some, None, is_some, is_eq, nat_cmp}
use Rattle.std.specs.Cmp.{first_so}
use Rattle.std.specs.BTreeMap.{is_at}
use Rattle.std.specs.Map.{remove_entry}
use Rattle.dns_name.specs.Names.{Name, fold, under, canonical_cmp}
use Rattle.zone_model.specs.Version.{RecordSet, Version, has_key, set_in}
use Rattle.zone_model.specs.Edits.{remove_set}
use Rattle.zone_model.proofs.Folded.{fold-fold, under_alike}
use Rattle.zone_model.proofs.Steps.{Good}
use Rattle.zone_versions.specs.Trees.{NodeSets, Nodes, AreNodes, IsHeld, IsTree, node_at, sets_of, in_tree, type_in}
use Rattle.zone_versions.specs.Ways.{put_node, topmost}
use Rattle.zone_versions.proofs.Flat.{set_in-sets_of, sets_of-good}
use Rattle.zone_versions.proofs.Above.{under_itself, under_trans, under_longer, under_cases, under_root, tied}
use Rattle.zone_versions.proofs.Kept.{held_remove, nodes_put, nodes_filter, node_at-filter, edited_at, is_put, sets_removed}
use Rattle.zone_versions.proofs.Existing.{in_tree_above, in_tree_alike, apex_in_tree, left, still_in_tree, gone_from_tree, others_stay}
use Rattle.zone_versions.proofs.Grown.{node_alike, put_here, put_apart, types_removed, same_tests}

-- ---- the topmost name that doesn't exist

module _ (w : Version) where
  pub next_in_zone : (l : List ℕ) (n : Name) → under (l ∷ n) w.apex ≡ true → in_tree w (l ∷ n) ≡ false → under n w.apex ≡ true
  next_in_zone l n z h = ⊎_elim (λ e. absurd (true≢false (sym (apex_in_tree w (l ∷ n) e) ∙ h))) (λ u. u) (under_cases l n w.apex z)

  pub topmost_gone : (n : Name) → under n w.apex ≡ true → in_tree w n ≡ false → (in_tree w (topmost w n) ≡ false) × (under (topmost w n) w.apex ≡ true)
  topmost_gone [] z h = (h, z)
  topmost_gone (l ∷ n) z h = by (in_tree w n) refl (topmost_gone n (next_in_zone l n z h))
    where
      by : (b : Bool) → in_tree w n ≡ b → (in_tree w n ≡ false → (in_tree w (topmost w n) ≡ false) × (under (topmost w n) w.apex ≡ true))
          → (in_tree w (cond b (l ∷ n) (topmost w n)) ≡ false) × (under (cond b (l ∷ n) (topmost w n)) w.apex ≡ true)
      by true e later = (h, z)
      by false e later = later e

  -- the names that don't exist, and are at or above a name or at or below it, are at or below the topmost
  pub topmost_covers : (n : Name) → under n w.apex ≡ true → in_tree w n ≡ false → (q : Name) → under q w.apex ≡ true → in_tree w q ≡ false → (under n q ≡ true) ⊎ (under q n ≡ true) → under q (topmost w n) ≡ true
  topmost_covers [] z h q y g u = ⊎_elim (λ a. under_itself q [] (sym (under_root q a))) (λ b. b) u
  topmost_covers (l ∷ n) z h q y g u = by (in_tree w n) refl (λ e. topmost_covers n (next_in_zone l n z h) e q y g below)
    where
      up : under (l ∷ n) n ≡ true
      up = under_longer l n n (under_itself n n refl)

      below : (under n q ≡ true) ⊎ (under q n ≡ true)
      below = ⊎_elim (λ a. ⊎_elim (λ e. inr (under_trans q (l ∷ n) n (under_itself q (l ∷ n) (sym e)) up)) (λ b. inl b) (under_cases l n q a)) (λ b. inr (under_trans q (l ∷ n) n b up)) u

      by : (b : Bool) → in_tree w n ≡ b → (in_tree w n ≡ false → under q (topmost w n) ≡ true) → under q (cond b (l ∷ n) (topmost w n)) ≡ true
      by true e later =
          ⊎_elim (λ a. ⊎_elim (λ f. under_itself q (l ∷ n) (sym f)) (λ b. absurd (true≢false (sym (in_tree_above w n q b y e) ∙ g))) (under_cases l n q a)) (λ b. b) u
      by false e later = later e

-- ---- trees

module _ (v : Version) (nodes : Nodes) (tree : IsTree v nodes) (owner : Name) (rtype : ℕ) where
  -- the version then
  abbrev w : Version
  w = left v owner rtype

  sets_then : (after : Nodes) → AreNodes after → ((q : Name) (t : ℕ) → type_in (node_at after q) t ≡ edited_at (fold owner) rtype None q t (type_in (node_at nodes q) t)) → sets_of after ≡ w.sets
  sets_then after a h = sets_removed nodes after (fold owner) rtype tree.are_nodes a h ∙ ap (remove_entry (has_key (fold owner, rtype))) tree.sets

  -- the owner exists still: its node loses the set
  pub tree_thinned : (held : NodeSets) → node_at nodes (fold owner) ≡ Some held → IsHeld held → in_tree w owner ≡ true → IsTree (remove_set v owner rtype) (put_node nodes (fold owner) (remove_entry (is_at (nat_cmp rtype)) held))
  tree_thinned held there good stays = record {
    are_nodes = a;
    sets = sets_then after a (types_removed nodes (fold owner) held rtype good (λ t. ap (λ o. type_in o t) there));
    names = λ q. names q (is_eq (canonical_cmp q (fold owner))) refl ∙ tree.names q ∙ same_tests (in_tree v q) (in_tree w q) (kept q) (still_in_tree v owner rtype q);
  }
    where
      after : Nodes
      after = put_node nodes (fold owner) (remove_entry (is_at (nat_cmp rtype)) held)

      a : AreNodes after
      a = nodes_put nodes (fold owner) (remove_entry (is_at (nat_cmp rtype)) held) (fold-fold owner) (held_remove held rtype good) tree.are_nodes

      names : (q : Name) (b : Bool) → is_eq (canonical_cmp q (fold owner)) ≡ b → is_some (node_at after q) ≡ is_some (node_at nodes q)
      names q true e = ap is_some (put_here nodes (fold owner) (remove_entry (is_at (nat_cmp rtype)) held) q e) ∙ sym (ap is_some (node_alike nodes q (fold owner) (tied q (fold owner) e) ∙ there))
      names q false e = ap is_some (put_apart nodes (fold owner) (remove_entry (is_at (nat_cmp rtype)) held) q e)

      kept : (q : Name) → in_tree v q ≡ true → in_tree w q ≡ true
      kept q h = by (in_tree w q) refl
        where
          by : (b : Bool) → in_tree w q ≡ b → b ≡ true
          by true e = refl
          by false e = absurd (true≢false (sym (in_tree_above w owner q (gone_from_tree v owner rtype q h e) (first_so (under q v.apex) _ h) stays) ∙ e))

  -- it doesn't: its node goes, and all at or below the topmost name that doesn't exist
  pub tree_shrunk : under owner v.apex ≡ true → in_tree w owner ≡ false → IsTree (remove_set v owner rtype) (filter (λ (e : Name × NodeSets). not (under e.0 (topmost w (fold owner)))) nodes)
  tree_shrunk zone gone = record {
    are_nodes = a;
    sets = sets_then after a types;
    names = names;
  }
    where
      o : Name
      o = fold owner

      top : Name
      top = topmost w o

      after : Nodes
      after = filter (λ (e : Name × NodeSets). not (under e.0 top)) nodes

      a : AreNodes after
      a = nodes_filter (λ e. not (under e.0 top)) nodes tree.are_nodes

      zone_o : under o w.apex ≡ true
      zone_o = under_alike o owner v.apex v.apex (fold-fold owner) refl ∙ zone

      gone_o : in_tree w o ≡ false
      gone_o = in_tree_alike w o owner (fold-fold owner) ∙ gone

      found : (q : Name) → node_at after q ≡ cond (not (under q top)) (node_at nodes q) None
      found q = node_at-filter (λ m. not (under m top)) (λ m n e. ap not (under_alike m n top top e refl)) nodes q

      at_top : (in_tree w top ≡ false) × (under top w.apex ≡ true)
      at_top = topmost_gone w o zone_o gone_o

      owner_under : under o top ≡ true
      owner_under = topmost_covers w o zone_o gone_o o zone_o gone_o (inl (under_itself o o refl))

      -- what is under the topmost doesn't exist
      under_gone : (q : Name) → under q top ≡ true → in_tree w q ≡ false
      under_gone q u = by (in_tree w q) refl
        where
          by : (b : Bool) → in_tree w q ≡ b → b ≡ false
          by true e = absurd (true≢false (sym (in_tree_above w q top u at_top.1 e) ∙ at_top.0))
          by false e = refl

      -- what no longer exists is under it
      gone_under : (q : Name) → in_tree v q ≡ true → in_tree w q ≡ false → under q top ≡ true
      gone_under q h g =
          topmost_covers w o zone_o gone_o q (first_so (under q v.apex) _ h) g (inl (under_alike o owner q q (fold-fold owner) refl ∙ gone_from_tree v owner rtype q h g))

      names : (q : Name) → is_some (node_at after q) ≡ in_tree w q
      names q = ap is_some (found q) ∙ by (under q top) refl
        where
          by : (b : Bool) → under q top ≡ b → is_some (cond (not b) (node_at nodes q) None) ≡ in_tree w q
          by true u = sym (under_gone q u)
          by false u =
              tree.names q ∙ same_tests (in_tree v q) (in_tree w q) (λ h. kept h (in_tree w q) refl) (still_in_tree v owner rtype q)
            where
              kept : in_tree v q ≡ true → (c : Bool) → in_tree w q ≡ c → c ≡ true
              kept h true e = refl
              kept h false e = absurd (true≢false (sym (gone_under q h e) ∙ u))

      good : Good v.sets
      good = subst Good tree.sets (sets_of-good nodes tree.are_nodes)

      -- only the owner's set is left of the names that no longer exist
      nothing_else : (q : Name) (t : ℕ) → under q top ≡ true → (is_eq (canonical_cmp q o) && is_eq (nat_cmp t rtype)) ≡ false → type_in (node_at nodes q) t ≡ None
      nothing_else q t u apart = by (type_in (node_at nodes q) t) refl
        where
          seen : set_in v.sets (q, t) ≡ type_in (node_at nodes q) t
          seen = ap (λ es. set_in es (q, t)) (sym tree.sets) ∙ set_in-sets_of nodes q t tree.are_nodes.ordered

          has_node : (x : Option NodeSets) (s : RecordSet) → type_in x t ≡ Some s → is_some x ≡ true
          has_node None s e = ap is_some e
          has_node (Some y) s e = refl

          by : (x : Option RecordSet) → type_in (node_at nodes q) t ≡ x → x ≡ None
          by None e = refl
          by (Some s) e =
              absurd (true≢false (sym (others_stay v owner rtype q t good (first_so (under q v.apex) _ (sym (tree.names q) ∙ has_node (node_at nodes q) s e)) (is_put q o t rtype ∙ apart) (ap is_some (seen ∙ e))) ∙ under_gone q u))

      types : (q : Name) (t : ℕ) → type_in (node_at after q) t ≡ edited_at o rtype None q t (type_in (node_at nodes q) t)
      types q t = ap (λ x. type_in x t) (found q) ∙ by (under q top) (is_eq (canonical_cmp q o)) (is_eq (nat_cmp t rtype)) refl refl refl
        where
          by : (b c d : Bool) → under q top ≡ b → is_eq (canonical_cmp q o) ≡ c → is_eq (nat_cmp t rtype) ≡ d
              → type_in (cond (not b) (node_at nodes q) None) t ≡ cond (c && d) None (type_in (node_at nodes q) t)
          by true true true u e f = refl
          by true true false u e f = sym (nothing_else q t u (λ i. e i && f i))
          by true false d u e f = sym (nothing_else q t u (λ i. e i && is_eq (nat_cmp t rtype)))
          by false true d u e f = absurd (true≢false (sym (under_alike q o top top (tied q o e) refl ∙ owner_under) ∙ u))
          by false false d u e f = refl
