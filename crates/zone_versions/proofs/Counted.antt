-- How many nodes an edit builds.
use Rattle.std.proofs.Common.{◌≡◌, ℕ, ◌+◌, Bool, true, false, cond, ◌&&◌, not, if◌then◌else◌, ◌||◌, List, [], ◌∷◌, length, filter, refl, sym, ap, ◌∙◌, subst, true≢false, arith, Some, None, is_some, is_eq}
use Rattle.std.specs.Cmp.{first_so}
use Rattle.std.specs.Cmp.{tied_itself}
use Rattle.std.specs.BTreeMap.{insert_entry}
use Rattle.dns_name.specs.Names.{Name, fold, under, upwards}
use Rattle.zone_model.specs.Version.{RecordSet, Version, key_cmp, set_in, exists}
use Rattle.zone_model.specs.Edits.{with_sets, remove_set}
use Rattle.zone_model.proofs.Folded.{fold-fold, under_alike, key_total}
use Rattle.zone_model.proofs.Ordered.{lookup-insert_entry}
use Rattle.zone_versions.specs.Trees.{Nodes, IsTree, node_at, in_tree, begun, touches, built}
use Rattle.zone_versions.specs.Ways.{put_node, lacking_upwards}
use Rattle.zone_versions.proofs.Above.{under_itself, under_longer}
use Rattle.zone_versions.proofs.Existing.{and_so, or_left, or_right, in_tree_above, in_tree_alike, still_in_tree, put_exists}
use Rattle.zone_versions.proofs.Grown.{put_some, put_apart, apart_above, none_above, Closed, counted_upwards, tree_closed, apex_there, closed_next, above_apex}

-- the names that begin to exist
abbrev begins : Version → Version → Name → Bool
begins v w n = in_tree w n && not (in_tree v n)

-- none does where those that exist then did before
none_begun : (v w : Version) (owner : Name) → ((q : Name) → under (fold owner) q ≡ true → in_tree w q ≡ true → in_tree v q ≡ true) → length (begun v w owner) ≡ 0
none_begun v w owner h = ap length (none_above v.apex (begins v w) (fold owner) (λ m u. by m u (in_tree w m) refl))
  where
    by : (m : Name) → under (fold owner) m ≡ true → (b : Bool) → in_tree w m ≡ b → (b && not (in_tree v m)) ≡ false
    by m u true e = ap not (h m u e)
    by m u false e = refl

or_true : (p : Bool) → (p || true) ≡ true
or_true true = refl
or_true false = refl

module _ (v : Version) (owner : Name) (rtype : ℕ) where
  -- a set is taken out where one was, and the owner stays
  pub built_thinned : in_tree v owner ≡ true → in_tree (remove_set v owner rtype) owner ≡ true → is_some (set_in v.sets (fold owner, rtype)) ≡ true → built v (remove_set v owner rtype) owner rtype ≡ 1
  built_thinned a b c =
      (λ i. none_begun v (remove_set v owner rtype) owner (λ q u e. still_in_tree v owner rtype q e) i
      + (if and_so (in_tree v owner && in_tree (remove_set v owner rtype) owner) (touches v (remove_set v owner rtype) owner rtype) (and_so (in_tree v owner) (in_tree (remove_set v owner rtype) owner) a b)
      (or_left (is_some (set_in v.sets (fold owner, rtype))) (is_some (set_in (remove_set v owner rtype).sets (fold owner, rtype))) c) i then 1 else 0))

  -- .. or the owner goes
  pub built_shrunk : in_tree (remove_set v owner rtype) owner ≡ false → built v (remove_set v owner rtype) owner rtype ≡ 0
  built_shrunk b =
      (λ i. none_begun v (remove_set v owner rtype) owner (λ q u e. still_in_tree v owner rtype q e) i
      + (if none (in_tree v owner) (in_tree (remove_set v owner rtype) owner) (touches v (remove_set v owner rtype) owner rtype) b i then 1 else 0))
    where
      none : (p q r : Bool) → q ≡ false → ((p && q) && r) ≡ false
      none true true r e = absurd (true≢false e)
      none true false r e = refl
      none false q r e = refl

  -- .. or there was none
  pub built_nothing : set_in v.sets (fold owner, rtype) ≡ None → built v v owner rtype ≡ 0
  built_nothing e =
      (λ i. none_begun v v owner (λ q u h. h) i + (if none (in_tree v owner && in_tree v owner) (is_some (set_in v.sets (fold owner, rtype))) (ap is_some e) i then 1 else 0))
    where
      none : (p r : Bool) → r ≡ false → (p && (r || r)) ≡ false
      none true true e = absurd (true≢false e)
      none true false e = refl
      none false r e = refl

module _ (v : Version) (nodes : Nodes) (tree : IsTree v nodes) (owner : Name) (rtype : ℕ) (s : RecordSet) (zone : under owner v.apex ≡ true) where
  abbrev w : Version
  w = with_sets v (insert_entry key_cmp v.sets (fold owner, rtype) s)

  put_in_tree : (q : Name) → in_tree w q ≡ (in_tree v q || (under q v.apex && under owner q))
  put_in_tree q = ap (λ b. under q v.apex && b) (put_exists v owner rtype s q) ∙ by (under q v.apex) (exists v q) (under owner q)
    where
      by : (p q r : Bool) → (p && (q || r)) ≡ ((p && q) || (p && r))
      by true q r = refl
      by false q r = refl

  owner_stays : in_tree w owner ≡ true
  owner_stays = put_in_tree owner ∙ or_right (in_tree v owner) (under owner v.apex && under owner owner) (and_so (under owner v.apex) (under owner owner) zone (under_itself owner owner refl))

  stands : is_some (set_in w.sets (fold owner, rtype)) ≡ true
  stands = ap is_some (lookup-insert_entry key_total v.sets (fold owner, rtype) s (fold owner, rtype) ∙ ap (λ o. cond (is_eq o) (Some s) (set_in v.sets (fold owner, rtype))) (tied_itself key_total (fold owner, rtype)))

  pub built_put : in_tree v owner ≡ true → built v w owner rtype ≡ 1
  built_put a =
      (λ i. none_begun v w owner before i
      + (if and_so (in_tree v owner && in_tree w owner) (touches v w owner rtype) (and_so (in_tree v owner) (in_tree w owner) a owner_stays)
      (or_right (is_some (set_in v.sets (fold owner, rtype))) (is_some (set_in w.sets (fold owner, rtype))) stands) i then 1 else 0))
    where
      before : (q : Name) → under (fold owner) q ≡ true → in_tree w q ≡ true → in_tree v q ≡ true
      before q u e = in_tree_above v owner q (under_alike owner (fold owner) q q (sym (fold-fold owner)) refl ∙ u) (first_so (under q v.apex) _ e) a

  pub built_new : (label : List ℕ) (n : Name) → fold owner ≡ label ∷ n → node_at nodes (fold owner) ≡ None → built v w owner rtype ≡ 1 + lacking_upwards (put_node nodes (fold owner) ((rtype, s) ∷ [])) n
  built_new label n is none = (λ i. counted i + (if absent (in_tree v owner) (in_tree w owner) (touches v w owner rtype) gone i then 1 else 0)) ∙ omega arith
    where
      absent : (p q r : Bool) → p ≡ false → ((p && q) && r) ≡ false
      absent true q r e = absurd (true≢false e)
      absent false q r e = refl

      gone : in_tree v owner ≡ false
      gone = sym (in_tree_alike v (fold owner) owner (fold-fold owner)) ∙ sym (tree.names (fold owner)) ∙ ap is_some none

      first : Nodes
      first = put_node nodes (fold owner) ((rtype, s) ∷ [])

      none_there : is_some (node_at nodes (label ∷ n)) ≡ false
      none_there = ap (λ m. is_some (node_at nodes m)) (sym is) ∙ ap is_some none

      zone_at : under (label ∷ n) v.apex ≡ true
      zone_at = under_alike (label ∷ n) owner v.apex v.apex (sym (ap fold is) ∙ fold-fold owner) refl ∙ zone

      test : (m : Name) → under (label ∷ n) m ≡ true → begins v w m ≡ (under m v.apex && not (is_some (node_at nodes m)))
      test m u =
          (λ i. put_in_tree m i && not (in_tree v m)) ∙ ap (λ b. (in_tree v m || (under m v.apex && b)) && not (in_tree v m)) (under_alike owner (label ∷ n) m m (sym (sym (ap fold is) ∙ fold-fold owner)) refl ∙ u)
          ∙ by (in_tree v m) (under m v.apex) ∙ ap (λ b. under m v.apex && not b) (sym (tree.names m))
        where
          by : (p z : Bool) → ((p || (z && true)) && not p) ≡ (z && not p)
          by true true = refl
          by true false = refl
          by false true = refl
          by false false = refl

      closed : Closed v.apex first n
      closed = subst (λ m. Closed v.apex (put_node nodes m ((rtype, s) ∷ [])) n) (sym is) (closed_next v.apex nodes label n ((rtype, s) ∷ []) (tree_closed v nodes tree (label ∷ n)))

      rest : length (filter (begins v w) (upwards n)) ≡ lacking_upwards first n
      rest =
          counted_upwards v.apex (begins v w) first n
          (λ m u. test m (under_longer label n m u) ∙ ap (λ o. under m v.apex && not (is_some o)) (sym (ap (λ x. node_at (put_node nodes x ((rtype, s) ∷ [])) m) is ∙ put_apart nodes (label ∷ n) ((rtype, s) ∷ []) m (apart_above label n m u))))
          closed (above_apex v.apex label n nodes zone_at (apex_there v nodes tree) none_there) (put_some nodes (fold owner) ((rtype, s) ∷ []) v.apex (apex_there v nodes tree))

      here : begins v w (label ∷ n) ≡ true
      here = test (label ∷ n) (under_itself (label ∷ n) (label ∷ n) refl) ∙ and_so (under (label ∷ n) v.apex) (not (is_some (node_at nodes (label ∷ n)))) zone_at (ap not none_there)

      counted : length (begun v w owner) ≡ 1 + lacking_upwards first n
      counted =
          ap (λ m. length (filter (begins v w) (upwards m))) is
          ∙ ap (λ b. length (cond b ((label ∷ n) ∷ filter (begins v w) (upwards n)) (filter (begins v w) (upwards n)))) here
          ∙ omega (arith, rest)
