-- Trees after an edit, and how many nodes it builds.
use Rattle.std.proofs.Common.{◌≡◌, ℕ, ◌+◌, ◌≤◌, Bool, true, false, cond, ◌&&◌, ◌||◌, not, nat_lt, if◌then◌else◌, [], ◌∷◌, length, filter, refl, sym, ap, ◌∙◌, subst, true≢false, arith, Ordering, Less, Equal, Greater, Option, Some, None, is_some, is_eq, nat_cmp, le-leb, Result, Ok, Err, OnOk, OnErr, unwrap_or}
use Rattle.std.specs.Ordering.{ordering_reverse}
use Rattle.std.specs.Cmp.{Equal-is, tied_itself, nat_cmp_total}
use Rattle.std.specs.List.{AllByRecursion}
use Rattle.std.specs.List.Sorted.{IsStrictlySortedBy}
use Rattle.std.specs.BTreeMap.{insert_entry, is_at}
use Rattle.std.specs.Map.{lookup, keys_of, values_of, remove_entry}
use Rattle.std.proofs.lemmas.Map.Keys.{sorted_head}
use Rattle.std.proofs.lemmas.Map.Lookups.{exact_unsigned}
use Rattle.dns_name.specs.Names.{Name, fold, under, canonical_cmp}
use Rattle.zone_model.specs.Version.{RecordSet, Key, Sets, Version, key_cmp, has_key, set_in, exists}
use Rattle.zone_model.specs.Edits.{with_sets, remove_set}
use Rattle.zone_model.proofs.Steps.{Good}
use Rattle.zone_versions.specs.Trees.{NodeSets, Nodes, IsHeld, IsTree, has_records, node_at, sets_of, in_tree, with_set, built, type_in, set_of_type}
use Rattle.zone_versions.specs.Ways.{put_node, add_upwards, lacking_upwards, add_above, lacking_above, put_held, put_steps, version_of, topmost, stays_at, climb, node_stays, taken_out, remove_held, remove_steps}
use Rattle.zone_versions.proofs.Flat.{set_in-sets_of, sets_of-good}
use Rattle.zone_versions.proofs.Above.{under_root}
use Rattle.zone_versions.proofs.Kept.{nothing_held, nodes_put, is_put, sets_removed}
use Rattle.zone_versions.proofs.Existing.{any_under, any_sets, others_stay}
use Rattle.zone_versions.proofs.Grown.{node_alike, types_removed, put_is, apex_there, same_apex, tree_put, tree_new}
use Rattle.zone_versions.proofs.Shrunk.{next_in_zone, tree_thinned, tree_shrunk}
use Rattle.zone_versions.proofs.Counted.{built_thinned, built_shrunk, built_nothing, built_put, built_new}

held_there : (nodes : Nodes) (n : Name) (held : NodeSets) → AllByRecursion IsHeld (values_of nodes) → node_at nodes n ≡ Some held → IsHeld held
held_there [] n held a h = absurd (true≢false (sym (ap is_some h)))
held_there (e ∷ nodes) n held a h = by (is_eq (canonical_cmp n e.0)) h (λ g. held_there nodes n held a.1 g)
  where
    by : (b : Bool) → cond b (Some e.1) (node_at nodes n) ≡ Some held → (node_at nodes n ≡ Some held → IsHeld held) → IsHeld held
    by true g later = subst IsHeld (ap (λ o. unwrap_or o held) g) a.0
    by false g later = later g

-- the nodes' own version
pub own_version : (w : Version) (nodes : Nodes) → IsTree w nodes → version_of w.apex w.class nodes ≡ w
own_version w nodes t = λ i. record { apex = w.apex; class = w.class; sets = t.sets i }

pub own_tree : (w : Version) (nodes : Nodes) → IsTree w nodes → IsTree (version_of w.apex w.class nodes) nodes
own_tree w nodes t = subst (λ v. IsTree v nodes) (sym (own_version w nodes t)) t

module _ (v : Version) (nodes : Nodes) (tree : IsTree v nodes) (o : Name) (f : fold o ≡ o) (rtype : ℕ) (zone : under o v.apex ≡ true) where
  no_root : (m : Name) → o ≡ m → m ≡ [] → node_at nodes o ≡ None → ⊥
  no_root m e r none =
      let root : under [] v.apex ≡ true = subst (λ x. under x v.apex ≡ true) (e ∙ r) zone in
      true≢false (sym (ap is_some (node_alike nodes o v.apex (ap fold (e ∙ r) ∙ under_root v.apex root)) ∙ apex_there v nodes tree) ∙ ap is_some none)

  there : (held : NodeSets) → node_at nodes o ≡ Some held → in_tree v o ≡ true
  there held h = sym (tree.names o) ∙ ap is_some h

  -- ---- a set is put

  abbrev put_then : RecordSet → Version
  put_then s = with_sets v (insert_entry key_cmp v.sets (fold o, rtype) s)

  module _ (s : RecordSet) (full : has_records (rtype, s) ≡ true) where
    put_tree_at : (x : Option NodeSets) → node_at nodes o ≡ x → IsTree (put_then s) (put_held nodes o rtype s x)
    put_tree_at (Some held) h =
        subst (λ n. IsTree (put_then s) (put_node nodes n (insert_entry nat_cmp held rtype s))) f
        (tree_put v nodes tree o rtype s zone full held (ap (node_at nodes) f ∙ h) (held_there nodes o held tree.are_nodes.held h))
    put_tree_at None h = by o refl
      where
        by : (m : Name) → o ≡ m → IsTree (put_then s) (add_above (put_node nodes o ((rtype, s) ∷ [])) m)
        by [] e = absurd (no_root [] e refl h)
        by (l ∷ n) e =
            subst (λ m. IsTree (put_then s) (add_upwards (put_node nodes m ((rtype, s) ∷ [])) n)) f
            (tree_new v nodes tree o rtype s zone full l n (f ∙ e) (ap (node_at nodes) f ∙ h))

    pub put_tree : IsTree (put_then s) (put_held nodes o rtype s (node_at nodes o))
    put_tree = put_tree_at (node_at nodes o) refl

    put_count_at : (x : Option NodeSets) → node_at nodes o ≡ x → built v (put_then s) o rtype ≡ put_steps nodes o rtype s x
    put_count_at (Some held) h = built_put v nodes tree o rtype s zone (there held h)
    put_count_at None h = by o refl
      where
        by : (m : Name) → o ≡ m → built v (put_then s) o rtype ≡ 1 + lacking_above (put_node nodes o ((rtype, s) ∷ [])) m
        by [] e = absurd (no_root [] e refl h)
        by (l ∷ n) e = built_new v nodes tree o rtype s zone l n (f ∙ e) (ap (node_at nodes) f ∙ h) ∙ ap (λ m. 1 + lacking_upwards (put_node nodes m ((rtype, s) ∷ [])) n) f

    pub put_count : built v (put_then s) o rtype ≡ put_steps nodes o rtype s (node_at nodes o)
    put_count = put_count_at (node_at nodes o) refl

  -- ---- a set is taken out

  abbrev left_then : Version
  left_then = remove_set v o rtype

  set_there : set_in v.sets (o, rtype) ≡ type_in (node_at nodes o) rtype
  set_there = ap (λ es. set_in es (o, rtype)) (sym tree.sets) ∙ set_in-sets_of nodes o rtype tree.are_nodes.ordered

  remove_absent : (test : Key → Bool) (es : Sets) → lookup test es ≡ None → remove_entry test es ≡ es
  remove_absent test [] h = refl
  remove_absent test (e ∷ es) h = by (test e.0) h (λ g. remove_absent test es g)
    where
      by : (b : Bool) → cond b (Some e.1) (lookup test es) ≡ None → (lookup test es ≡ None → remove_entry test es ≡ es) → cond b es (e ∷ remove_entry test es) ≡ e ∷ es
      by true g later = absurd (true≢false (ap is_some g))
      by false g later = ap (λ l. e ∷ l) (later g)

  -- nothing is there
  module _ (none : type_in (node_at nodes o) rtype ≡ None) where
    absent : set_in v.sets (fold o, rtype) ≡ None
    absent = ap (λ n. set_in v.sets (n, rtype)) f ∙ set_there ∙ none

    same_then : left_then ≡ v
    same_then = ap (with_sets v) (remove_absent (has_key (fold o, rtype)) v.sets absent)

    nothing_tree : IsTree left_then nodes
    nothing_tree = subst (λ x. IsTree x nodes) (sym same_then) tree

    nothing_count : built v left_then o rtype ≡ 0
    nothing_count = ap (λ x. built v x o rtype) same_then ∙ built_nothing v o rtype absent

  -- a set is there
  module _ (held : NodeSets) (at : node_at nodes o ≡ Some held) (s : RecordSet) (found : set_of_type held rtype ≡ Some s) where
    good : IsHeld held
    good = held_there nodes o held tree.are_nodes.held at

    good_sets : Good v.sets
    good_sets = subst Good tree.sets (sets_of-good nodes tree.are_nodes)

    other_stays : (t : ℕ) → is_eq (nat_cmp t rtype) ≡ false → is_some (set_of_type held t) ≡ true → in_tree left_then o ≡ true
    other_stays t apart h =
        others_stay v o rtype o t good_sets zone (is_put o (fold o) t rtype ∙ ap (λ b. is_eq (canonical_cmp o (fold o)) && b) apart ∙ and_false (is_eq (canonical_cmp o (fold o))))
        (ap is_some (ap (λ es. set_in es (o, t)) (sym tree.sets) ∙ set_in-sets_of nodes o t tree.are_nodes.ordered ∙ ap (λ x. type_in x t) at) ∙ h)
      where
        and_false : (b : Bool) → (b && false) ≡ false
        and_false true = refl
        and_false false = refl

    -- another type is there too
    more_stay : (xs : NodeSets) → held ≡ xs → nat_lt 1 (length xs) ≡ true → in_tree left_then o ≡ true
    more_stay [] e h = absurd (true≢false (sym h))
    more_stay (x ∷ []) e h = absurd (true≢false (sym h))
    more_stay (x ∷ y ∷ xs) e h = by (is_eq (nat_cmp rtype x.0)) refl
      where
        less : nat_cmp x.0 y.0 ≡ Less
        less = (sorted_head nat_cmp x.0 (keys_of (y ∷ xs)) (subst (λ l. IsStrictlySortedBy nat_cmp (keys_of l)) e good.ordered)).0

        turned : (a b : ℕ) → is_eq (nat_cmp a b) ≡ false → is_eq (nat_cmp b a) ≡ false
        turned a b q = ap is_eq (nat_cmp_total.antisymm b a) ∙ by (nat_cmp a b) q
          where
            by : (r : Ordering) → is_eq r ≡ false → is_eq (ordering_reverse r) ≡ false
            by Less g = refl
            by Equal g = absurd (true≢false g)
            by Greater g = refl

        either : (b : Bool) → is_some (cond b (Some x.1) (cond true (Some y.1) (set_of_type xs y.0))) ≡ true
        either true = refl
        either false = refl

        by : (b : Bool) → is_eq (nat_cmp rtype x.0) ≡ b → in_tree left_then o ≡ true
        by true q =
            other_stays y.0 (ap (λ n. is_eq (nat_cmp y.0 n)) (exact_unsigned rtype x.0 ((Equal-is (nat_cmp rtype x.0)).0 q)) ∙ turned x.0 y.0 (ap is_eq less))
            (ap (λ l. is_some (set_of_type l y.0)) e ∙ ap (λ r. is_some (cond (is_eq (nat_cmp y.0 x.0)) (Some x.1) (cond (is_eq r) (Some y.1) (set_of_type xs y.0)))) (tied_itself nat_cmp_total y.0) ∙ either (is_eq (nat_cmp y.0 x.0)))
        by false q = other_stays x.0 (turned rtype x.0 q) (ap (λ l. is_some (set_of_type l x.0)) e ∙ ap (λ r. is_some (cond (is_eq r) (Some x.1) (set_of_type (y ∷ xs) x.0))) (tied_itself nat_cmp_total x.0))

    -- or none is
    one_left : (xs : NodeSets) → held ≡ xs → nat_lt 1 (length xs) ≡ false → remove_entry (is_at (nat_cmp rtype)) xs ≡ []
    one_left [] e h = refl
    one_left (x ∷ []) e h = by (is_eq (nat_cmp rtype x.0)) (sym (ap (λ l. set_of_type l rtype) e) ∙ found)
      where
        by : (b : Bool) → cond b (Some x.1) None ≡ Some s → cond b [] (x ∷ []) ≡ []
        by true g = refl
        by false g = absurd (true≢false (sym (ap is_some g)))
    one_left (x ∷ y ∷ xs) e h = absurd (true≢false (sym (le-leb 2 (length (x ∷ y ∷ xs)) (omega arith)) ∙ h))

    -- ---- which names then exist

    module _ (one : nat_lt 1 (length held) ≡ false) where
      emptied : Nodes
      emptied = put_node nodes o []

      emptied_sets : sets_of (put_node nodes o []) ≡ left_then.sets
      emptied_sets =
          sets_removed nodes (put_node nodes o []) (fold o) rtype tree.are_nodes (nodes_put nodes o [] f nothing_held tree.are_nodes)
          (λ q t. ap (λ x. type_in (node_at (put_node nodes o x) q) t) (sym (one_left held refl one)) ∙ types_removed nodes o held rtype good (λ t. ap (λ x. type_in x t) at) q t
          ∙ ap (λ n. cond (is_eq (canonical_cmp q n) && is_eq (nat_cmp t rtype)) None (type_in (node_at nodes q) t)) (sym f))
          ∙ ap (remove_entry (has_key (fold o, rtype))) tree.sets

      stays_is : (n : Name) → under n v.apex ≡ true → in_tree left_then n ≡ stays_at nodes (fold v.apex) o n
      stays_is n z =
          ap (λ b. b && exists left_then n) z ∙ (λ i. same_apex v.apex n z i || (ap (λ es. any_under es n) (sym emptied_sets) ∙ any_sets n (put_node nodes o [])) i)

      climb_is : (n : Name) → under n v.apex ≡ true → in_tree left_then n ≡ false → climb nodes (fold v.apex) o n ≡ topmost left_then n
      climb_is [] z h = refl
      climb_is (l ∷ n) z h =
          (λ i. cond (sym (stays_is n z1) i) (l ∷ n) (climb nodes (fold v.apex) o n)) ∙ by (in_tree left_then n) refl (λ g. climb_is n z1 g)
        where
          z1 : under n v.apex ≡ true
          z1 = next_in_zone left_then l n z h

          by : (b : Bool) → in_tree left_then n ≡ b → (in_tree left_then n ≡ false → climb nodes (fold v.apex) o n ≡ topmost left_then n) → cond b (l ∷ n) (climb nodes (fold v.apex) o n) ≡ cond b (l ∷ n) (topmost left_then n)
          by true e later = refl
          by false e later = later e

    -- the owner's node stays where the owner exists
    node_stays_is : node_stays nodes (fold v.apex) o held ≡ in_tree left_then o
    node_stays_is = by (nat_lt 1 (length held)) refl
      where
        by : (b : Bool) → nat_lt 1 (length held) ≡ b → (b || stays_at nodes (fold v.apex) o o) ≡ in_tree left_then o
        by true e = sym (more_stay held refl e)
        by false e = sym (stays_is e o zone)

    taken_tree : IsTree left_then (taken_out nodes (fold v.apex) o rtype held)
    taken_tree = by (node_stays nodes (fold v.apex) o held) refl
      where
        few : (b : Bool) → nat_lt 1 (length held) ≡ b → in_tree left_then o ≡ false → b ≡ false
        few true e g = absurd (true≢false (sym (more_stay held refl e) ∙ g))
        few false e g = refl

        by : (b : Bool) → node_stays nodes (fold v.apex) o held ≡ b
            → IsTree left_then (if b then put_node nodes o (remove_entry (is_at (nat_cmp rtype)) held) else filter (λ (e : Name × NodeSets). not (under e.0 (climb nodes (fold v.apex) o o))) nodes)
        by true e =
            subst (λ n. IsTree left_then (put_node nodes n (remove_entry (is_at (nat_cmp rtype)) held))) f
            (tree_thinned v nodes tree o rtype held (ap (node_at nodes) f ∙ at) good (sym node_stays_is ∙ e))
        by false e =
            let gone : in_tree left_then o ≡ false = sym node_stays_is ∙ e in
            let one : nat_lt 1 (length held) ≡ false = few (nat_lt 1 (length held)) refl gone in
            subst (λ top. IsTree left_then (filter (λ (x : Name × NodeSets). not (under x.0 top)) nodes)) (ap (topmost left_then) f ∙ sym (climb_is one o zone gone))
            (tree_shrunk v nodes tree o rtype zone gone)

    taken_count : built v left_then o rtype ≡ (if node_stays nodes (fold v.apex) o held then 1 else 0)
    taken_count = by (node_stays nodes (fold v.apex) o held) refl
      where
        by : (b : Bool) → node_stays nodes (fold v.apex) o held ≡ b → built v left_then o rtype ≡ (if b then 1 else 0)
        by true e =
            built_thinned v o rtype (there held at) (sym node_stays_is ∙ e)
            (ap is_some (ap (λ n. set_in v.sets (n, rtype)) f ∙ set_there ∙ ap (λ x. type_in x rtype) at ∙ found))
        by false e = built_shrunk v o rtype (sym node_stays_is ∙ e)

  remove_tree_at : (x : Option NodeSets) → node_at nodes o ≡ x → IsTree left_then (remove_held nodes (fold v.apex) o rtype x)
  remove_tree_at None h = nothing_tree (ap (λ x. type_in x rtype) h)
  remove_tree_at (Some held) h = by (set_of_type held rtype) refl
    where
      by : (y : Option RecordSet) → set_of_type held rtype ≡ y → IsTree left_then (if is_some y then taken_out nodes (fold v.apex) o rtype held else nodes)
      by None e = nothing_tree (ap (λ x. type_in x rtype) h ∙ e)
      by (Some s) e = taken_tree held h s e

  pub remove_tree : IsTree left_then (remove_held nodes (fold v.apex) o rtype (node_at nodes o))
  remove_tree = remove_tree_at (node_at nodes o) refl

  remove_count_at : (x : Option NodeSets) → node_at nodes o ≡ x → built v left_then o rtype ≡ remove_steps nodes (fold v.apex) o rtype x
  remove_count_at None h = nothing_count (ap (λ x. type_in x rtype) h)
  remove_count_at (Some held) h = by (set_of_type held rtype) refl
    where
      by : (y : Option RecordSet) → set_of_type held rtype ≡ y → built v left_then o rtype ≡ (if is_some y && node_stays nodes (fold v.apex) o held then 1 else 0)
      by None e = nothing_count (ap (λ x. type_in x rtype) h ∙ e)
      by (Some s) e = taken_count held h s e

  pub remove_count : built v left_then o rtype ≡ remove_steps nodes (fold v.apex) o rtype (node_at nodes o)
  remove_count = remove_count_at (node_at nodes o) refl

-- ---- after a step that may fail

module _ (apex : Name) (class : ℕ) (nodes : Nodes) (tree : IsTree (version_of apex class nodes) nodes) (o : Name) (f : fold o ≡ o) (rtype : ℕ) (zone : under o apex ≡ true) where
  abbrev before : Version
  before = version_of apex class nodes

  as_tree : (w : Version) (now made : Nodes) → w.apex ≡ apex → w.class ≡ class → now ≡ made → IsTree w made → IsTree (version_of apex class now) now
  as_tree w now made a b e t = subst (λ n. IsTree (version_of apex class n) n) (sym e) (subst (λ x. IsTree (version_of x class made) made) a (subst (λ y. IsTree (version_of w.apex y made) made) b (own_tree w made t)))

  module _ (s : RecordSet) (full : 1 ≤ length s.items) (now : Nodes) where
    has : has_records (rtype, s) ≡ true
    has = le-leb 1 (length s.items) full

    pub put_result : {T E : Type 0} (r : Result T E) → OnOk r (now ≡ put_held nodes o rtype s (node_at nodes o)) → OnErr r (now ≡ nodes) → IsTree (version_of apex class now) now
    put_result (Ok x) ok err = as_tree (put_then before nodes tree o f rtype zone s) now (put_held nodes o rtype s (node_at nodes o)) refl refl ok (put_tree before nodes tree o f rtype zone s has)
    put_result (Err x) ok err = subst (λ n. IsTree (version_of apex class n) n) (sym err) tree

    put_same : now ≡ put_held nodes o rtype s (node_at nodes o) → version_of apex class now ≡ put_then before nodes tree o f rtype zone s
    put_same e = ap (version_of apex class) e ∙ own_version (put_then before nodes tree o f rtype zone s) (put_held nodes o rtype s (node_at nodes o)) (put_tree before nodes tree o f rtype zone s has)

    pub put_view : now ≡ put_held nodes o rtype s (node_at nodes o) → version_of apex class now ≡ with_set before o rtype (Some s)
    put_view e = put_same e ∙ sym (put_is before o rtype s has)

    pub put_built : now ≡ put_held nodes o rtype s (node_at nodes o) → built before (version_of apex class now) o rtype ≡ put_steps nodes o rtype s (node_at nodes o)
    put_built e = ap (λ w. built before w o rtype) (put_same e) ∙ put_count before nodes tree o f rtype zone s has

  module _ (key : Name) (at : key ≡ fold apex) (now : Nodes) where
    remove_then : IsTree (remove_set before o rtype) (remove_held nodes key o rtype (node_at nodes o))
    remove_then = subst (λ k. IsTree (remove_set before o rtype) (remove_held nodes k o rtype (node_at nodes o))) (sym at) (remove_tree before nodes tree o f rtype zone)

    pub remove_result : {T E : Type 0} (r : Result T E) → OnOk r (now ≡ remove_held nodes key o rtype (node_at nodes o)) → OnErr r (now ≡ nodes) → IsTree (version_of apex class now) now
    remove_result (Ok x) ok err = as_tree (remove_set before o rtype) now (remove_held nodes key o rtype (node_at nodes o)) refl refl ok remove_then
    remove_result (Err x) ok err = subst (λ n. IsTree (version_of apex class n) n) (sym err) tree

    pub remove_view : now ≡ remove_held nodes key o rtype (node_at nodes o) → version_of apex class now ≡ remove_set before o rtype
    remove_view e = ap (version_of apex class) e ∙ own_version (remove_set before o rtype) (remove_held nodes key o rtype (node_at nodes o)) remove_then

    pub remove_built : now ≡ remove_held nodes key o rtype (node_at nodes o) → built before (version_of apex class now) o rtype ≡ remove_steps nodes key o rtype (node_at nodes o)
    remove_built e =
        ap (λ w. built before w o rtype) (remove_view e) ∙ remove_count before nodes tree o f rtype zone ∙ ap (λ k. remove_steps nodes k o rtype (node_at nodes o)) (sym at)
