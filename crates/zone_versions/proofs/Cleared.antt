-- All sets at and below a name are taken out, and the nodes of the names that then no longer exist.
use Rattle.std.proofs.Common.{◌≡◌, ℕ, Bool, true, false, cond, ◌&&◌, ◌||◌, ◌==◌, not, if◌then◌else◌, List, [], ◌∷◌, length, filter, map, refl, sym, ap, ◌∙◌, subst, true≢false, ◌⊎◌, inl, ⊎_elim, Option, Some, None, is_some, is_eq, is_le, Less, Result, Ok, Err, OnOk, OnErr}
use Rattle.std.specs.Cmp.{tied_itself, first_so, second_so}
use Rattle.std.specs.Iterator.{YieldsFirst}
use Rattle.std.specs.List.{list_any, AllByRecursion}
use Rattle.std.specs.List.Sorted.{IsStrictlySortedBy}
use Rattle.std.specs.Map.{keys_of}
use Rattle.std.proofs.lemmas.Map.Keys.{sorted_head}
use Rattle.dns_name.specs.Names.{Name, fold, same_name, under, canonical_cmp}
use Rattle.dns_name.specs.NameOrder.{canonical_total}
use Rattle.name_keys.specs.NameKeys.{name_key, name_of_key}
use Rattle.paged_map.specs.Octets.{octets_cmp, begins_with}
use Rattle.zone_model.specs.Version.{RecordSet, Key, Sets, Version, exists}
use Rattle.zone_model.specs.Edits.{with_sets, clear}
use Rattle.zone_model.proofs.Folded.{under_alike}
use Rattle.zone_values.specs.TypedSets.{TypedSet}
use Rattle.zone_versions.specs.Held.{told}
use Rattle.zone_versions.specs.Trees.{NodeSets, Nodes, IsTree, node_at, sets_of, in_tree}
use Rattle.zone_versions.specs.Ways.{any_held, version_of, topmost, highest_below, outside, stays_without, clear_held}
use Rattle.zone_versions.specs.Keyed.{Keyed, named, AreKeys, holds_outside}
use Rattle.zone_versions.proofs.Flat.{sets_filtered}
use Rattle.zone_versions.proofs.Above.{under_itself, under_trans, under_either, same_is}
use Rattle.zone_versions.proofs.Kept.{nodes_filter, node_at-filter}
use Rattle.zone_versions.proofs.Existing.{any_under, any_sets, or_so, or_left, or_right, and_so, no_right, in_tree_above}
use Rattle.zone_versions.proofs.Grown.{same_tests, same_apex}
use Rattle.zone_versions.proofs.Shrunk.{next_in_zone, topmost_gone, topmost_covers}
use Rattle.zone_versions.proofs.Scan.{OneKept, begins_after, begins_between}
use Rattle.zone_versions.proofs.Named.{nested}
use Rattle.zone_versions.proofs.Edited.{own_version, own_tree}

no_left : (p q : Bool) → (p || q) ≡ false → p ≡ false
no_left true q e = e
no_left false q e = refl

no_second : (p q : Bool) → p ≡ true → (p && q) ≡ false → q ≡ false
no_second true q e k = k
no_second false q e k = absurd (true≢false (sym e))

-- ---- names and their nodes

keys_found : (nodes : Nodes) → AllByRecursion (λ (k : Name). is_some (node_at nodes k) ≡ true) (keys_of nodes)
keys_found [] = tt
keys_found (e ∷ nodes) = (ap (λ o. is_some (cond (is_eq o) (Some e.1) (node_at nodes e.0))) (tied_itself canonical_total e.0), more (keys_of nodes) (keys_found nodes))
  where
    either : (b : Bool) (x : Option NodeSets) → is_some x ≡ true → is_some (cond b (Some e.1) x) ≡ true
    either true x h = refl
    either false x h = h

    more : (ks : List Name) → AllByRecursion (λ (k : Name). is_some (node_at nodes k) ≡ true) ks → AllByRecursion (λ (k : Name). is_some (node_at (e ∷ nodes) k) ≡ true) ks
    more [] h = tt
    more (k ∷ ks) h = (either (is_eq (canonical_cmp k e.0)) (node_at nodes k) h.0, more ks h.1)

-- ---- one version and the same without the sets at and below a name

abbrev left_of : Sets → Name → Sets
left_of es n = filter (λ (e : Key × RecordSet). not (under e.0.0 n)) es

any_left : (es : Sets) (n q : Name) → any_under (left_of es n) q ≡ true → any_under es q ≡ true
any_left [] n q h = h
any_left (e ∷ es) n q h = by (under e.0.0 n) h (any_left es n q)
  where
    by : (b : Bool) → any_under (cond (not b) (e ∷ left_of es n) (left_of es n)) q ≡ true → (any_under (left_of es n) q ≡ true → any_under es q ≡ true) → (under e.0.0 q || any_under es q) ≡ true
    by true g later = or_right (under e.0.0 q) (any_under es q) (later g)
    by false g later = ⊎_elim (or_left (under e.0.0 q) (any_under es q)) (λ k. or_right (under e.0.0 q) (any_under es q) (later k)) (or_so (under e.0.0 q) (any_under (left_of es n) q) g)

none_left : (es : Sets) (n : Name) → any_under (left_of es n) n ≡ false
none_left [] n = refl
none_left (e ∷ es) n = by (under e.0.0 n) refl (none_left es n)
  where
    by : (b : Bool) → under e.0.0 n ≡ b → any_under (left_of es n) n ≡ false → any_under (cond (not b) (e ∷ left_of es n) (left_of es n)) n ≡ false
    by true u h = h
    by false u h = (λ i. u i || any_under (left_of es n) n) ∙ h

-- what no longer exists is at or above the name, or below it
gone_by : (es : Sets) (n q : Name) → any_under es q ≡ true → any_under (left_of es n) q ≡ false → (under n q ≡ true) ⊎ (under q n ≡ true)
gone_by [] n q h g = absurd (true≢false (sym h))
gone_by (e ∷ es) n q h g = by (under e.0.0 n) refl g (gone_by es n q)
  where
    by : (b : Bool) → under e.0.0 n ≡ b → any_under (cond (not b) (e ∷ left_of es n) (left_of es n)) q ≡ false
        → (any_under es q ≡ true → any_under (left_of es n) q ≡ false → (under n q ≡ true) ⊎ (under q n ≡ true)) → (under n q ≡ true) ⊎ (under q n ≡ true)
    by true u k later = ⊎_elim (λ x. under_either e.0.0 n q u x) (λ x. later x k) (or_so (under e.0.0 q) (any_under es q) h)
    by false u k later =
        ⊎_elim (λ x. absurd (true≢false (sym x ∙ no_left (under e.0.0 q) (any_under (left_of es n) q) k))) (λ x. later x (no_right (under e.0.0 q) (any_under (left_of es n) q) k))
        (or_so (under e.0.0 q) (any_under es q) h)

-- nothing that is left is at or below a name above it
same_left : (es : Sets) (n top : Name) → under n top ≡ true → any_under (left_of es n) top ≡ false → left_of es top ≡ left_of es n
same_left [] n top u h = refl
same_left (e ∷ es) n top u h = by (under e.0.0 n) refl h (same_left es n top u)
  where
    by : (b : Bool) → under e.0.0 n ≡ b → any_under (cond (not b) (e ∷ left_of es n) (left_of es n)) top ≡ false → (any_under (left_of es n) top ≡ false → left_of es top ≡ left_of es n)
        → cond (not (under e.0.0 top)) (e ∷ left_of es top) (left_of es top) ≡ cond (not b) (e ∷ left_of es n) (left_of es n)
    by true x k later = ap (λ b. cond (not b) (e ∷ left_of es top) (left_of es top)) (under_trans e.0.0 n top x u) ∙ later k
    by false x k later =
        ap (λ b. cond (not b) (e ∷ left_of es top) (left_of es top)) (no_left (under e.0.0 top) (any_under (left_of es n) top) k)
        ∙ ap (λ l. e ∷ l) (later (no_right (under e.0.0 top) (any_under (left_of es n) top) k))

all_left : (es : Sets) (n : Name) → any_under es n ≡ false → left_of es n ≡ es
all_left [] n h = refl
all_left (e ∷ es) n h =
    ap (λ b. cond (not b) (e ∷ left_of es n) (left_of es n)) (no_left (under e.0.0 n) (any_under es n) h) ∙ ap (λ l. e ∷ l) (all_left es n (no_right (under e.0.0 n) (any_under es n) h))

-- ---- trees

module _ (v : Version) (nodes : Nodes) (tree : IsTree v nodes) where
  keys_exist : AllByRecursion (λ (k : Name). in_tree v k ≡ true) (keys_of nodes)
  keys_exist = all (keys_of nodes) (keys_found nodes)
    where
      all : (ks : List Name) → AllByRecursion (λ (k : Name). is_some (node_at nodes k) ≡ true) ks → AllByRecursion (λ (k : Name). in_tree v k ≡ true) ks
      all [] h = tt
      all (k ∷ ks) h = (sym (tree.names k) ∙ h.0, all ks h.1)

  -- the apex is at or below the name: all sets go
  pub cleared_all : (n : Name) → under v.apex n ≡ true → clear v n ≡ with_sets v []
  cleared_all n u = ap (with_sets v) (ap (λ es. left_of es n) (sym tree.sets) ∙ sym (sets_filtered (λ m. not (under m n)) nodes) ∙ ap sets_of (none nodes keys_exist))
    where
      none : (ns : Nodes) → AllByRecursion (λ (k : Name). in_tree v k ≡ true) (keys_of ns) → outside ns n ≡ []
      none [] h = refl
      none (e ∷ ns) h = ap (λ b. cond (not b) (e ∷ outside ns n) (outside ns n)) (under_trans e.0 v.apex n (first_so (under e.0 v.apex) _ h.0) u) ∙ none ns h.1

  module _ (n : Name) where
    -- the version then
    abbrev w : Version
    w = clear v n

    still : (q : Name) → in_tree w q ≡ true → in_tree v q ≡ true
    still q h =
        and_so (under q v.apex) (exists v q) (first_so (under q v.apex) (exists w q) h)
        (⊎_elim (or_left (same_name q v.apex) (any_under v.sets q)) (λ g. or_right (same_name q v.apex) (any_under v.sets q) (any_left v.sets n q g))
        (or_so (same_name q v.apex) (any_under w.sets q) (second_so (under q v.apex) (exists w q) h)))

    gone_then : (q : Name) → in_tree v q ≡ true → in_tree w q ≡ false → (under n q ≡ true) ⊎ (under q n ≡ true)
    gone_then q h g =
        let none : exists w q ≡ false = no_second (under q v.apex) (exists w q) (first_so (under q v.apex) (exists v q) h) g in
        gone_by v.sets n q
        (⊎_elim (λ x. absurd (true≢false (sym x ∙ no_left (same_name q v.apex) (any_under w.sets q) none))) (λ x. x) (or_so (same_name q v.apex) (any_under v.sets q) (second_so (under q v.apex) (exists v q) h)))
        (no_right (same_name q v.apex) (any_under w.sets q) none)

    -- the name is below the apex
    module _ (zone : under n v.apex ≡ true) (apart : under v.apex n ≡ false) where
      gone : in_tree w n ≡ false
      gone = (λ i. zone i && (other (same_name n v.apex) refl i || none_left v.sets n i))
        where
          other : (b : Bool) → same_name n v.apex ≡ b → b ≡ false
          other true h = absurd (true≢false (sym (under_itself v.apex n (sym (same_is n v.apex h))) ∙ apart))
          other false h = refl

      abbrev top : Name
      top = topmost w n

      at_top : (in_tree w top ≡ false) × (under top w.apex ≡ true)
      at_top = topmost_gone w n zone gone

      name_under : under n top ≡ true
      name_under = topmost_covers w n zone gone n zone gone (inl (under_itself n n refl))

      none_at_top : any_under w.sets top ≡ false
      none_at_top = no_right (same_name top v.apex) (any_under w.sets top) (no_second (under top v.apex) (exists w top) at_top.1 at_top.0)

      tree_below : IsTree w (outside nodes top)
      tree_below = record {
        are_nodes = nodes_filter (λ e. not (under e.0 top)) nodes tree.are_nodes;
        sets = sets_filtered (λ m. not (under m top)) nodes ∙ ap (λ es. left_of es top) tree.sets ∙ same_left v.sets n top name_under none_at_top;
        names = names;
      }
        where
          found : (q : Name) → node_at (outside nodes top) q ≡ cond (not (under q top)) (node_at nodes q) None
          found q = node_at-filter (λ m. not (under m top)) (λ a b e. ap not (under_alike a b top top e refl)) nodes q

          under_gone : (q : Name) → under q top ≡ true → in_tree w q ≡ false
          under_gone q u = by (in_tree w q) refl
            where
              by : (b : Bool) → in_tree w q ≡ b → b ≡ false
              by true e = absurd (true≢false (sym (in_tree_above w q top u at_top.1 e) ∙ at_top.0))
              by false e = refl

          names : (q : Name) → is_some (node_at (outside nodes top) q) ≡ in_tree w q
          names q = ap is_some (found q) ∙ by (under q top) refl
            where
              by : (b : Bool) → under q top ≡ b → is_some (cond (not b) (node_at nodes q) None) ≡ in_tree w q
              by true u = sym (under_gone q u)
              by false u = tree.names q ∙ same_tests (in_tree v q) (in_tree w q) (λ h. kept h (in_tree w q) refl) (still q)
                where
                  kept : in_tree v q ≡ true → (c : Bool) → in_tree w q ≡ c → c ≡ true
                  kept h true e = refl
                  kept h false e = absurd (true≢false (sym (topmost_covers w n zone gone q (first_so (under q v.apex) _ h) e (gone_then q h e)) ∙ u))

      -- the test that the code makes
      stays_is : (m : Name) → under m v.apex ≡ true → stays_without nodes (fold v.apex) n m ≡ in_tree w m
      stays_is m z =
          (λ i. sym (same_apex v.apex m z) i || (sym (any_sets m (outside nodes n)) ∙ ap (λ es. any_under es m) (sets_filtered (λ k. not (under k n)) nodes ∙ ap (λ es. left_of es n) tree.sets)) i)
          ∙ ap (λ b. b && exists w m) (sym z)

      climbs : (m : Name) → under m v.apex ≡ true → in_tree w m ≡ false → highest_below (stays_without nodes (fold v.apex) n) m ≡ topmost w m
      climbs [] z h = refl
      climbs (l ∷ m) z h =
          (λ i. cond (stays_is m z1 i) (l ∷ m) (highest_below (stays_without nodes (fold v.apex) n) m)) ∙ by (in_tree w m) refl (λ g. climbs m z1 g)
        where
          z1 : under m v.apex ≡ true
          z1 = next_in_zone w l m z h

          by : (b : Bool) → in_tree w m ≡ b → (in_tree w m ≡ false → highest_below (stays_without nodes (fold v.apex) n) m ≡ topmost w m)
              → cond b (l ∷ m) (highest_below (stays_without nodes (fold v.apex) n) m) ≡ cond b (l ∷ m) (topmost w m)
          by true e later = refl
          by false e later = later e

    -- no node is at the name: nothing is below it
    module _ (apart : under v.apex n ≡ false) (lacks : in_tree v n ≡ false) where
      one_apart : (k : Name) → in_tree v k ≡ true → (b : Bool) → under k n ≡ b → b ≡ false
      one_apart k h true u =
          ⊎_elim (λ z. absurd (true≢false (sym (in_tree_above v k n u z h) ∙ lacks))) (λ z. absurd (true≢false (sym z ∙ apart))) (under_either k n v.apex u (first_so (under k v.apex) _ h))
      one_apart k h false u = refl

      none_held : (ns : Nodes) → AllByRecursion (λ (k : Name). in_tree v k ≡ true) (keys_of ns) → any_held ns n ≡ false
      none_held [] h = refl
      none_held (e ∷ ns) h = λ i. (one_apart e.0 h.0 (under e.0 n) refl i && not (length e.1 == 0)) || none_held ns h.1 i

      same_then : w ≡ v
      same_then = ap (with_sets v) (all_left v.sets n (ap (λ es. any_under es n) (sym tree.sets) ∙ any_sets n nodes ∙ none_held nodes keys_exist))

    pub tree_cleared : under v.apex n ≡ false → IsTree w (clear_held nodes (fold v.apex) n)
    tree_cleared apart = by (is_some (node_at nodes n)) refl
      where
        by : (b : Bool) → is_some (node_at nodes n) ≡ b → IsTree w (if b then outside nodes (highest_below (stays_without nodes (fold v.apex) n) n) else nodes)
        by true e =
            let zone : under n v.apex ≡ true = first_so (under n v.apex) _ (sym (tree.names n) ∙ e) in
            subst (λ t. IsTree w (outside nodes t)) (sym (climbs zone apart n zone (gone zone apart))) (tree_below zone apart)
        by false e = subst (λ x. IsTree x nodes) (sym (same_then apart (sym (tree.names n) ∙ e))) tree

-- ---- after a step that may fail

module _ (apex : Name) (class : ℕ) (nodes : Nodes) (tree : IsTree (version_of apex class nodes) nodes) (n : Name) (apart : under apex n ≡ false) (key : Name) (at : key ≡ fold apex) (now : Nodes) where
  abbrev before : Version
  before = version_of apex class nodes

  clear_then : IsTree (clear before n) (clear_held nodes key n)
  clear_then = subst (λ k. IsTree (clear before n) (clear_held nodes k n)) (sym at) (tree_cleared before nodes tree n apart)

  pub clear_result : {T E : Type 0} (r : Result T E) → OnOk r (now ≡ clear_held nodes key n) → OnErr r (now ≡ nodes) → IsTree (version_of apex class now) now
  clear_result (Ok x) ok err = subst (λ ns. IsTree (version_of apex class ns) ns) (sym ok) (own_tree (clear before n) (clear_held nodes key n) clear_then)
  clear_result (Err x) ok err = subst (λ ns. IsTree (version_of apex class ns) ns) (sym err) tree

  pub clear_view : now ≡ clear_held nodes key n → version_of apex class now ≡ clear before n
  clear_view e = ap (version_of apex class) e ∙ own_version (clear before n) (clear_held nodes key n) clear_then

-- ---- no sets

pub none_told : (es : Sets) → map told es ≡ [] → es ≡ []
none_told [] h = refl
none_told (e ∷ es) h = absurd (true≢false (sym (ap is_empty h)))
  where
    is_empty : List (Name × TypedSet) → Bool
    is_empty [] = true
    is_empty (x ∷ xs) = false

pub none_first : (xs : List (Name × TypedSet)) (r : Option (Name × TypedSet)) (t : List (Name × TypedSet)) → YieldsFirst (λ (s : List (Name × TypedSet)). s) xs r t → is_some r ≡ false → xs ≡ []
none_first xs None t h e = h.0
none_first xs (Some x) t h e = absurd (true≢false e)

pub no_sets : (v : Version) → v.sets ≡ [] → v ≡ with_sets v []
no_sets v e = ap (with_sets v) e

-- ---- the look

module _ (p o : List ℕ) where
  abbrev holds : OneKept → Bool
  holds = holds_outside p o

  early : (e : OneKept) → is_le (octets_cmp p e.0) ≡ false → holds e ≡ false
  early e h = by (begins_with e.0 p) refl
    where
      by : (b : Bool) → begins_with e.0 p ≡ b → (b && (not (begins_with e.0 o) && not (length e.1 == 0))) ≡ false
      by true q = absurd (true≢false (sym (begins_after p e.0 q) ∙ h))
      by false q = refl

  pub any_from : (es : Keyed) → list_any holds (filter (λ (e : OneKept). is_le (octets_cmp p e.0)) es) ≡ list_any holds es
  any_from [] = refl
  any_from (e ∷ es) = by (is_le (octets_cmp p e.0)) refl (any_from es)
    where
      rest : Keyed
      rest = filter (λ (e : OneKept). is_le (octets_cmp p e.0)) es

      by : (b : Bool) → is_le (octets_cmp p e.0) ≡ b → list_any holds rest ≡ list_any holds es → list_any holds (cond b (e ∷ rest) rest) ≡ (holds e || list_any holds es)
      by true h k = ap (λ b. holds e || b) k
      by false h k = k ∙ ap (λ b. b || list_any holds es) (sym (early e h))

  pub from_all : (es : Keyed) → AllByRecursion (λ (k : List ℕ). is_le (octets_cmp p k) ≡ true) (keys_of (filter (λ (e : OneKept). is_le (octets_cmp p e.0)) es))
  from_all [] = tt
  from_all (e ∷ es) = by (is_le (octets_cmp p e.0)) refl (from_all es)
    where
      rest : Keyed
      rest = filter (λ (e : OneKept). is_le (octets_cmp p e.0)) es

      by : (b : Bool) → is_le (octets_cmp p e.0) ≡ b → AllByRecursion (λ (k : List ℕ). is_le (octets_cmp p k) ≡ true) (keys_of rest) → AllByRecursion (λ (k : List ℕ). is_le (octets_cmp p k) ≡ true) (keys_of (cond b (e ∷ rest) rest))
      by true h k = (h, k)
      by false h k = k

  -- an entry of another string, and those behind it
  pub none_behind : (e : OneKept) (es : Keyed) → IsStrictlySortedBy octets_cmp (keys_of (e ∷ es)) → is_le (octets_cmp p e.0) ≡ true → begins_with e.0 p ≡ false → list_any holds (e ∷ es) ≡ false
  none_behind e es s from h = (λ i. (h i && (not (begins_with e.0 o) && not (length e.1 == 0))) || none es (sorted_head octets_cmp e.0 (keys_of es) s) i)
    where
      one : (f : OneKept) → octets_cmp e.0 f.0 ≡ Less → (b : Bool) → begins_with f.0 p ≡ b → b ≡ false
      one f l true q = absurd (true≢false (sym (begins_between p e.0 f.0 from l q) ∙ h))
      one f l false q = refl

      none : (fs : Keyed) → AllByRecursion (λ y. octets_cmp e.0 y ≡ Less) (keys_of fs) → list_any holds fs ≡ false
      none [] b = refl
      none (f ∷ fs) b = λ i. (one f b.0 (begins_with f.0 p) refl i && (not (begins_with f.0 o) && not (length f.1 == 0))) || none fs b.1 i

-- an entry that doesn't hold
pub not_here : (p o : List ℕ) (e : OneKept) (es : Keyed) → (not (begins_with e.0 o) && not (length e.1 == 0)) ≡ false → list_any (holds_outside p o) (e ∷ es) ≡ list_any (holds_outside p o) es
not_here p o e es h = by (begins_with e.0 p) (not (begins_with e.0 o) && not (length e.1 == 0)) h
  where
    by : (b c : Bool) → c ≡ false → ((b && c) || list_any (holds_outside p o) es) ≡ list_any (holds_outside p o) es
    by true c g = ap (λ d. d || list_any (holds_outside p o) es) g
    by false c g = refl

-- by the keys of names
pub held_outside : (es : Keyed) (n other : Name) → AreKeys es → list_any (holds_outside (name_key n) (name_key other)) es ≡ any_held (outside (named es) other) n
held_outside [] n other a = refl
held_outside (e ∷ es) n other a = (λ i. (nested e.0 n a.0 i && (not (nested e.0 other a.0 i) && not (length e.1 == 0))) || held_outside es n other a.1 i) ∙ by (under (name_of_key e.0) other)
  where
    rest : Nodes
    rest = outside (named es) other

    later : (b c : Bool) → (b && (false && c)) ≡ false
    later true c = refl
    later false c = refl

    by : (b : Bool) → ((under (name_of_key e.0) n && (not b && not (length e.1 == 0))) || any_held rest n) ≡ any_held (cond (not b) ((name_of_key e.0, e.1) ∷ rest) rest) n
    by true = ap (λ c. c || any_held rest n) (later (under (name_of_key e.0) n) (not (length e.1 == 0)))
    by false = refl
