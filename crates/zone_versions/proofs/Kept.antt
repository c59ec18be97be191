-- Nodes in order, after edits; and equal look-ups, equal sets.
use Rattle.std.proofs.Common.{◌≡◌, ℕ, Bool, true, false, cond, ◌&&◌, [], ◌∷◌, filter, refl, sym, ap, ◌∙◌, Ordering, Less, Equal, Greater, Option, Some, None, is_eq, nat_cmp}
use Rattle.std.specs.Ordering.{match_ordering, ordering_then}
use Rattle.std.specs.Cmp.{nat_cmp_total, first_so, second_so}
use Rattle.std.specs.List.{AllByRecursion, list_all}
use Rattle.std.specs.BTreeMap.{insert_entry, is_at}
use Rattle.std.specs.Map.{keys_of, values_of, remove_entry}
use Rattle.std.proofs.lemmas.Map.Keys.{sorted_head, sorted_tail}
use Rattle.dns_name.specs.Names.{Name, fold, canonical_cmp}
use Rattle.dns_name.specs.NameOrder.{canonical_total}
use Rattle.zone_model.specs.Version.{RecordSet, key_cmp, has_key}
use Rattle.zone_model.proofs.Folded.{IsFolded, key_total}
use Rattle.zone_model.proofs.Ordered.{sorted_none, sorted_cons, lookup-insert_entry, lookup-remove_entry, sorted-insert_entry, sorted-remove_entry, passes-insert_entry, passes-remove_entry}
use Rattle.zone_model.proofs.Alike.{equal_from_found}
use Rattle.zone_model.proofs.Steps.{Good}
use Rattle.zone_versions.specs.Trees.{NodeSets, Nodes, AreNodes, IsHeld, has_records, node_at, sets_of, type_in}
use Rattle.zone_versions.specs.Ways.{put_node}
use Rattle.zone_versions.proofs.Flat.{set_in-sets_of, sets_of-good}
use Rattle.zone_versions.proofs.Above.{tied}

-- ---- one node

pub nothing_held : IsHeld []
nothing_held = record { ordered = sorted_none nat_cmp; full = refl }

all_insert : (held : NodeSets) (t : ℕ) (s : RecordSet) → ((u : ℕ) → has_records (u, s) ≡ true) → list_all has_records held ≡ true → list_all has_records (insert_entry nat_cmp held t s) ≡ true
all_insert [] t s g h = ap (λ b. b && true) (g t)
all_insert (e ∷ held) t s g h = by (nat_cmp t e.0) (all_insert held t s g (second_so (has_records e) (list_all has_records held) h))
  where
    both : (p q : Bool) → p ≡ true → q ≡ true → (p && q) ≡ true
    both p q e f = ap (λ b. b && q) e ∙ f

    by : (o : Ordering) → list_all has_records (insert_entry nat_cmp held t s) ≡ true → list_all has_records (match_ordering o ((t, s) ∷ e ∷ held) ((e.0, s) ∷ held) (e ∷ insert_entry nat_cmp held t s)) ≡ true
    by Less k = both _ _ (g t) h
    by Equal k = both _ _ (g e.0) (second_so (has_records e) (list_all has_records held) h)
    by Greater k = both _ _ (first_so (has_records e) (list_all has_records held) h) k

all_remove : (test : ℕ → Bool) (held : NodeSets) → list_all has_records held ≡ true → list_all has_records (remove_entry test held) ≡ true
all_remove test [] h = refl
all_remove test (e ∷ held) h = by (test e.0) (all_remove test held (second_so (has_records e) (list_all has_records held) h))
  where
    by : (b : Bool) → list_all has_records (remove_entry test held) ≡ true → list_all has_records (cond b held (e ∷ remove_entry test held)) ≡ true
    by true k = second_so (has_records e) (list_all has_records held) h
    by false k = ap (λ b. b && list_all has_records (remove_entry test held)) (first_so (has_records e) (list_all has_records held) h) ∙ k

pub held_insert : (held : NodeSets) (t : ℕ) (s : RecordSet) → has_records (t, s) ≡ true → IsHeld held → IsHeld (insert_entry nat_cmp held t s)
held_insert held t s g h = record { ordered = sorted-insert_entry nat_cmp_total held t s h.ordered; full = all_insert held t s (λ u. g) h.full }

pub held_remove : (held : NodeSets) (t : ℕ) → IsHeld held → IsHeld (remove_entry (is_at (nat_cmp t)) held)
held_remove held t h = record { ordered = sorted-remove_entry nat_cmp_total (is_at (nat_cmp t)) held h.ordered; full = all_remove (is_at (nat_cmp t)) held h.full }

-- ---- all nodes

values_insert : (nodes : Nodes) (n : Name) (held : NodeSets) → IsHeld held → AllByRecursion IsHeld (values_of nodes) → AllByRecursion IsHeld (values_of (put_node nodes n held))
values_insert [] n held g h = (g, tt)
values_insert (e ∷ nodes) n held g h =
    elim (canonical_cmp n e.0) as (λ o. AllByRecursion IsHeld (values_of (match_ordering o ((n, held) ∷ e ∷ nodes) ((e.0, held) ∷ nodes) (e ∷ put_node nodes n held)))) [
      | Less ↦ (g, h)
      | Equal ↦ (g, h.1)
      | Greater ↦ (h.0, values_insert nodes n held g h.1)
    ]

pub nodes_put : (nodes : Nodes) (n : Name) (held : NodeSets) → fold n ≡ n → IsHeld held → AreNodes nodes → AreNodes (put_node nodes n held)
nodes_put nodes n held f g a = record {
  ordered = sorted-insert_entry canonical_total nodes n held a.ordered;
  folded = passes-insert_entry canonical_total (λ m. fold m ≡ m) nodes n held f a.folded;
  held = values_insert nodes n held g a.held;
}

-- the node of a name after one was put
pub node_at-put : (nodes : Nodes) (n : Name) (held : NodeSets) (q : Name) → node_at (put_node nodes n held) q ≡ cond (is_eq (canonical_cmp q n)) (Some held) (node_at nodes q)
node_at-put nodes n held q = lookup-insert_entry canonical_total nodes n held q

-- nodes of the names that pass a test
below_filter : (p : Name × NodeSets → Bool) (m : Name) (nodes : Nodes) → AllByRecursion (λ n. canonical_cmp m n ≡ Less) (keys_of nodes) → AllByRecursion (λ n. canonical_cmp m n ≡ Less) (keys_of (filter p nodes))
below_filter p m [] h = tt
below_filter p m (e ∷ nodes) h =
    elim (p e) as (λ b. AllByRecursion (λ n. canonical_cmp m n ≡ Less) (keys_of (cond b (e ∷ filter p nodes) (filter p nodes)))) [
      | true ↦ (h.0, below_filter p m nodes h.1)
      | false ↦ below_filter p m nodes h.1
    ]

pub nodes_filter : (p : Name × NodeSets → Bool) (nodes : Nodes) → AreNodes nodes → AreNodes (filter p nodes)
nodes_filter p [] a = a
nodes_filter p (e ∷ nodes) a =
    let rest : AreNodes nodes = record { ordered = sorted_tail canonical_cmp e.0 (keys_of nodes) a.ordered; folded = a.folded.1; held = a.held.1 } in
    let h : AreNodes (filter p nodes) = nodes_filter p nodes rest in
    elim (p e) as (λ b. AreNodes (cond b (e ∷ filter p nodes) (filter p nodes))) [
      | true ↦ record {
        ordered = sorted_cons canonical_cmp e.0 (keys_of (filter p nodes)) (below_filter p e.0 nodes (sorted_head canonical_cmp e.0 (keys_of nodes) a.ordered)) h.ordered;
        folded = (a.folded.0, h.folded);
        held = (a.held.0, h.held);
      }
      | false ↦ h
    ]

-- the node of a name among those that pass a test of names
pub node_at-filter : (p : Name → Bool) → ((m n : Name) → fold m ≡ fold n → p m ≡ p n) → (nodes : Nodes) (q : Name) → node_at (filter (λ (e : Name × NodeSets). p e.0) nodes) q ≡ cond (p q) (node_at nodes q) None
node_at-filter p alike [] q = by (p q)
  where
    by : (b : Bool) → ◌≡◌ {A = Option NodeSets} None (cond b None None)
    by true = refl
    by false = refl
node_at-filter p alike (e ∷ nodes) q = by (p e.0) (is_eq (canonical_cmp q e.0)) refl refl (node_at-filter p alike nodes q)
  where
    rest : Nodes
    rest = filter (λ (e : Name × NodeSets). p e.0) nodes

    by : (b c : Bool) → p e.0 ≡ b → is_eq (canonical_cmp q e.0) ≡ c → node_at rest q ≡ cond (p q) (node_at nodes q) None
        → node_at (cond b (e ∷ rest) rest) q ≡ cond (p q) (cond c (Some e.1) (node_at nodes q)) None
    by true true h t k = ap (λ c. cond c (Some e.1) (node_at rest q)) t ∙ ap (λ b. cond b (Some e.1) None) (sym (alike q e.0 (tied q e.0 t) ∙ h))
    by true false h t k = ap (λ c. cond c (Some e.1) (node_at rest q)) t ∙ k
    by false true h t k = k ∙ ap (λ b. cond b (node_at nodes q) None) (alike q e.0 (tied q e.0 t) ∙ h) ∙ ap (λ b. cond b (Some e.1) None) (sym (alike q e.0 (tied q e.0 t) ∙ h))
    by false false h t k = k

-- ---- sets

pub is_put : (q o : Name) (t u : ℕ) → is_eq (key_cmp (q, t) (o, u)) ≡ (is_eq (canonical_cmp q o) && is_eq (nat_cmp t u))
is_put q o t u = by (canonical_cmp q o)
  where
    by : (r : Ordering) → is_eq (ordering_then r (nat_cmp t u)) ≡ (is_eq r && is_eq (nat_cmp t u))
    by Less = refl
    by Equal = refl
    by Greater = refl

-- the set that an edit leaves at an owner and type
abbrev pub edited_at : Name → ℕ → Option RecordSet → Name → ℕ → Option RecordSet → Option RecordSet
edited_at owner rtype new q t old = cond (is_eq (canonical_cmp q owner) && is_eq (nat_cmp t rtype)) new old

-- nodes whose sets are those of others but for one that was put
pub sets_put : (nodes after : Nodes) (owner : Name) (rtype : ℕ) (s : RecordSet) → fold owner ≡ owner → AreNodes nodes → AreNodes after
    → ((q : Name) (t : ℕ) → type_in (node_at after q) t ≡ edited_at owner rtype (Some s) q t (type_in (node_at nodes q) t)) → sets_of after ≡ insert_entry key_cmp (sets_of nodes) (owner, rtype) s
sets_put nodes after owner rtype s f a b h =
    equal_from_found (sets_of after) (insert_entry key_cmp (sets_of nodes) (owner, rtype) s) (sets_of-good after b)
    (record {
      sorted = sorted-insert_entry key_total (sets_of nodes) (owner, rtype) s (sets_of-good nodes a).sorted;
      folded = passes-insert_entry key_total IsFolded (sets_of nodes) (owner, rtype) s f (sets_of-good nodes a).folded;
    })
    (λ q. set_in-sets_of after q.0 q.1 b.ordered ∙ h q.0 q.1 ∙ (λ i. cond (sym (is_put q.0 owner q.1 rtype) i) (Some s) (sym (set_in-sets_of nodes q.0 q.1 a.ordered) i))
    ∙ sym (lookup-insert_entry key_total (sets_of nodes) (owner, rtype) s q))

-- .. or taken out
pub sets_removed : (nodes after : Nodes) (owner : Name) (rtype : ℕ) → AreNodes nodes → AreNodes after
    → ((q : Name) (t : ℕ) → type_in (node_at after q) t ≡ edited_at owner rtype None q t (type_in (node_at nodes q) t)) → sets_of after ≡ remove_entry (has_key (owner, rtype)) (sets_of nodes)
sets_removed nodes after owner rtype a b h =
    let g : Good (sets_of nodes) = sets_of-good nodes a in
    equal_from_found (sets_of after) (remove_entry (has_key (owner, rtype)) (sets_of nodes)) (sets_of-good after b)
    (record {
      sorted = sorted-remove_entry key_total (has_key (owner, rtype)) (sets_of nodes) g.sorted;
      folded = passes-remove_entry key_total IsFolded (has_key (owner, rtype)) (sets_of nodes) g.folded;
    })
    (λ q. set_in-sets_of after q.0 q.1 b.ordered ∙ h q.0 q.1 ∙ (λ i. cond (sym (is_put q.0 owner q.1 rtype) i) None (sym (set_in-sets_of nodes q.0 q.1 a.ordered) i))
    ∙ sym (lookup-remove_entry key_total (sets_of nodes) (owner, rtype) q g.sorted))
