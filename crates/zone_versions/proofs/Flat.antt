-- The sets of all nodes, as look-ups.
use Rattle.std.proofs.Common.{◌≡◌, ℕ, Bool, true, false, cond, List, [], ◌∷◌, ◌++◌, filter, refl, sym, ap, ◌∙◌, Ordering, Less, Equal, Greater, Option, Some, None, is_eq, nat_cmp}
use Rattle.std.specs.Option.{option_or}
use Rattle.std.specs.Ordering.{ordering_then}
use Rattle.std.specs.Cmp.{tied_itself}
use Rattle.std.specs.List.{AllByRecursion}
use Rattle.std.specs.List.Sorted.{IsStrictlySortedBy}
use Rattle.std.specs.Map.{lookup, keys_of, values_of}
use Rattle.std.proofs.lemmas.List.Elements.{filter-append}
use Rattle.std.proofs.lemmas.Map.Keys.{sorted_head, sorted_tail}
use Rattle.dns_name.specs.Names.{Name, fold, canonical_cmp}
use Rattle.dns_name.specs.NameOrder.{canonical_total}
use Rattle.zone_model.specs.Version.{RecordSet, Key, Sets, key_cmp, has_key, set_in}
use Rattle.zone_model.proofs.Folded.{IsFolded}
use Rattle.zone_model.proofs.Ordered.{sorted_none, sorted_cons, past_head}
use Rattle.zone_model.proofs.Steps.{Good}
use Rattle.zone_versions.specs.Trees.{NodeSets, Nodes, AreNodes, IsHeld, node_at, sets_of_node, sets_of, set_of_type, type_in}

lookup-append : {K X : Type 0} (test : K → Bool) (xs ys : List (K × X)) → lookup test (xs ++ ys) ≡ option_or (lookup test xs) (lookup test ys)
lookup-append test [] ys = refl
lookup-append {K} {X} test (x ∷ xs) ys = by (test x.0) (lookup-append test xs ys)
  where
    by : (b : Bool) → lookup test (xs ++ ys) ≡ option_or (lookup test xs) (lookup test ys) → cond b (Some x.1) (lookup test (xs ++ ys)) ≡ option_or (cond b (Some x.1) (lookup test xs)) (lookup test ys)
    by true h = refl
    by false h = h

-- a look-up among the sets of one node
in_node : (q m : Name) (t : ℕ) (held : NodeSets) → set_in (sets_of_node (m, held)) (q, t) ≡ cond (is_eq (canonical_cmp q m)) (set_of_type held t) None
in_node q m t [] = by (is_eq (canonical_cmp q m))
  where
    by : (b : Bool) → ◌≡◌ {A = Option RecordSet} None (cond b None None)
    by true = refl
    by false = refl
in_node q m t (e ∷ held) = by (canonical_cmp q m) (in_node q m t held)
  where
    by : (o : Ordering) → set_in (sets_of_node (m, held)) (q, t) ≡ cond (is_eq o) (set_of_type held t) None
        → cond (is_eq (ordering_then o (nat_cmp t e.0))) (Some e.1) (set_in (sets_of_node (m, held)) (q, t)) ≡ cond (is_eq o) (cond (is_eq (nat_cmp t e.0)) (Some e.1) (set_of_type held t)) None
    by Less h = h
    by Equal h = ap (cond (is_eq (nat_cmp t e.0)) (Some e.1)) h
    by Greater h = h

-- a look-up among the sets of all
pub set_in-sets_of : (nodes : Nodes) (q : Name) (t : ℕ) → IsStrictlySortedBy canonical_cmp (keys_of nodes) → set_in (sets_of nodes) (q, t) ≡ type_in (node_at nodes q) t
set_in-sets_of [] q t s = refl
set_in-sets_of (n ∷ nodes) q t s = lookup-append (has_key (q, t)) (sets_of_node n) (sets_of nodes) ∙ ap (λ o. option_or o (set_in (sets_of nodes) (q, t))) (in_node q n.0 t n.1)
    ∙ by (is_eq (canonical_cmp q n.0)) refl (set_in-sets_of nodes q t (sorted_tail canonical_cmp n.0 (keys_of nodes) s))
  where
    or_none : (o : Option RecordSet) → option_or o None ≡ o
    or_none None = refl
    or_none (Some x) = refl

    by : (b : Bool) → is_eq (canonical_cmp q n.0) ≡ b → set_in (sets_of nodes) (q, t) ≡ type_in (node_at nodes q) t
        → option_or (cond b (set_of_type n.1 t) None) (set_in (sets_of nodes) (q, t)) ≡ type_in (cond b (Some n.1) (node_at nodes q)) t
    by true e h = ap (option_or (set_of_type n.1 t)) (h ∙ ap (λ o. type_in o t) (past_head canonical_total q n nodes s e)) ∙ or_none (set_of_type n.1 t)
    by false e h = h

-- ---- order

-- the owners of some sets all come after a name
abbrev pub Behind : Name → Sets → Type 0
Behind m es = AllByRecursion (λ (k : Key). canonical_cmp m k.0 ≡ Less) (keys_of es)

behind_append : (m : Name) (xs ys : Sets) → Behind m xs → Behind m ys → Behind m (xs ++ ys)
behind_append m [] ys h k = k
behind_append m (x ∷ xs) ys h k = (h.0, behind_append m xs ys h.1 k)

behind_node : (m n : Name) (held : NodeSets) → canonical_cmp m n ≡ Less → Behind m (sets_of_node (n, held))
behind_node m n [] h = tt
behind_node m n (e ∷ held) h = (h, behind_node m n held h)

behind_all : (m : Name) (nodes : Nodes) → AllByRecursion (λ n. canonical_cmp m n ≡ Less) (keys_of nodes) → Behind m (sets_of nodes)
behind_all m [] h = tt
behind_all m (n ∷ nodes) h = behind_append m (sets_of_node n) (sets_of nodes) (behind_node m n.0 n.1 h.0) (behind_all m nodes h.1)

-- the sets of a node before those of nodes behind it
module _ (m : Name) (es : Sets) (behind : Behind m es) (s : IsStrictlySortedBy key_cmp (keys_of es)) where
  after_type : (t : ℕ) (held : NodeSets) → AllByRecursion (λ u. nat_cmp t u ≡ Less) (keys_of held) → AllByRecursion (λ k. key_cmp (m, t) k ≡ Less) (keys_of (sets_of_node (m, held) ++ es))
  after_type t [] h = all es behind
    where
      all : (es : Sets) → Behind m es → AllByRecursion (λ k. key_cmp (m, t) k ≡ Less) (keys_of es)
      all [] b = tt
      all (e ∷ es) b = (ap (λ o. ordering_then o (nat_cmp t e.0.1)) b.0, all es b.1)
  after_type t (e ∷ held) h = (ap (λ o. ordering_then o (nat_cmp t e.0)) (tied_itself canonical_total m) ∙ h.0, after_type t held h.1)

  sorted_node : (held : NodeSets) → IsStrictlySortedBy nat_cmp (keys_of held) → IsStrictlySortedBy key_cmp (keys_of (sets_of_node (m, held) ++ es))
  sorted_node [] h = s
  sorted_node (e ∷ held) h =
      sorted_cons key_cmp (m, e.0) (keys_of (sets_of_node (m, held) ++ es)) (after_type e.0 held (sorted_head nat_cmp e.0 (keys_of held) h)) (sorted_node held (sorted_tail nat_cmp e.0 (keys_of held) h))

pub sets_of-sorted : (nodes : Nodes) → IsStrictlySortedBy canonical_cmp (keys_of nodes) → AllByRecursion IsHeld (values_of nodes) → IsStrictlySortedBy key_cmp (keys_of (sets_of nodes))
sets_of-sorted [] s h = sorted_none key_cmp
sets_of-sorted (n ∷ nodes) s h =
    sorted_node n.0 (sets_of nodes) (behind_all n.0 nodes (sorted_head canonical_cmp n.0 (keys_of nodes) s)) (sets_of-sorted nodes (sorted_tail canonical_cmp n.0 (keys_of nodes) s) h.1) n.1 h.0.ordered

-- ---- lower case

folded_node : (m : Name) (held : NodeSets) (es : Sets) → fold m ≡ m → AllByRecursion IsFolded (keys_of es) → AllByRecursion IsFolded (keys_of (sets_of_node (m, held) ++ es))
folded_node m [] es f g = g
folded_node m (e ∷ held) es f g = (f, folded_node m held es f g)

pub sets_of-folded : (nodes : Nodes) → AllByRecursion (λ n. fold n ≡ n) (keys_of nodes) → AllByRecursion IsFolded (keys_of (sets_of nodes))
sets_of-folded [] f = tt
sets_of-folded (n ∷ nodes) f = folded_node n.0 n.1 (sets_of nodes) f.0 (sets_of-folded nodes f.1)

pub sets_of-good : (nodes : Nodes) → AreNodes nodes → Good (sets_of nodes)
sets_of-good nodes a = record { sorted = sets_of-sorted nodes a.ordered a.held; folded = sets_of-folded nodes a.folded }

-- ---- the nodes of some names

node_filtered : (p : Name → Bool) (m : Name) (held : NodeSets) → filter (λ (e : Key × RecordSet). p e.0.0) (sets_of_node (m, held)) ≡ cond (p m) (sets_of_node (m, held)) []
node_filtered p m [] = by (p m)
  where
    by : (b : Bool) → ◌≡◌ {A = Sets} [] (cond b [] [])
    by true = refl
    by false = refl
node_filtered p m (e ∷ held) = by (p m) (node_filtered p m held)
  where
    by : (b : Bool) → filter (λ (f : Key × RecordSet). p f.0.0) (sets_of_node (m, held)) ≡ cond b (sets_of_node (m, held)) []
        → cond b (((m, e.0), e.1) ∷ filter (λ (f : Key × RecordSet). p f.0.0) (sets_of_node (m, held))) (filter (λ (f : Key × RecordSet). p f.0.0) (sets_of_node (m, held))) ≡ cond b (sets_of_node (m, e ∷ held)) []
    by true h = ap (λ l. ((m, e.0), e.1) ∷ l) h
    by false h = h

pub sets_filtered : (p : Name → Bool) (nodes : Nodes) → sets_of (filter (λ (e : Name × NodeSets). p e.0) nodes) ≡ filter (λ (e : Key × RecordSet). p e.0.0) (sets_of nodes)
sets_filtered p [] = refl
sets_filtered p (n ∷ nodes) =
    by (p n.0) (sets_filtered p nodes) ∙ sym ((λ i. node_filtered p n.0 n.1 i ++ filter (λ (e : Key × RecordSet). p e.0.0) (sets_of nodes))) ∙ sym (filter-append (λ (e : Key × RecordSet). p e.0.0) (sets_of_node n) (sets_of nodes))
  where
    by : (b : Bool) → sets_of (filter (λ (e : Name × NodeSets). p e.0) nodes) ≡ filter (λ (e : Key × RecordSet). p e.0.0) (sets_of nodes)
        → sets_of (cond b (n ∷ filter (λ (e : Name × NodeSets). p e.0) nodes) (filter (λ (e : Name × NodeSets). p e.0) nodes)) ≡ cond b (sets_of_node n) [] ++ filter (λ (e : Key × RecordSet). p e.0.0) (sets_of nodes)
    by true h = ap (λ l. sets_of_node n ++ l) h
    by false h = h
