-- Which names exist, before and after an edit.
use Rattle.std.proofs.Common.{◌≡◌, ℕ, Bool, true, false, cond, ◌&&◌, ◌||◌, ◌==◌, not, [], ◌∷◌, ◌++◌, length, arith, ne_eqb, refl, sym, ap, ◌∙◌, true≢false, ◌⊎◌, inl, inr, ⊎_elim, Ordering, Less, Equal, Greater, Some, None, is_some, is_eq}
use Rattle.std.specs.Ordering.{match_ordering}
use Rattle.std.specs.Cmp.{Equal-is, first_so, second_so}
use Rattle.std.specs.List.{list_any}
use Rattle.std.specs.BTreeMap.{insert_entry}
use Rattle.std.specs.Map.{remove_entry}
use Rattle.dns_name.specs.Names.{Name, fold, same_name, under}
use Rattle.zone_model.specs.Version.{RecordSet, Key, Sets, Version, key_cmp, has_key, set_in, in_zone, exists}
use Rattle.zone_model.specs.Edits.{with_sets, remove_set}
use Rattle.zone_model.proofs.Folded.{key_total, key_from_tie, fold-fold, under_alike, same_name_alike}
use Rattle.zone_model.proofs.Ordered.{lookup-remove_entry}
use Rattle.zone_model.proofs.Steps.{Good}
use Rattle.zone_versions.specs.Trees.{NodeSets, Nodes, sets_of_node, sets_of, in_tree}
use Rattle.zone_versions.specs.Ways.{any_held}
use Rattle.zone_versions.proofs.Above.{under_itself, under_trans, under_both, is_same, same_is}

-- whether some set's owner is at or below a name
abbrev pub any_under : Sets → Name → Bool
any_under es n = list_any (λ (e : Key × RecordSet). under e.0.0 n) es

pub or_so : (p q : Bool) → (p || q) ≡ true → (p ≡ true) ⊎ (q ≡ true)
or_so true q h = inl refl
or_so false q h = inr h

pub or_left : (p q : Bool) → p ≡ true → (p || q) ≡ true
or_left p q h = ap (λ b. b || q) h

pub or_right : (p q : Bool) → q ≡ true → (p || q) ≡ true
or_right true q h = refl
or_right false q h = h

pub and_so : (p q : Bool) → p ≡ true → q ≡ true → (p && q) ≡ true
and_so p q h k = ap (λ b. b && q) h ∙ k

-- ---- upwards

any_above : (es : Sets) (a b : Name) → under a b ≡ true → any_under es a ≡ true → any_under es b ≡ true
any_above [] a b h k = k
any_above (e ∷ es) a b h k =
    ⊎_elim (λ g. or_left (under e.0.0 b) (any_under es b) (under_trans e.0.0 a b g h)) (λ g. or_right (under e.0.0 b) (any_under es b) (any_above es a b h g)) (or_so (under e.0.0 a) (any_under es a) k)

-- what exists, those above it in the zone do too
pub exists_above : (v : Version) (a b : Name) → under a b ≡ true → in_zone v b ≡ true → exists v a ≡ true → exists v b ≡ true
exists_above v a b h z k =
    ⊎_elim
    (λ g. or_left (same_name b v.apex) (any_under v.sets b) (is_same b v.apex (under_both b v.apex z (under_trans v.apex a b (under_itself v.apex a (sym (same_is a v.apex g))) h))))
    (λ g. or_right (same_name b v.apex) (any_under v.sets b) (any_above v.sets a b h g))
    (or_so (same_name a v.apex) (any_under v.sets a) k)

pub in_tree_above : (v : Version) (a b : Name) → under a b ≡ true → in_zone v b ≡ true → in_tree v a ≡ true → in_tree v b ≡ true
in_tree_above v a b h z k = and_so (in_zone v b) (exists v b) z (exists_above v a b h z (second_so (in_zone v a) (exists v a) k))

-- the apex exists
pub apex_in_tree : (v : Version) (n : Name) → fold n ≡ fold v.apex → in_tree v n ≡ true
apex_in_tree v n e = and_so (in_zone v n) (exists v n) (under_itself n v.apex e) (or_left (same_name n v.apex) (any_under v.sets n) (is_same n v.apex e))

pub in_tree_alike : (v : Version) (m n : Name) → fold m ≡ fold n → in_tree v m ≡ in_tree v n
in_tree_alike v m n e = λ i. under_alike m n v.apex v.apex e refl i && (same_name_alike m n v.apex v.apex e refl i || list_any (λ (f : Key × RecordSet). under_alike f.0.0 f.0.0 m n refl e i) v.sets)

-- ---- a set is put

swap : (p q r : Bool) → (p || (q || r)) ≡ (q || (p || r))
swap true true r = refl
swap true false r = refl
swap false q r = refl

twice : (p r : Bool) → (p || r) ≡ (p || (p || r))
twice true r = refl
twice false r = refl

pub any_put : (es : Sets) (k : Key) (s : RecordSet) (n : Name) → any_under (insert_entry key_cmp es k s) n ≡ (under k.0 n || any_under es n)
any_put [] k s n = refl
any_put (e ∷ es) k s n = by (key_cmp k e.0) refl (any_put es k s n)
  where
    by : (o : Ordering) → key_cmp k e.0 ≡ o → any_under (insert_entry key_cmp es k s) n ≡ (under k.0 n || any_under es n)
        → any_under (match_ordering o ((k, s) ∷ e ∷ es) ((e.0, s) ∷ es) (e ∷ insert_entry key_cmp es k s)) n ≡ (under k.0 n || (under e.0.0 n || any_under es n))
    by Less q h = refl
    by Equal q h = twice (under e.0.0 n) (any_under es n) ∙ ap (λ b. b || (under e.0.0 n || any_under es n)) (sym (under_alike k.0 e.0.0 n n (key_from_tie k e.0 q).0 refl))
    by Greater q h = ap (λ b. under e.0.0 n || b) h ∙ swap (under e.0.0 n) (under k.0 n) (any_under es n)

-- what exists once a set is put: what did, and the owner with all names above it
pub put_exists : (v : Version) (owner : Name) (rtype : ℕ) (s : RecordSet) (n : Name) → exists (with_sets v (insert_entry key_cmp v.sets (fold owner, rtype) s)) n ≡ (exists v n || under owner n)
put_exists v owner rtype s n =
    ap (λ b. same_name n v.apex || b) (any_put v.sets (fold owner, rtype) s n ∙ ap (λ b. b || any_under v.sets n) (under_alike (fold owner) owner n n (fold-fold owner) refl))
    ∙ turned (same_name n v.apex) (under owner n) (any_under v.sets n)
  where
    turned : (p q r : Bool) → (p || (q || r)) ≡ ((p || r) || q)
    turned true q r = refl
    turned false true true = refl
    turned false true false = refl
    turned false false true = refl
    turned false false false = refl

-- ---- a set is taken out

pub left_exists : (test : Key → Bool) (es : Sets) (n : Name) → any_under (remove_entry test es) n ≡ true → any_under es n ≡ true
left_exists test [] n h = h
left_exists test (e ∷ es) n h = by (test e.0) (λ g. left_exists test es n g) h
  where
    by : (b : Bool) → (any_under (remove_entry test es) n ≡ true → any_under es n ≡ true) → any_under (cond b es (e ∷ remove_entry test es)) n ≡ true → (under e.0.0 n || any_under es n) ≡ true
    by true later k = or_right (under e.0.0 n) (any_under es n) k
    by false later k = ⊎_elim (or_left (under e.0.0 n) (any_under es n)) (λ g. or_right (under e.0.0 n) (any_under es n) (later g)) (or_so (under e.0.0 n) (any_under (remove_entry test es) n) k)

pub no_right : (p q : Bool) → (p || q) ≡ false → q ≡ false
no_right true q e = absurd (true≢false e)
no_right false q e = e

-- what no longer exists is the owner or above it
pub gone_above : (es : Sets) (k : Key) (n : Name) → any_under es n ≡ true → any_under (remove_entry (has_key k) es) n ≡ false → under k.0 n ≡ true
gone_above [] k n h g = absurd (true≢false (sym h))
gone_above (e ∷ es) k n h g = by (is_eq (key_cmp k e.0)) refl (λ p q. gone_above es k n p q) g
  where
    by : (b : Bool) → is_eq (key_cmp k e.0) ≡ b → (any_under es n ≡ true → any_under (remove_entry (has_key k) es) n ≡ false → under k.0 n ≡ true) → any_under (cond b es (e ∷ remove_entry (has_key k) es)) n ≡ false
        → under k.0 n ≡ true
    by true q later none = ⊎_elim (λ p. under_alike k.0 e.0.0 n n (key_from_tie k e.0 ((Equal-is (key_cmp k e.0)).0 q)).0 refl ∙ p) (λ p. absurd (true≢false (sym p ∙ none))) (or_so (under e.0.0 n) (any_under es n) h)
    by false q later none =
        ⊎_elim (λ p. absurd (true≢false (sym (or_left (under e.0.0 n) (any_under (remove_entry (has_key k) es) n) p) ∙ none))) (λ p. later p (no_right (under e.0.0 n) (any_under (remove_entry (has_key k) es) n) none))
        (or_so (under e.0.0 n) (any_under es n) h)

-- a set's owner exists, and those above it
pub found_exists : (es : Sets) (q n : Name) (t : ℕ) → under q n ≡ true → is_some (set_in es (q, t)) ≡ true → any_under es n ≡ true
found_exists [] q n t u h = absurd (true≢false (sym h))
found_exists (e ∷ es) q n t u h = by (is_eq (key_cmp (q, t) e.0)) refl (λ g. found_exists es q n t u g) h
  where
    by : (b : Bool) → is_eq (key_cmp (q, t) e.0) ≡ b → (is_some (set_in es (q, t)) ≡ true → any_under es n ≡ true) → is_some (cond b (Some e.1) (set_in es (q, t))) ≡ true → (under e.0.0 n || any_under es n) ≡ true
    by true p later g = or_left (under e.0.0 n) (any_under es n) (under_alike e.0.0 q n n (sym (key_from_tie (q, t) e.0 ((Equal-is (key_cmp (q, t) e.0)).0 p)).0) refl ∙ u)
    by false p later g = or_right (under e.0.0 n) (any_under es n) (later g)

-- a version and the same without a set
module _ (v : Version) (owner : Name) (rtype : ℕ) where
  abbrev pub left : Version
  left = remove_set v owner rtype

  pub still_in_tree : (q : Name) → in_tree left q ≡ true → in_tree v q ≡ true
  still_in_tree q h =
      and_so (in_zone v q) (exists v q) (first_so (in_zone v q) (exists left q) h)
      (⊎_elim (or_left (same_name q v.apex) (any_under v.sets q)) (λ g. or_right (same_name q v.apex) (any_under v.sets q) (left_exists (has_key (fold owner, rtype)) v.sets q g))
      (or_so (same_name q v.apex) (any_under left.sets q) (second_so (in_zone v q) (exists left q) h)))

  pub gone_from_tree : (q : Name) → in_tree v q ≡ true → in_tree left q ≡ false → under owner q ≡ true
  gone_from_tree q h g = by (same_name q v.apex) (any_under left.sets q) refl refl (no_exists (in_zone v q) (exists left q) (first_so (in_zone v q) (exists v q) h) g)
    where
      no_exists : (p q : Bool) → p ≡ true → (p && q) ≡ false → q ≡ false
      no_exists true q e k = k
      no_exists false q e k = absurd (true≢false (sym e))

      by : (a b : Bool) → same_name q v.apex ≡ a → any_under left.sets q ≡ b → (a || b) ≡ false → under owner q ≡ true
      by true b p r k = absurd (true≢false k)
      by false true p r k = absurd (true≢false k)
      by false false p r k =
          sym (under_alike (fold owner) owner q q (fold-fold owner) refl)
          ∙ gone_above v.sets (fold owner, rtype) q (⊎_elim (λ x. absurd (true≢false (sym x ∙ p))) (λ x. x) (or_so (same_name q v.apex) (any_under v.sets q) (second_so (in_zone v q) (exists v q) h))) r

  -- another set's owner stays
  pub others_stay : (q : Name) (t : ℕ) → Good v.sets → in_zone v q ≡ true → is_eq (key_cmp (q, t) (fold owner, rtype)) ≡ false → is_some (set_in v.sets (q, t)) ≡ true → in_tree left q ≡ true
  others_stay q t good z apart h =
      and_so (in_zone v q) (exists left q) z
      (or_right (same_name q v.apex) (any_under left.sets q)
      (found_exists left.sets q q t (under_itself q q refl) (ap is_some (lookup-remove_entry key_total v.sets (fold owner, rtype) (q, t) good.sorted ∙ ap (λ b. cond b None (set_in v.sets (q, t))) apart) ∙ h)))

-- ---- the sets of nodes

any_node : (n m : Name) (xs : NodeSets) → any_under (sets_of_node (m, xs)) n ≡ (under m n && not (length xs == 0))
any_node n m [] = by (under m n)
  where
    by : (b : Bool) → false ≡ (b && false)
    by true = refl
    by false = refl
any_node n m (x ∷ xs) = by (under m n) (not (length xs == 0)) (any_node n m xs) ∙ ap (λ c. under m n && not c) (sym (ne_eqb (length (x ∷ xs)) 0 (λ z. omega arith)))
  where
    by : (b c : Bool) → any_under (sets_of_node (m, xs)) n ≡ (b && c) → (b || any_under (sets_of_node (m, xs)) n) ≡ (b && true)
    by true c g = refl
    by false c g = g

pub any_sets : (n : Name) (ns : Nodes) → any_under (sets_of ns) n ≡ any_held ns n
any_sets n [] = refl
any_sets n (e ∷ ns) = append (sets_of_node e) (sets_of ns) ∙ (λ i. any_node n e.0 e.1 i || any_sets n ns i)
  where
    append : (xs ys : Sets) → any_under (xs ++ ys) n ≡ (any_under xs n || any_under ys n)
    append [] ys = refl
    append (x ∷ xs) ys = by (under x.0.0 n) (append xs ys)
      where
        by : (b : Bool) → any_under (xs ++ ys) n ≡ (any_under xs n || any_under ys n) → (b || any_under (xs ++ ys) n) ≡ ((b || any_under xs n) || any_under ys n)
        by true g = refl
        by false g = g
