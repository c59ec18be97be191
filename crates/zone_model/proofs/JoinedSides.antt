-- Two differences joined, over whole sides, and a chain of them.
use Rattle.std.proofs.Common.{◌≡◌, Bool, true, false, cond, ◌==◌, if◌then◌else◌, List, [], ◌∷◌, length, refl, sym, ap, ◌∙◌, subst, Less, is_eq, Option, Some, None, unwrap_or}
use Rattle.std.specs.List.{AllByRecursion, cons_option, last_or}
use Rattle.std.specs.List.Sorted.{IsStrictlySortedBy}
use Rattle.std.specs.Cmp.{Equal-is}
use Rattle.std.specs.BTreeMap.{insert_entry}
use Rattle.std.specs.Map.{keys_of}
use Rattle.std.proofs.lemmas.Map.Keys.{sorted_head, sorted_tail}
use Rattle.dns_name.specs.Names.{Name, fold, under}
use Rattle.zone_model.specs.Version.{RecordSet, Key, Sets, Version, IsValid, key_cmp, set_in, all_differ}
use Rattle.zone_model.specs.Difference.{Difference, difference, without, merged, merged_set, joined, condensed}
use Rattle.zone_model.specs.Offer.{successive}
use Rattle.zone_model.specs.Chains.{IsOf}
use Rattle.zone_model.proofs.Folded.{IsFolded, key_total, same_name-Decides, under_alike}
use Rattle.zone_model.proofs.Ordered.{find_alike, sorted_none, sorted_cons, passes-insert_entry, past_head}
use Rattle.zone_model.proofs.Steps.{Good, set_of, items_of, more, found-insert, good-insert}
use Rattle.zone_model.proofs.Phases.{good_tail}
use Rattle.zone_model.proofs.Valid.{Kept, kept, all_keys, valid_good, found_entry}
use Rattle.zone_model.proofs.SameVersions.{any}
use Rattle.zone_model.proofs.Differences.{lack}
use Rattle.zone_model.proofs.JoinedSets.{any-both, ttl-far, ttl-near, Lacks, except, found-without, full-except, differ-except, lacks_first, joined_at, or_turned, lacks_joined}

-- ---- whole sides

abbrev pub InZoneOf : Name → Sets → Type 0
InZoneOf n es = AllByRecursion (λ (k : Key). under k.0 n ≡ true) (keys_of es)

-- sets that hold what v has and w lacks
pub record Side (n : Name) (es : Sets) (v w : Version) : Type 0 where
  pub good : Good es
  pub zone : InZoneOf n es
  pub lacks : (q : Key) → Lacks (set_in es q) (set_in v.sets q) (set_in w.sets q)

pub passes-without : (P : Key → Type 0) (es others : Sets) → AllByRecursion P (keys_of es) → AllByRecursion P (keys_of (without es others))
passes-without P [] others a = tt
passes-without P (e ∷ es) others a =
    elim (length (lack (set_in others e.0) e.1) == 0) as (λ b. AllByRecursion P (keys_of (cons_option (if b then None else Some (e.0, set_of e.1.ttl (lack (set_in others e.0) e.1))) (without es others)))) [
      | true ↦ passes-without P es others a.1
      | false ↦ (a.0, passes-without P es others a.1)
    ]

pub sorted-without : (es others : Sets) → IsStrictlySortedBy key_cmp (keys_of es) → IsStrictlySortedBy key_cmp (keys_of (without es others))
sorted-without [] others s = sorted_none key_cmp
sorted-without (e ∷ es) others s =
    let rest = sorted-without es others (sorted_tail key_cmp e.0 (keys_of es) s) in
    elim (length (lack (set_in others e.0) e.1) == 0) as (λ b. IsStrictlySortedBy key_cmp (keys_of (cons_option (if b then None else Some (e.0, set_of e.1.ttl (lack (set_in others e.0) e.1))) (without es others)))) [
      | true ↦ rest
      | false ↦ sorted_cons key_cmp e.0 (keys_of (without es others)) (passes-without (λ (y : Key). key_cmp e.0 y ≡ Less) es others (sorted_head key_cmp e.0 (keys_of es) s)) rest
    ]

pub good-without : (es others : Sets) → Good es → Good (without es others)
good-without es others g = record { sorted = sorted-without es others g.sorted; folded = passes-without IsFolded es others g.folded }

pub good-merged : (a b : Sets) → Good a → Good b → Good (merged a b)
good-merged a [] g h = g
good-merged a (e ∷ b) g h = good-merged (insert_entry key_cmp a e.0 (merged_set (set_in a e.0) e.1)) b (good-insert a e.0 (merged_set (set_in a e.0) e.1) h.folded.0 g) (good_tail e b h)

pub zone-merged : (n : Name) (a b : Sets) → InZoneOf n a → InZoneOf n b → InZoneOf n (merged a b)
zone-merged n a [] g h = g
zone-merged n a (e ∷ b) g h =
    zone-merged n (insert_entry key_cmp a e.0 (merged_set (set_in a e.0) e.1)) b (passes-insert_entry key_total (λ (k : Key). under k.0 n ≡ true) a e.0 (merged_set (set_in a e.0) e.1) h.0 g) h.1

pub found-merged : (a b : Sets) (q : Key) → Good b → set_in (merged a b) q ≡ joined_at (set_in a q) (set_in b q)
found-merged a [] q h = refl
found-merged a (e ∷ b) q h = found-merged next b q (good_tail e b h) ∙ by (is_eq (key_cmp q e.0)) refl
  where
    next : Sets
    next = insert_entry key_cmp a e.0 (merged_set (set_in a e.0) e.1)

    by : (t : Bool) → is_eq (key_cmp q e.0) ≡ t → joined_at (set_in (insert_entry key_cmp a e.0 (merged_set (set_in a e.0) e.1)) q) (set_in b q) ≡ joined_at (set_in a q) (cond t (Some e.1) (set_in b q))
    by true p =
        ap (joined_at (set_in (insert_entry key_cmp a e.0 (merged_set (set_in a e.0) e.1)) q)) (past_head key_total q e b h.sorted p)
        ∙ found-insert a e.0 (merged_set (set_in a e.0) e.1) q ∙ ap (λ t. cond t (Some (merged_set (set_in a e.0) e.1)) (set_in a q)) p
        ∙ ap (λ o. Some (merged_set o e.1)) (sym (find_alike key_total a q e.0 ((Equal-is (key_cmp q e.0)).0 p)))
    by false p = ap (λ o. joined_at o (set_in b q)) (found-insert a e.0 (merged_set (set_in a e.0) e.1) q ∙ ap (λ t. cond t (Some (merged_set (set_in a e.0) e.1)) (set_in a q)) p)

-- a difference that leads from v to w
pub record IsDiff (n : Name) (d : Difference) (v w : Version) : Type 0 where
  pub removed : Side n d.removed v w
  pub added : Side n d.added w v

module _ (n : Name) (v w x : Version) (a b c f : Sets) (sa : Side n a v w) (sb : Side n b x w) (sc : Side n c w x) (sf : Side n f w v) where
  far_at : (q : Key) → set_in (without a b) q ≡ except (set_in a q) (set_in b q)
  far_at q = found-without a b q sa.good

  near_at : (q : Key) → set_in (without c f) q ≡ except (set_in c q) (set_in f q)
  near_at q = found-without c f q sc.good

  far_first : Side n (merged (without a b) (without c f)) v x
  far_first = record {
    good = good-merged (without a b) (without c f) (good-without a b sa.good) (good-without c f sc.good);
    zone = zone-merged n (without a b) (without c f) (passes-without (λ (k : Key). under k.0 n ≡ true) a b sa.zone) (passes-without (λ (k : Key). under k.0 n ≡ true) c f sc.zone);
    lacks = λ q.
        let A = set_in a q in
        let B = set_in b q in
        let C = set_in c q in
        let F = set_in f q in
        subst (λ o. Lacks o (set_in v.sets q) (set_in x.sets q)) (sym (found-merged (without a b) (without c f) q (good-without c f sc.good) ∙ (λ i. joined_at (far_at q i) (near_at q i))))
        (lacks_joined (except A B) (except C F) (set_in v.sets q) (set_in x.sets q) (full-except A B) (full-except C F) (any-both (set_in v.sets q) (set_in w.sets q) (set_in x.sets q) A B C F (sa.lacks q) (sb.lacks q) (sc.lacks q) (sf.lacks q))
        (differ-except A B (sa.lacks q).differ) (differ-except C F (sc.lacks q).differ)
        (ttl-far (set_in v.sets q) (set_in w.sets q) (set_in x.sets q) A B C F (sa.lacks q) (sb.lacks q) (sc.lacks q) (sf.lacks q))
        (ttl-near (set_in v.sets q) (set_in w.sets q) (set_in x.sets q) A B C F (sa.lacks q) (sb.lacks q) (sc.lacks q) (sf.lacks q)));
  }

  near_first : Side n (merged (without c f) (without a b)) v x
  near_first = record {
    good = good-merged (without c f) (without a b) (good-without c f sc.good) (good-without a b sa.good);
    zone = zone-merged n (without c f) (without a b) (passes-without (λ (k : Key). under k.0 n ≡ true) c f sc.zone) (passes-without (λ (k : Key). under k.0 n ≡ true) a b sa.zone);
    lacks = λ q.
        let A = set_in a q in
        let B = set_in b q in
        let C = set_in c q in
        let F = set_in f q in
        subst (λ o. Lacks o (set_in v.sets q) (set_in x.sets q)) (sym (found-merged (without c f) (without a b) q (good-without a b sa.good) ∙ (λ i. joined_at (near_at q i) (far_at q i))))
        (lacks_joined (except C F) (except A B) (set_in v.sets q) (set_in x.sets q) (full-except C F) (full-except A B)
        (λ d. or_turned (any d (items_of (except C F))) (any d (items_of (except A B))) ∙ any-both (set_in v.sets q) (set_in w.sets q) (set_in x.sets q) A B C F (sa.lacks q) (sb.lacks q) (sc.lacks q) (sf.lacks q) d)
        (differ-except C F (sc.lacks q).differ) (differ-except A B (sa.lacks q).differ)
        (ttl-near (set_in v.sets q) (set_in w.sets q) (set_in x.sets q) A B C F (sa.lacks q) (sb.lacks q) (sc.lacks q) (sf.lacks q))
        (ttl-far (set_in v.sets q) (set_in w.sets q) (set_in x.sets q) A B C F (sa.lacks q) (sb.lacks q) (sc.lacks q) (sf.lacks q)));
  }

pub joined_leads : (n : Name) (v w x : Version) (d e : Difference) → IsDiff n d v w → IsDiff n e w x → IsDiff n (joined d e) v x
joined_leads n v w x d e p q = record {
  removed = far_first n v w x d.removed e.added e.removed d.added p.removed q.added q.removed p.added;
  added = near_first n x w v e.added d.removed d.added e.removed q.added p.removed p.added q.removed;
}

-- ---- a chain

pub differ_valid : (v : Version) → IsValid v → (q : Key) → all_differ (items_of (set_in v.sets q)) ≡ true
differ_valid v h q = by (set_in v.sets q) refl
  where
    by : (o : Option RecordSet) → set_in v.sets q ≡ o → all_differ (items_of o) ≡ true
    by None e = refl
    by (Some s) e = (found_entry (Kept v) v.sets q s (kept v h) e).holds_of.differ

pub zone_of_valid : (n : Name) (v : Version) → IsValid v → fold v.apex ≡ fold n → InZoneOf n v.sets
zone_of_valid n v h near = all_keys (Kept v) (λ (k : Key). under k.0 n ≡ true) v.sets (λ e k. under_alike e.0.0 e.0.0 n v.apex refl (sym near) ∙ k.zone) (kept v h)

pub first_side : (n : Name) (v w : Version) → IsValid v → fold v.apex ≡ fold n → Side n (without v.sets w.sets) v w
first_side n v w h near = record {
  good = good-without v.sets w.sets (valid_good v h);
  zone = passes-without (λ (k : Key). under k.0 n ≡ true) v.sets w.sets (zone_of_valid n v h near);
  lacks = λ q. subst (λ o. Lacks o (set_in v.sets q) (set_in w.sets q)) (sym (found-without v.sets w.sets q (valid_good v h))) (lacks_first (set_in v.sets q) (set_in w.sets q) (differ_valid v h q));
}

pub near_of : (n : Name) (v : Version) → IsOf n v → fold v.apex ≡ fold n
near_of n v p = (same_name-Decides v.apex n).0 p.same_apex

pub first_diff : (n : Name) (v w : Version) → IsOf n v → IsOf n w → IsDiff n (difference v w) v w
first_diff n v w p q = record { removed = first_side n v w p.valid (near_of n v p); added = first_side n w v q.valid (near_of n w q) }

pub chain_diff : (n : Name) (v w : Version) (more : List Version) (d : Difference) (u : Version) → IsDiff n d v w → AllByRecursion (IsOf n) (w ∷ more) → last_or (Some w) more ≡ Some u → IsDiff n (condensed d (successive (w ∷ more))) v u
chain_diff n v w [] d u p a e = subst (IsDiff n d v) (ap (λ o. unwrap_or o w) e) p
chain_diff n v w (x ∷ more) d u p a e = chain_diff n v x more (joined d (difference w x)) u (joined_leads n v w x d (difference w x) p (first_diff n w x a.0 a.1.0)) a.1 e
