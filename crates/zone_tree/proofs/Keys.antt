-- What a look-up by class and apex finds, and when keys are one.
use Rattle.std.proofs.Common.{◌≡◌, ℕ, true, false, cond, ◌&&◌, ◌==◌, [], ◌∷◌, refl, sym, ap, ◌∙◌, subst, true≢false, eq-eqb, All, Contains, Ordering, Less, Equal, Greater, is_eq, nat_cmp, Some, None, is_some, unwrap_or}
use Rattle.std.specs.Ordering.{ordering_then}
use Rattle.std.specs.Cmp.{tied_itself, tied_back}
use Rattle.std.specs.Map.{values_of}
use Rattle.std.proofs.lemmas.Map.Lookups.{exact_unsigned}
use Rattle.std.proofs.lemmas.List.Elements.{All-nil, All-cons, All-head, All-tail, Contains-push, Contains-append_left, Contains-append_right}
use Rattle.dns_name.specs.Names.{Name, fold, same_name, canonical_cmp}
use Rattle.dns_name.specs.NameOrder.{canonical_ties}
use Rattle.dns_name.proofs.FoldedLabels.{equal_names}
use Rattle.zone_model.specs.Zones.{ZoneKey, Zones, zone_key_cmp, zone_of}
use Rattle.zone_model.proofs.Folded.{fold-fold}
use Rattle.zone_tree.proofs.KeyOrder.{zone_key_total}
use Rattle.zone_tree.specs.Trees.{key_of}

-- ---- keys that tie

both_equal : (o p : Ordering) → ordering_then o p ≡ Equal → (o ≡ Equal) × (p ≡ Equal)
both_equal Less p e = absurd (true≢false (sym (ap is_eq e)))
both_equal Equal p e = (refl, e)
both_equal Greater p e = absurd (true≢false (sym (ap is_eq e)))

-- names that tie in canonical order are equal, case aside
pub names_tie : (a b : Name) → canonical_cmp a b ≡ Equal → fold a ≡ fold b
names_tie a b e = (equal_names a b).0 (canonical_ties a b ∙ ap is_eq e)

pub keys_tie : (p q : ZoneKey) → zone_key_cmp p q ≡ Equal → (p.0 ≡ q.0) × (fold p.1 ≡ fold q.1)
keys_tie p q e = let t = both_equal (nat_cmp p.0 q.0) (canonical_cmp p.1 q.1) e in (exact_unsigned p.0 q.0 t.0, names_tie p.1 q.1 t.1)

module _ {Z : Type 0} (class_of : Z → ℕ) (apex_of : Z → Name) where
  -- an entry stands under its zone's key
  abbrev pub IsPlaced : ZoneKey × Z → Type 0
  IsPlaced e = e.0 ≡ key_of class_of apex_of e.1

  -- the zone is the one of the class and apex
  abbrev pub IsZoneOf : ℕ → Name → Z → Type 0
  IsZoneOf class apex zone = (class_of zone ≡ class) × (fold (apex_of zone) ≡ fold apex)

  -- at its own key a zone ties, and only there
  tie_is : (class : ℕ) (apex : Name) (e : ZoneKey × Z) → IsPlaced e → zone_key_cmp (class, fold apex) e.0 ≡ Equal → IsZoneOf class apex e.1
  tie_is class apex e at q =
      let t = keys_tie (class, fold apex) e.0 q in
      (sym (t.0 ∙ ap (λ (k : ZoneKey). k.0) at), sym (fold-fold (apex_of e.1)) ∙ sym (ap (λ (k : ZoneKey). fold k.1) at) ∙ sym t.1 ∙ fold-fold apex)

  is_tie : (class : ℕ) (apex : Name) (e : ZoneKey × Z) → IsPlaced e → IsZoneOf class apex e.1 → zone_key_cmp (class, fold apex) e.0 ≡ Equal
  is_tie class apex e at z =
      let k : e.0 ≡ (class, fold apex) = at ∙ (λ i. (z.0 i, z.1 i)) in
      ap (zone_key_cmp (class, fold apex)) k ∙ tied_itself zone_key_total (class, fold apex)

  -- a look-up finds the zone of a class and apex
  pub found_is : (zones : Zones Z) (class : ℕ) (apex : Name) (zone : Z) → All IsPlaced zones → zone_of zones class apex ≡ Some zone → Contains (values_of zones) zone × IsZoneOf class apex zone
  found_is [] class apex zone placed found = absurd (true≢false (sym (ap is_some found)))
  found_is (e ∷ zones) class apex zone placed found = by (zone_key_cmp (class, fold apex) e.0) refl found (λ g. found_is zones class apex zone (All-tail IsPlaced e zones placed) g)
    where
      later : Contains (values_of zones) zone × IsZoneOf class apex zone → Contains (values_of (e ∷ zones)) zone × IsZoneOf class apex zone
      later r = (Contains-append_right (e.1 ∷ []) (values_of zones) zone r.0, r.1)

      by : (o : Ordering) → zone_key_cmp (class, fold apex) e.0 ≡ o → cond (is_eq o) (Some e.1) (zone_of zones class apex) ≡ Some zone
          → (zone_of zones class apex ≡ Some zone → Contains (values_of zones) zone × IsZoneOf class apex zone) → Contains (values_of (e ∷ zones)) zone × IsZoneOf class apex zone
      by Less q g rest = later (rest g)
      by Equal q g rest =
          subst (λ z. Contains (values_of (e ∷ zones)) z × IsZoneOf class apex z) (ap (λ o. unwrap_or o e.1) g)
          (Contains-append_left (e.1 ∷ []) (values_of zones) e.1 (Contains-push [] e.1), tie_is class apex e (All-head IsPlaced e zones placed) q)
      by Greater q g rest = later (rest g)

  -- and finds none where there is none
  pub none_is : (zones : Zones Z) (class : ℕ) (apex : Name) → All IsPlaced zones → zone_of zones class apex ≡ None → All (λ zone. IsZoneOf class apex zone → ⊥) (values_of zones)
  none_is [] class apex placed none = All-nil (λ zone. IsZoneOf class apex zone → ⊥)
  none_is (e ∷ zones) class apex placed none = by (zone_key_cmp (class, fold apex) e.0) refl none (λ g. none_is zones class apex (All-tail IsPlaced e zones placed) g)
    where
      apart : (o : Ordering) → is_eq o ≡ false → zone_key_cmp (class, fold apex) e.0 ≡ o → All (λ zone. IsZoneOf class apex zone → ⊥) (values_of zones) → All (λ zone. IsZoneOf class apex zone → ⊥) (values_of (e ∷ zones))
      apart o differs q rest =
          All-cons (λ zone. IsZoneOf class apex zone → ⊥) e.1 (values_of zones)
          (λ z. true≢false (sym (ap is_eq (is_tie class apex e (All-head IsPlaced e zones placed) z)) ∙ ap is_eq q ∙ differs)) rest

      by : (o : Ordering) → zone_key_cmp (class, fold apex) e.0 ≡ o → cond (is_eq o) (Some e.1) (zone_of zones class apex) ≡ None
          → (zone_of zones class apex ≡ None → All (λ zone. IsZoneOf class apex zone → ⊥) (values_of zones)) → All (λ zone. IsZoneOf class apex zone → ⊥) (values_of (e ∷ zones))
      by Less q g rest = apart Less refl q (rest g)
      by Equal q g rest = absurd (true≢false (ap is_some g))
      by Greater q g rest = apart Greater refl q (rest g)

-- keys of another class or name don't tie
pub apart_is : (class : ℕ) (apex : Name) (c : ℕ) (n : Name) → ((class == c) && same_name apex n) ≡ false → is_eq (zone_key_cmp (class, fold apex) (c, fold n)) ≡ false
apart_is class apex c n apart = by (zone_key_cmp (class, fold apex) (c, fold n)) refl
  where
    same : zone_key_cmp (class, fold apex) (c, fold n) ≡ Equal → ((class == c) && same_name apex n) ≡ true
    same q =
        let t = keys_tie (class, fold apex) (c, fold n) q in
        let names = (equal_names apex n).1 (sym (fold-fold apex) ∙ t.1 ∙ fold-fold n) in
        (λ i. (eq-eqb class c t.0 i) && names i)

    by : (o : Ordering) → zone_key_cmp (class, fold apex) (c, fold n) ≡ o → is_eq o ≡ false
    by Less q = refl
    by Equal q = absurd (true≢false (sym (same q) ∙ apart))
    by Greater q = refl

pub apart_back : (class : ℕ) (apex : Name) (c : ℕ) (n : Name) → ((class == c) && same_name apex n) ≡ false → is_eq (zone_key_cmp (c, fold n) (class, fold apex)) ≡ false
apart_back class apex c n apart = by (zone_key_cmp (c, fold n) (class, fold apex)) refl
  where
    by : (o : Ordering) → zone_key_cmp (c, fold n) (class, fold apex) ≡ o → is_eq o ≡ false
    by Less q = refl
    by Equal q = absurd (true≢false (sym (ap is_eq (tied_back zone_key_total (c, fold n) (class, fold apex) q)) ∙ apart_is class apex c n apart))
    by Greater q = refl
