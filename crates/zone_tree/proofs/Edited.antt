-- What an insertion and a removal make of the zones.
use Rattle.std.proofs.Common.{◌≡◌, ℕ, Bool, true, false, cond, [], ◌∷◌, refl, sym, ap, ◌∙◌, true≢false, All, Ordering, Less, Equal, Greater, is_eq, Option, Some, None, Result, Ok, Err, OnOk, OnErr, IfNone}
use Rattle.std.specs.Ordering.{match_ordering}
use Rattle.std.specs.Cmp.{tied_itself, alike_right, eq_by_cmp_equiv}
use Rattle.std.specs.List.Sorted.{IsStrictlySortedBy}
use Rattle.std.specs.BTreeMap.{insert_entry, is_at}
use Rattle.std.specs.Map.{keys_of, lookup, remove_entry}
use Rattle.std.proofs.lemmas.Map.{lookup-remove_entry}
use Rattle.std.proofs.lemmas.Map.Keys.{IsDistinct-from_sorted}
use Rattle.std.proofs.lemmas.List.Elements.{All-nil, All-cons, All-head, All-tail}
use Rattle.dns_name.specs.Names.{Name, fold}
use Rattle.zone_model.specs.Zones.{ZoneKey, Zones, zone_key_cmp, zone_of}
use Rattle.zone_model.proofs.Folded.{fold-fold}
use Rattle.zone_tree.proofs.KeyOrder.{zone_key_total}
use Rattle.zone_tree.specs.Trees.{SameElsewhere}
use Rattle.zone_tree.proofs.Keys.{keys_tie, IsPlaced, apart_is, apart_back}

-- ---- facts of an outcome, from others

tied : (o : Ordering) → is_eq o ≡ true → o ≡ Equal
tied Less h = absurd (true≢false (sym h))
tied Equal h = refl
tied Greater h = absurd (true≢false (sym h))

pub on_ok : {T E : Type 0} (r : Result T E) (P Q : Type 0) → OnOk r P → (P → Q) → OnOk r Q
on_ok (Ok x) P Q h f = f h
on_ok (Err e) P Q h f = tt

pub on_err : {T E : Type 0} (r : Result T E) (P Q : Type 0) → OnErr r P → (P → Q) → OnErr r Q
on_err (Ok x) P Q h f = tt
on_err (Err e) P Q h f = f h

pub of_both : {T E : Type 0} (r : Result T E) (P Q A : Type 0) → OnOk r P → OnErr r Q → (P → A) → (Q → A) → A
of_both (Ok x) P Q A h k f g = f h
of_both (Err e) P Q A h k f g = g k

pub if_none : {T : Type 0} (o : Option T) (P Q : Type 0) → IfNone o P → (P → Q) → IfNone o Q
if_none None P Q h f = f h
if_none (Some x) P Q h f = tt

module _ {Z : Type 0} where
  -- ---- an insertion

  -- what is put at a key is found there
  pub inserted_there : (zones : Zones Z) (k : ZoneKey) (zone : Z) → lookup (is_at (zone_key_cmp k)) (insert_entry zone_key_cmp zones k zone) ≡ Some zone
  inserted_there [] k zone = ap (λ o. cond (is_eq o) (Some zone) None) (tied_itself zone_key_total k)
  inserted_there (e ∷ zones) k zone = by (zone_key_cmp k e.0) refl (inserted_there zones k zone)
    where
      by : (o : Ordering) → zone_key_cmp k e.0 ≡ o → lookup (is_at (zone_key_cmp k)) (insert_entry zone_key_cmp zones k zone) ≡ Some zone
          → lookup (is_at (zone_key_cmp k)) (match_ordering o ((k, zone) ∷ e ∷ zones) ((e.0, zone) ∷ zones) (e ∷ insert_entry zone_key_cmp zones k zone)) ≡ Some zone
      by Less q rest = ap (λ o. cond (is_eq o) (Some zone) (lookup (is_at (zone_key_cmp k)) (e ∷ zones))) (tied_itself zone_key_total k)
      by Equal q rest = ap (λ o. cond (is_eq o) (Some zone) (lookup (is_at (zone_key_cmp k)) zones)) q
      by Greater q rest = ap (λ o. cond (is_eq o) (Some e.1) (lookup (is_at (zone_key_cmp k)) (insert_entry zone_key_cmp zones k zone))) q ∙ rest

  -- .. and every other key has what it had
  inserted_elsewhere : (zones : Zones Z) (k q : ZoneKey) (zone : Z) → is_eq (zone_key_cmp q k) ≡ false → lookup (is_at (zone_key_cmp q)) (insert_entry zone_key_cmp zones k zone) ≡ lookup (is_at (zone_key_cmp q)) zones
  inserted_elsewhere [] k q zone apart = ap (λ b. cond b (Some zone) None) apart
  inserted_elsewhere (e ∷ zones) k q zone apart = by (zone_key_cmp k e.0) refl (inserted_elsewhere zones k q zone apart)
    where
      by : (o : Ordering) → zone_key_cmp k e.0 ≡ o → lookup (is_at (zone_key_cmp q)) (insert_entry zone_key_cmp zones k zone) ≡ lookup (is_at (zone_key_cmp q)) zones
          → lookup (is_at (zone_key_cmp q)) (match_ordering o ((k, zone) ∷ e ∷ zones) ((e.0, zone) ∷ zones) (e ∷ insert_entry zone_key_cmp zones k zone)) ≡ lookup (is_at (zone_key_cmp q)) (e ∷ zones)
      by Less p rest = ap (λ b. cond b (Some zone) (lookup (is_at (zone_key_cmp q)) (e ∷ zones))) apart
      by Equal p rest =
          let other : is_eq (zone_key_cmp q e.0) ≡ false = sym (ap is_eq (alike_right zone_key_total k e.0 q p)) ∙ apart in
          ap (λ b. cond b (Some zone) (lookup (is_at (zone_key_cmp q)) zones)) other ∙ sym (ap (λ b. cond b (Some e.1) (lookup (is_at (zone_key_cmp q)) zones)) other)
      by Greater p rest = ap (λ o. cond (is_eq (zone_key_cmp q e.0)) (Some e.1) o) rest

  pub inserted_others : (zones : Zones Z) (class : ℕ) (apex : Name) (zone : Z) → SameElsewhere class apex zones (insert_entry zone_key_cmp zones (class, fold apex) zone)
  inserted_others zones class apex zone = λ c n apart. inserted_elsewhere zones (class, fold apex) (c, fold n) zone (apart_back class apex c n apart)

  -- ---- a removal

  removed_at : (zones : Zones Z) (k q : ZoneKey) → IsStrictlySortedBy zone_key_cmp (keys_of zones)
      → lookup (is_at (zone_key_cmp q)) (remove_entry (is_at (zone_key_cmp k)) zones) ≡ cond (is_eq (zone_key_cmp k q)) None (lookup (is_at (zone_key_cmp q)) zones)
  removed_at zones k q ordered =
      lookup-remove_entry (eq_by_cmp_equiv zone_key_total) (is_at (zone_key_cmp k)) (λ x y h. ap is_eq (zone_key_total.congr k x y (tied (zone_key_cmp k x) h))) q zones
      (IsDistinct-from_sorted zone_key_cmp (keys_of zones) ordered)

  -- nothing is found at a key from which it was taken
  pub removed_there : (zones : Zones Z) (k : ZoneKey) → IsStrictlySortedBy zone_key_cmp (keys_of zones) → lookup (is_at (zone_key_cmp k)) (remove_entry (is_at (zone_key_cmp k)) zones) ≡ None
  removed_there zones k ordered = removed_at zones k k ordered ∙ ap (λ o. cond (is_eq o) None (lookup (is_at (zone_key_cmp k)) zones)) (tied_itself zone_key_total k)

  -- .. and every other key has what it had
  pub removed_others : (zones : Zones Z) (class : ℕ) (apex : Name) → IsStrictlySortedBy zone_key_cmp (keys_of zones) → SameElsewhere class apex zones (remove_entry (is_at (zone_key_cmp (class, fold apex))) zones)
  removed_others zones class apex ordered =
      λ c n apart. removed_at zones (class, fold apex) (c, fold n) ordered ∙ ap (λ b. cond b None (zone_of zones c n)) (apart_is class apex c n apart)

-- ---- zones stay under their own keys

module _ {Z : Type 0} (class_of : Z → ℕ) (apex_of : Z → Name) where
  folded : (e : ZoneKey × Z) → IsPlaced class_of apex_of e → fold e.0.1 ≡ e.0.1
  folded e at = ap (λ (k : ZoneKey). fold k.1) at ∙ fold-fold (apex_of e.1) ∙ sym (ap (λ (k : ZoneKey). k.1) at)

  pub placed_inserted : (zones : Zones Z) (k : ZoneKey) (zone : Z) → IsPlaced class_of apex_of (k, zone) → All (IsPlaced class_of apex_of) zones → All (IsPlaced class_of apex_of) (insert_entry zone_key_cmp zones k zone)
  placed_inserted [] k zone at placed = All-cons (IsPlaced class_of apex_of) (k, zone) [] at (All-nil (IsPlaced class_of apex_of))
  placed_inserted (e ∷ zones) k zone at placed = by (zone_key_cmp k e.0) refl (placed_inserted zones k zone at (All-tail (IsPlaced class_of apex_of) e zones placed))
    where
      first : IsPlaced class_of apex_of e
      first = All-head (IsPlaced class_of apex_of) e zones placed

      others : All (IsPlaced class_of apex_of) zones
      others = All-tail (IsPlaced class_of apex_of) e zones placed

      same : zone_key_cmp k e.0 ≡ Equal → e.0 ≡ k
      same q = let t = keys_tie k e.0 q in let name : e.0.1 ≡ k.1 = sym (folded e first) ∙ sym t.1 ∙ folded (k, zone) at in λ i. (sym t.0 i, name i)

      by : (o : Ordering) → zone_key_cmp k e.0 ≡ o → All (IsPlaced class_of apex_of) (insert_entry zone_key_cmp zones k zone)
          → All (IsPlaced class_of apex_of) (match_ordering o ((k, zone) ∷ e ∷ zones) ((e.0, zone) ∷ zones) (e ∷ insert_entry zone_key_cmp zones k zone))
      by Less q rest = All-cons (IsPlaced class_of apex_of) (k, zone) (e ∷ zones) at placed
      by Equal q rest = All-cons (IsPlaced class_of apex_of) (e.0, zone) zones (same q ∙ at) others
      by Greater q rest = All-cons (IsPlaced class_of apex_of) e (insert_entry zone_key_cmp zones k zone) first rest

  pub placed_removed : (zones : Zones Z) (test : ZoneKey → Bool) → All (IsPlaced class_of apex_of) zones → All (IsPlaced class_of apex_of) (remove_entry test zones)
  placed_removed [] test placed = placed
  placed_removed (e ∷ zones) test placed = by (test e.0) (placed_removed zones test (All-tail (IsPlaced class_of apex_of) e zones placed))
    where
      by : (b : Bool) → All (IsPlaced class_of apex_of) (remove_entry test zones) → All (IsPlaced class_of apex_of) (cond b zones (e ∷ remove_entry test zones))
      by true rest = All-tail (IsPlaced class_of apex_of) e zones placed
      by false rest = All-cons (IsPlaced class_of apex_of) e (remove_entry test zones) (All-head (IsPlaced class_of apex_of) e zones placed) rest
