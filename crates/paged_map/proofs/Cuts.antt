-- Pages at the place of a key.
use Rattle.std.proofs.Common.{◌≡◌, ℕ, zero, suc, ◌≤◌, ◌<◌, Bool, true, false, not, List, [], ◌∷◌, ◌++◌, take, drop, length, refl, sym, ap, ◌∙◌, subst, true≢false, append_assoc, take-append-drop, Option, Some, None, is_some, IsSome, IsTrue, Result, Ok, Err, OnOk, OnErr, option_to_list, option_map, slice_get, Ordering, Less, Equal, Greater, is_lt, is_eq, arith}
use Rattle.std.specs.List.{AllByRecursion}
use Rattle.std.specs.declared.sync.Arc.{Arc}
use Rattle.std.specs.Arc.{arc_value}
use Rattle.std.specs.BTreeMap.{insert_entry, is_at}
use Rattle.std.specs.Map.{lookup, remove_entry}
use Rattle.std.proofs.lemmas.List.{take_all, drop_all, get_or-map}
use Rattle.std.proofs.lemmas.Option.{get_or_from_slice_get, slice_get_within}
use Rattle.std.specs.Cmp.{Equal-is}
use Rattle.paged_map.specs.declared.spots.Spot.{Spot}
use Rattle.paged_map.specs.Octets.{octets_cmp, is_key_of}
use Rattle.paged_map.specs.Pages.{joined, page_at, key_there, before, after, beyond, IsWithin, Ascend, AreFit, values_in, entries_of, IsSound, HasAt, LacksAt}
use Rattle.paged_map.proofs.Orders.{ascend_back}
use Rattle.paged_map.proofs.Places.{split_joined, none_left, got_here}
use Rattle.paged_map.proofs.Keys.{Below, From, lookup_found, lookup_absent, insert_found, insert_absent, remove_found, same_octets}

module _ {X : Type 0} where
  -- all entries are those before a place and those from there on
  pub whole : (ps : List (List X)) (s : Spot) → IsWithin ps s → joined ps ≡ before ps s ++ after ps s
  whole [] s w =
      let front : before [] s ≡ [] = ap (λ l. joined l ++ take s.at []) (take_all s.page [] (omega arith)) ∙ take_all s.at [] (omega arith) in
      let back : after [] s ≡ [] = ap (λ l. l ++ joined (drop (suc s.page) [])) (drop_all s.at [] (omega arith)) in
      ap (λ l. l) (sym back) ∙ ap (λ l. l ++ after [] s) (sym front)
  whole (p ∷ ps) s w =
      let all : List (List X) = p ∷ ps in
      let q = page_at all s.page in
      let rest = joined (drop (suc s.page) all) in
      split_joined all s.page (w.1 (omega arith)) ∙ ap (λ l. joined (take s.page all) ++ (l ++ rest)) (sym (take-append-drop s.at q))
      ∙ ap (λ l. joined (take s.page all) ++ l) (append_assoc (take s.at q) (drop s.at q) rest) ∙ sym (append_assoc (joined (take s.page all)) (take s.at q) (drop s.at q ++ rest))

  drop_here : (p : List X) (i : ℕ) (x : X) → slice_get p i ≡ Some x → drop i p ≡ x ∷ drop (suc i) p
  drop_here [] i x h = absurd (true≢false (sym (ap is_some h)))
  drop_here (y ∷ p) zero x h = ap (λ l. l ++ p) (some_same y x h)
    where
      some_same : (y x : X) → Some y ≡ Some x → (y ∷ []) ≡ (x ∷ [])
      some_same y x h = ap option_to_list h
  drop_here (y ∷ p) (suc i) x h = drop_here p i x h

  -- an entry at a place is the first from there on
  pub from_here : (ps : List (List X)) (s : Spot) (x : X) → slice_get (page_at ps s.page) s.at ≡ Some x → after ps s ≡ x ∷ beyond ps s
  from_here ps s x h = ap (λ l. l ++ joined (drop (suc s.page) ps)) (drop_here (page_at ps s.page) s.at x h)

  pub within_some : (p : List X) (i : ℕ) (x : X) → slice_get p i ≡ Some x → i < length p
  within_some [] i x h = absurd (true≢false (sym (ap is_some h)))
  within_some (y ∷ p) zero x h = omega arith
  within_some (y ∷ p) (suc i) x h = let l : i < length p = within_some p i x h in omega (arith, l)

  pub page_within : (ps : List (List X)) (q i : ℕ) (x : X) → slice_get (page_at ps q) i ≡ Some x → q < length ps
  page_within [] q i x h = absurd (true≢false (sym (ap is_some h)))
  page_within (p ∷ ps) zero i x h = omega arith
  page_within (p ∷ ps) (suc q) i x h = let l : q < length ps = page_within ps q i x h in omega (arith, l)

module _ {V : Type 0} where
  not_first : (k : List ℕ) (es : List (List ℕ × V)) → AllByRecursion (λ e. not (is_lt (octets_cmp k e.0)) ≡ false) es → is_key_of k (slice_get es 0) ≡ false
  not_first k [] u = refl
  not_first k (e ∷ es) u = by (octets_cmp k e.0) u.0
    where
      by : (o : Ordering) → not (is_lt o) ≡ false → is_eq o ≡ false
      by Less h = refl
      by Equal h = absurd (true≢false h)
      by Greater h = refl

  -- a key that isn't at its place is nowhere: later pages begin after it
  pub absent_from : (k : List ℕ) (ps : List (List (List ℕ × V))) (s : Spot) → AllByRecursion (λ e. not (is_lt (octets_cmp k e.0)) ≡ false) (joined (drop (suc s.page) ps))
      → is_key_of k (slice_get (page_at ps s.page) s.at) ≡ false → is_key_of k (slice_get (after ps s) 0) ≡ false
  absent_from k ps s u h = by (slice_get (page_at ps s.page) s.at) refl
    where
      by : (o : Option (List ℕ × V)) → slice_get (page_at ps s.page) s.at ≡ o → is_key_of k (slice_get (after ps s) 0) ≡ false
      by None e = ap (λ l. is_key_of k (slice_get (l ++ joined (drop (suc s.page) ps)) 0)) (none_left (page_at ps s.page) s.at e) ∙ not_first k (joined (drop (suc s.page) ps)) u
      by (Some x) e = ap (is_key_of k) (got_here (page_at ps s.page) s.at x (joined (drop (suc s.page) ps)) e) ∙ ap (is_key_of k) (sym e) ∙ h

  -- where a key is at its place, an entry with it is
  pub key_at : (k : List ℕ) (o : Option (List ℕ × V)) → is_key_of k o ≡ true → (e : List ℕ × V) × (o ≡ Some e) × (is_eq (octets_cmp k e.0) ≡ true)
  key_at k None h = absurd (true≢false (sym h))
  key_at k (Some e) h = (e, refl, h)

-- what pages have at a key, and an edit there
module _ {V : Type 0} (ps : List (List (List ℕ × V))) (s : Spot) (k : List ℕ) (w : IsWithin ps s) (b : Below k (before ps s)) where
  module _ (e : List ℕ × V) (here : slice_get (page_at ps s.page) s.at ≡ Some e) (same : is_eq (octets_cmp k e.0) ≡ true) where
    parted : joined ps ≡ before ps s ++ e ∷ beyond ps s
    parted = whole ps s w ∙ ap (λ l. before ps s ++ l) (from_here ps s e here)

    pub get_found : lookup (is_at (octets_cmp k)) (joined ps) ≡ Some e.1
    get_found = ap (lookup (is_at (octets_cmp k))) parted ∙ lookup_found k (before ps s) e (beyond ps s) b same

    pub key_found : key_there ps s ≡ k
    key_found =
        get_or-map (λ (x : List ℕ × V). x.0) (page_at ps s.page) s.at e [] (slice_get_within (page_at ps s.page) s.at e here)
        ∙ ap (λ (x : List ℕ × V). x.0) (get_or_from_slice_get (page_at ps s.page) s.at e e here) ∙ same_octets k e.0 ((Equal-is (octets_cmp k e.0)).0 same)

    pub value_found : lookup (is_at (octets_cmp k)) (joined ps) ≡ option_map (λ (x : List ℕ × V). x.1) (slice_get (page_at ps s.page) s.at)
    value_found = get_found ∙ ap (option_map (λ (x : List ℕ × V). x.1)) (sym here)

    pub put_found : (v : V) → insert_entry octets_cmp (joined ps) k v ≡ before ps s ++ (k, v) ∷ beyond ps s
    put_found v = ap (λ l. insert_entry octets_cmp l k v) parted ∙ insert_found k v (before ps s) e (beyond ps s) b same

    pub take_found : remove_entry (is_at (octets_cmp k)) (joined ps) ≡ before ps s ++ beyond ps s
    take_found = ap (remove_entry (is_at (octets_cmp k))) parted ∙ remove_found k (before ps s) e (beyond ps s) b same

  module _ (f : From k (after ps s)) (u : AllByRecursion (λ e. not (is_lt (octets_cmp k e.0)) ≡ false) (joined (drop (suc s.page) ps))) (none : is_key_of k (slice_get (page_at ps s.page) s.at) ≡ false) where
    pub put_absent : (v : V) → insert_entry octets_cmp (joined ps) k v ≡ before ps s ++ (k, v) ∷ after ps s
    put_absent v = ap (λ l. insert_entry octets_cmp l k v) (whole ps s w) ∙ insert_absent k v (before ps s) (after ps s) b f (absent_from k ps s u none)

    pub get_absent : Ascend (joined ps) → lookup (is_at (octets_cmp k)) (joined ps) ≡ None
    get_absent sorted =
        ap (lookup (is_at (octets_cmp k))) (whole ps s w) ∙ lookup_absent k (before ps s) (after ps s) b f (ascend_back (before ps s) (after ps s) (subst Ascend (whole ps s w) sorted)) (absent_from k ps s u none)

module _ {V : Type 0} (k : List ℕ) (ps : List (List (List ℕ × V))) (s : Spot) (w : IsWithin ps s) (b : Below k (before ps s)) where
  pub has_at : is_key_of k (slice_get (page_at ps s.page) s.at) ≡ true → HasAt k ps s
  has_at t =
      let h = key_at k (slice_get (page_at ps s.page) s.at) t in
      record {
        page = page_within ps s.page s.at h.0 h.1;
        at = within_some (page_at ps s.page) s.at h.0 h.1;
        found = ap is_some (get_found ps s k w b h.0 h.1 h.2);
        key = key_found ps s k w b h.0 h.1 h.2;
        value = value_found ps s k w b h.0 h.1 h.2;
        inserted = put_found ps s k w b h.0 h.1 h.2;
        removed = take_found ps s k w b h.0 h.1 h.2;
      }

  pub lacks_at : From k (after ps s) → AllByRecursion (λ e. not (is_lt (octets_cmp k e.0)) ≡ false) (joined (drop (suc s.page) ps)) → Ascend (joined ps) → is_key_of k (slice_get (page_at ps s.page) s.at) ≡ false → LacksAt k ps s
  lacks_at f u sorted t = record { absent = get_absent ps s k w b f u t sorted; inserted = put_absent ps s k w b f u t }

module _ {V : Type 0} (k : List ℕ) (ps : List (List (List ℕ × V))) (s : Spot) where
  -- where a key is among all, its place has it
  pub has_by : (b : Bool) → (IsTrue b → HasAt k ps s) → (b ≡ false → LacksAt k ps s) → IsSome (lookup (is_at (octets_cmp k)) (joined ps)) → HasAt k ps s
  has_by true has lacks there = has refl
  has_by false has lacks there = absurd (true≢false (sym there ∙ ap is_some (lacks refl).absent))

module _ {V Z E : Type 0} (old new : List (Arc (List (List ℕ × V)) Z)) where
  -- what an edit leaves is sound, done or refused
  pub sound_by : (r : Result (Unit {0}) E) (es : List (List ℕ × V)) → AreFit (values_in new) → OnOk r (entries_of new ≡ es) → Ascend es → OnErr r (values_in new ≡ values_in old) → Ascend (entries_of old) → IsSound new
  sound_by (Ok x) es fit ok made err was = (fit, subst Ascend (sym ok) made)
  sound_by (Err x) es fit ok made err was = (fit, subst (λ ps. Ascend (joined ps)) (sym err) was)

module _ {V : Type 0} where
  -- from the first place on stand all entries
  pub all_after : (ps : List (List (List ℕ × V))) → after ps (record { page = 0; at = 0 }) ≡ joined ps
  all_after [] = refl
  all_after (p ∷ ps) = refl

  pub within_start : (ps : List (List (List ℕ × V))) → IsWithin ps (record { page = 0; at = 0 })
  within_start ps = (omega arith, λ h. h)

  abbrev has_none : List (List ℕ × V) → Bool
  has_none [] = true
  has_none (e ∷ es) = false

  -- pages have no entries only where there are none
  pub empty_pages : {Z : Type 0} (pages : List (Arc (List (List ℕ × V)) Z)) → AreFit (values_in pages) → entries_of pages ≡ [] → pages ≡ []
  empty_pages [] f h = refl
  empty_pages (p ∷ pages) f h = absurd (by (arc_value p) f.0.0 h)
    where
      by : (es : List (List ℕ × V)) → 0 < length es → es ++ joined (values_in pages) ≡ [] → ⊥
      by [] l h = omega (arith, l)
      by (e ∷ es) l h = true≢false (sym (ap has_none h))
