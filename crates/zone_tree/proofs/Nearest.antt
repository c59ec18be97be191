-- The zone that is found is the nearest one, name by name upwards.
use Rattle.std.proofs.Common.{◌≡◌, ℕ, ◌+◌, ◌≤◌, ◌<◌, Bool, true, false, List, [], ◌∷◌, ◌++◌, drop, length, refl, sym, ap, ◌∙◌, true≢false, arith, length-append, slice_index_or, Contains, Option, Some, None, ◌⊎◌, inl, inr, ⊎_elim}
use Rattle.std.specs.Option.{option_or}
use Rattle.std.specs.Str.{str_to_ascii_lowercase}
use Rattle.std.specs.Map.{values_of}
use Rattle.std.proofs.lemmas.List.{length-map}
use Rattle.dns_name.specs.Names.{Name, fold, under}
use Rattle.dns_name.proofs.FoldedLabels.{names_under}
use Rattle.zone_model.specs.Zones.{Zones, zone_of, find_zone}
use Rattle.zone_tree.specs.Trees.{IsZoneTree, Covers, IsNearest, FindsNearest}
use Rattle.zone_tree.proofs.Keys.{IsZoneOf, found_is, none_is}

-- ---- names and apexes

length-fold : (n : Name) → length (fold n) ≡ length n
length-fold n = length-map n str_to_ascii_lowercase

under_itself : (n a : Name) → fold a ≡ fold n → under n a ≡ true
under_itself n a e = (names_under n a).1 ([], sym e)

under_longer : (l : List ℕ) (n a : Name) → under n a ≡ true → under (l ∷ n) a ≡ true
under_longer l n a h = let u = (names_under n a).0 h in (names_under (l ∷ n) a).1 (str_to_ascii_lowercase l ∷ u.0, ap (λ m. str_to_ascii_lowercase l ∷ m) u.1)

-- a name below an apex is the apex, or the name above it is at or below it
under_cases : (l : List ℕ) (n a : Name) → under (l ∷ n) a ≡ true → (fold a ≡ fold (l ∷ n)) ⊎ (under n a ≡ true)
under_cases l n a h = let u = (names_under (l ∷ n) a).0 h in by u.0 u.1
  where
    by : (above : Name) → fold (l ∷ n) ≡ above ++ fold a → (fold a ≡ fold (l ∷ n)) ⊎ (under n a ≡ true)
    by [] e = inl (sym e)
    by (x ∷ above) e = inr ((names_under n a).1 (above, ap (drop 1) e))

abbrev is_root : Name → Bool
is_root [] = true
is_root (l ∷ n) = false

under_root : (a : Name) → under [] a ≡ true → fold a ≡ fold []
under_root a h = let u = (names_under [] a).0 h in by u.0 u.1
  where
    by : (above : Name) → fold [] ≡ above ++ fold a → fold a ≡ fold []
    by [] e = sym e
    by (x ∷ above) e = absurd (true≢false (ap is_root e))

-- an apex has no more labels than a name at or below it
under_longest : (n a : Name) → under n a ≡ true → length a ≤ length n
under_longest n a h =
    let u = (names_under n a).0 h in
    let e : length n ≡ length u.0 + length a = sym (length-fold n) ∙ ap length u.1 ∙ length-append u.0 (fold a) ∙ ap (λ k. length u.0 + k) (length-fold a) in
    omega (arith, e)

module _ {Z : Type 0} (class_of : Z → ℕ) (apex_of : Z → Name) (zones : Zones Z) (tree : IsZoneTree class_of apex_of zones) (class : ℕ) where
  -- the zone at a place
  abbrev zone_at : ℕ → Z → Z
  zone_at k d = slice_index_or (values_of zones) k d

  -- a zone whose apex is the name
  here : (n : Name) (zone : Z) → zone_of zones class n ≡ Some zone → IsNearest class_of apex_of zones class n zone
  here n zone found = record {
    among = at.0;
    covers = (at.1.0, under_itself n (apex_of zone) at.1.1);
    longest = λ k d within. longest (zone_at k d);
  }
    where
      at : Contains (values_of zones) zone × IsZoneOf class_of apex_of class n zone
      at = found_is class_of apex_of zones class n zone tree.placed found

      as_long : length (apex_of zone) ≡ length n
      as_long = sym (length-fold (apex_of zone)) ∙ ap length at.1.1 ∙ length-fold n

      longest : (other : Z) → Covers class_of apex_of class n other → length (apex_of other) ≤ length (apex_of zone)
      longest other covers = let longer = under_longest n (apex_of other) covers.1 in omega (arith, as_long, longer)

  -- what covers a name that is no apex covers the name above it
  passed : (l : List ℕ) (n : Name) → zone_of zones class (l ∷ n) ≡ None → (k : ℕ) (d : Z) → k < length (values_of zones) → Covers class_of apex_of class (l ∷ n) (zone_at k d) → Covers class_of apex_of class n (zone_at k d)
  passed l n none k d within covers =
      ⊎_elim (λ e. absurd (none_is class_of apex_of zones class (l ∷ n) tree.placed none k d within (covers.0, e))) (λ u. (covers.0, u)) (under_cases l n (apex_of (zone_at k d)) covers.1)

  -- so it lies in what the name above it lies in
  above : (l : List ℕ) (n : Name) → zone_of zones class (l ∷ n) ≡ None → (found : Option Z) → FindsNearest class_of apex_of zones class n found → FindsNearest class_of apex_of zones class (l ∷ n) found
  above l n none None h = λ k d within covers. h k d within (passed l n none k d within covers)
  above l n none (Some zone) h = record {
    among = h.among;
    covers = (h.covers.0, under_longer l n (apex_of zone) h.covers.1);
    longest = λ k d within covers. h.longest k d within (passed l n none k d within covers);
  }

  -- the root lies in no zone where no zone has it as its apex
  root_in_none : zone_of zones class [] ≡ None → FindsNearest class_of apex_of zones class [] None
  root_in_none none = λ k d within covers. none_is class_of apex_of zones class [] tree.placed none k d within (covers.0, under_root (apex_of (zone_at k d)) covers.1)

  pub finds_nearest : (n : Name) → FindsNearest class_of apex_of zones class n (find_zone zones class n)
  finds_nearest [] = by (zone_of zones class []) refl
    where
      by : (o : Option Z) → zone_of zones class [] ≡ o → FindsNearest class_of apex_of zones class [] (option_or o None)
      by None e = root_in_none e
      by (Some zone) e = here [] zone e
  finds_nearest (l ∷ n) = by (zone_of zones class (l ∷ n)) refl (finds_nearest n)
    where
      by : (o : Option Z) → zone_of zones class (l ∷ n) ≡ o → FindsNearest class_of apex_of zones class n (find_zone zones class n) → FindsNearest class_of apex_of zones class (l ∷ n) (option_or o (find_zone zones class n))
      by None e rest = above l n e (find_zone zones class n) rest
      by (Some zone) e rest = here (l ∷ n) zone e
