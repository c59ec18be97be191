-- Which zones stand where, and which of them a name lies in (RFC 1034, 4.3.2, step 2).
use Rattle.std.specs.Prelude.{◌≡◌, ℕ, ◌≤◌, ◌&&◌, ◌==◌, false, length, IsTrue, MatchOption, Option}
use Rattle.std.specs.List.{All, Contains}
use Rattle.std.specs.List.Sorted.{IsStrictlySortedBy}
use Rattle.std.specs.Map.{keys_of, values_of}
use Rattle.dns_name.specs.Names.{Name, fold, same_name, under}
use Rattle.zone_model.specs.Zones.{ZoneKey, Zones, zone_key_cmp, zone_of}

-- every class and apex but these has the zone that it had, the case of letters aside
abbrev pub SameElsewhere : {Z : Type 0} → ℕ → Name → Zones Z → Zones Z → Type 0
SameElsewhere class apex old new = (c : ℕ) (n : Name) → ((class == c) && same_name apex n) ≡ false → zone_of new c n ≡ zone_of old c n

-- zones whose class and apex are known
module _ {Z : Type 0} (class_of : Z → ℕ) (apex_of : Z → Name) where
  -- where a zone stands
  abbrev pub key_of : Z → ZoneKey
  key_of zone = (class_of zone, fold (apex_of zone))

  -- zones in order, each under its own class and apex
  pub record IsZoneTree (zones : Zones Z) : Type 0 where
    pub ordered : IsStrictlySortedBy zone_key_cmp (keys_of zones)
    pub placed : All (λ (e : ZoneKey × Z). e.0 ≡ key_of e.1) zones

  -- the zone is of the class, and the name is its apex or below it
  abbrev pub Covers : ℕ → Name → Z → Type 0
  Covers class name zone = (class_of zone ≡ class) × IsTrue (under name (apex_of zone))

  -- one of the zones covers the name, and none that does has an apex with more labels
  pub record IsNearest (zones : Zones Z) (class : ℕ) (name : Name) (zone : Z) : Type 0 where
    pub among : Contains (values_of zones) zone
    pub covers : Covers class name zone
    pub longest : All (λ other. Covers class name other → length (apex_of other) ≤ length (apex_of zone)) (values_of zones)

  -- the nearest zone is found, and none where no zone covers the name
  abbrev pub FindsNearest : Zones Z → ℕ → Name → Option Z → Type 0
  FindsNearest zones class name found = MatchOption found (All (λ zone. Covers class name zone → ⊥) (values_of zones)) (IsNearest zones class name)
