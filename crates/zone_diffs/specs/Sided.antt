-- On which sides of a difference under way a record stands (RFC 1995, 4; RFC 2181, 5.2).
use Rattle.std.specs.Prelude.{◌≡◌, ℕ, Bool, false, ◌&&◌, ◌==◌, List, Some}
use Rattle.std.specs.Option.{option_map_or}
use Rattle.std.specs.List.{list_any}
use Rattle.std.specs.List.Sorted.{IsStrictlySortedBy}
use Rattle.std.specs.Map.{keys_of}
use Rattle.dns_rdata.specs.Records.{Field, same_data}
use Rattle.zone_model.specs.Version.{RecordSet, Key, Sets, key_cmp, set_in}
use Rattle.zone_diffs.specs.Building.{Sides}

-- whether a set has a record: its TTL, and data equal to it
abbrev pub in_set : RecordSet → ℕ → List Field → Bool
in_set s ttl d = (s.ttl == ttl) && list_any (same_data d) s.items

-- whether the set at a key has a record
abbrev pub holds : Sets → Key → ℕ → List Field → Bool
holds sets k ttl d = option_map_or (λ (s : RecordSet). in_set s ttl d) (set_in sets k) false

-- the set at a key, if there is one, has this one's TTL
abbrev pub OneTtl : Sets → Key → RecordSet → Type 0
OneTtl sets k s = (t : RecordSet) → set_in sets k ≡ Some t → t.ttl ≡ s.ttl

-- each side is in order
pub record AreOrdered (b : Sides) : Type 0 where
  pub removed : IsStrictlySortedBy key_cmp (keys_of b.removed)
  pub added : IsStrictlySortedBy key_cmp (keys_of b.added)

-- no record is on both sides
abbrev pub Apart : Sides → Type 0
Apart b = (k : Key) (ttl : ℕ) (d : List Field) → (holds b.removed k ttl d && holds b.added k ttl d) ≡ false
