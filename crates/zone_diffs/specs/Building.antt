-- How a difference is built of sets that come and go (RFC 1995, 4; RFC 2181, 5.2).
use Rattle.std.specs.Prelude.{ℕ, ◌==◌, not, if◌then◌else◌, [], filter, length, find, Option, Some, None, option_map, Result, Ok, Err}
use Rattle.std.specs.Option.{option_map_or}
use Rattle.std.specs.List.{list_any}
use Rattle.std.specs.BTreeMap.{insert_entry}
use Rattle.std.specs.Map.{remove_entry}
use Rattle.dns_rdata.specs.Records.{same_data}
use Rattle.dns_rdata.specs.Soa.{serial_of}
use Rattle.dns_numbers.specs.Codes.{type_soa}
use Rattle.dns_numbers.specs.Serial.{serial_upto}
use Rattle.zone_model.specs.Version.{RecordSet, Key, Sets, key_cmp, has_key, set_in, first_or_none}
use Rattle.zone_model.specs.Edits.{distinct_set}
use Rattle.zone_model.specs.Difference.{Difference, merged_set}
use Rattle.zone_diffs.specs.declared.errors.ZoneDiffError.{ZoneDiffError}
use Rattle.zone_diffs.specs.declared.errors.ZoneDiffError.TheVariants.{MissingStartSoa, MissingEndSoa, InvalidSerialRange}

-- what was removed and added so far
pub record Sides : Type 0 where
  pub removed : Sets
  pub added : Sets

-- the sets with one in place of that at a key; an empty one removes
abbrev pub put_at : Sets → Key → RecordSet → Sets
put_at sets k s = if length s.items == 0 then remove_entry (has_key k) sets else insert_entry key_cmp sets k s

-- the records of a set that another set lacks; those of another TTL are others
abbrev pub lacked : RecordSet → RecordSet → RecordSet
lacked s t = if s.ttl == t.ttl then record s { items = filter (λ d. not (list_any (same_data d) t.items)) s.items } else s

-- Take: the records that a set at a key has too go out of the sets
abbrev pub taken_from : Sets → Key → RecordSet → Sets
taken_from sets k s = option_map_or (λ (held : RecordSet). put_at sets k (lacked held s)) (set_in sets k) sets

-- Put: the records of a set come after those at its key, whose TTL stays; equal data once (RFC 2181, 5)
abbrev pub put_behind : Sets → Key → RecordSet → Sets
put_behind sets k s = put_at sets k (merged_set (set_in sets k) (distinct_set s))

-- the records of a set that the set at its key lacks
abbrev pub lacked_by : Sets → Key → RecordSet → RecordSet
lacked_by sets k s = option_map_or (lacked s) (set_in sets k) s

-- Add: what was removed before isn't any more, and the rest is added
abbrev pub added_to : Sides → Key → RecordSet → Sides
added_to b k s = record { removed = taken_from b.removed k s; added = put_behind b.added k (lacked_by b.removed k s) }

-- Remove: what was added before isn't any more, and the rest is removed
abbrev pub removed_from : Sides → Key → RecordSet → Sides
removed_from b k s = record { removed = put_behind b.removed k (lacked_by b.added k s); added = taken_from b.added k s }

-- the serial of a set's first datum
abbrev pub set_serial : RecordSet → ℕ
set_serial s = option_map_or serial_of (first_or_none s.items) 0

-- the serial of the first SOA set in order, if there is one
abbrev pub first_serial : Sets → Option ℕ
first_serial sets = option_map (λ (e : Key × RecordSet). set_serial e.1) (find (λ (e : Key × RecordSet). e.0.1 == type_soa) sets)

-- the difference of two sides between two serials: the second is neither the first nor before it (RFC 1995, 2; RFC 1982, 3.2)
abbrev pub between : Sides → ℕ → ℕ → Result Difference ZoneDiffError
between b p q = if serial_upto q p then Err InvalidSerialRange else Ok (record { start_serial = p; end_serial = q; removed = b.removed; added = b.added })

abbrev pub up_to : Sides → ℕ → Option ℕ → Result Difference ZoneDiffError
up_to b p None = Err MissingEndSoa
up_to b p (Some q) = between b p q

abbrev pub from_to : Sides → Option ℕ → Option ℕ → Result Difference ZoneDiffError
from_to b None q = Err MissingStartSoa
from_to b (Some p) q = up_to b p q

-- Build: what refuses, in this order, else the difference
abbrev pub built : Sides → Result Difference ZoneDiffError
built b = from_to b (first_serial b.removed) (first_serial b.added)

-- no difference
abbrev pub no_difference : Difference
no_difference = record { start_serial = 0; end_serial = 0; removed = []; added = [] }
