-- What one version has and another lacks (RFC 1995, 4).
use Rattle.std.specs.Prelude.{ℕ, Bool, false, ◌&&◌, not, ◌==◌, if◌then◌else◌, List, [], ◌∷◌, ◌++◌, length, filter, filter_map, flat_map, Option, Some, None, Result}
use Rattle.std.specs.Option.{option_map_or}
use Rattle.std.specs.List.{list_any}
use Rattle.std.specs.BTreeMap.{insert_entry}
use Rattle.dns_name.specs.Records.{Field, Record, same_data}
use Rattle.dns_name.specs.Soa.{serial_of}
use Rattle.dns_numbers.specs.Serial.{serial_upto}
use Rattle.zone_model.specs.Version.{RecordSet, Key, Sets, Version, key_cmp, set_in, apex_soa}
use Rattle.zone_model.specs.Answer.{records_of}
use Rattle.zone_model.specs.Edits.{Refusal, add_all, delete_all, and_then}

-- a difference: the serials it leads from and to, and the records it takes away and adds
pub record Difference : Type 0 where
  pub start_serial : ℕ
  pub end_serial : ℕ
  pub removed : Sets
  pub added : Sets

-- whether the sets hold this record: its owner, type, TTL and data
abbrev pub holds : Sets → Key → ℕ → List Field → Bool
holds sets k ttl d = option_map_or (λ (s : RecordSet). (s.ttl == ttl) && list_any (same_data d) s.items) (set_in sets k) false

-- one entry without the records that the sets hold
abbrev pub entry_without : Sets → Key × RecordSet → Option (Key × RecordSet)
entry_without sets e =
    let left = filter (λ d. not (holds sets e.0 e.1.ttl d)) e.1.items in
    if length left == 0 then None else Some (e.0, record { ttl = e.1.ttl; items = left })

-- the records of the first that the second lacks; a set whose TTL changed counts whole
abbrev pub without : Sets → Sets → Sets
without ones others = filter_map (entry_without others) ones

-- the serial of the apex SOA, 0 without one
abbrev pub zone_serial : Version → ℕ
zone_serial v = option_map_or serial_of (apex_soa v) 0

-- the difference from the version v to the version w (RFC 1995, 4)
abbrev pub difference : Version → Version → Difference
difference v w = record { start_serial = zone_serial v; end_serial = zone_serial w; removed = without v.sets w.sets; added = without w.sets v.sets }

-- whether a difference may be told: both have an SOA, and the new serial is neither the old one nor before it (RFC 1995, 2)
abbrev pub both_serials : Option (List Field) → Option (List Field) → Bool
both_serials (Some p) (Some q) = not (serial_upto (serial_of q) (serial_of p))
both_serials None q = false
both_serials (Some p) None = false

abbrev pub diffable : Version → Version → Bool
diffable v w = both_serials (apex_soa v) (apex_soa w)

-- the records of some sets, in order
abbrev pub records_in : Version → Sets → List Record
records_in v sets = flat_map (λ (e : Key × RecordSet). records_of e.0.0 e.0.1 v.class e.1) sets

-- the version that a difference leads to: what it removes is deleted, what it adds is added
abbrev pub apply_difference : Version → Difference → Result Version Refusal
apply_difference v d = and_then (delete_all v (records_in v d.removed)) (λ w. add_all w (records_in v d.added))

-- the second's data after the first's, equal data once, the first's TTL
abbrev pub merged_set : Option RecordSet → RecordSet → RecordSet
merged_set None s = s
merged_set (Some old) s = record { ttl = old.ttl; items = old.items ++ filter (λ d. not (list_any (same_data d) old.items)) s.items }

abbrev pub merged : Sets → Sets → Sets
merged ones [] = ones
merged ones (e ∷ others) = merged (insert_entry key_cmp ones e.0 (merged_set (set_in ones e.0) e.1)) others

-- two differences in a row as one: what the second undoes of the first cancels (RFC 1995, 5)
abbrev pub joined : Difference → Difference → Difference
joined d e = record {
  start_serial = d.start_serial;
  end_serial = e.end_serial;
  removed = merged (without d.removed e.added) (without e.removed d.added);
  added = merged (without d.added e.removed) (without e.added d.removed);
}

-- a chain of differences as one (RFC 1995, 5)
abbrev pub condensed : Difference → List Difference → Difference
condensed d [] = d
condensed d (e ∷ more) = condensed (joined d e) more
