-- What edits of whole nodes make of a version (RFC 1034, 4.2.1; RFC 2181, 5).
use Rattle.std.specs.Prelude.{Bool, ◌&&◌, ◌||◌, ◌++◌, ◌∷◌, [], ◌==◌, length, min, if◌then◌else◌}
use Rattle.std.specs.Option.{option_map_or}
use Rattle.std.specs.BTreeMap.{insert_entry}
use Rattle.std.specs.Map.{remove_entry}
use Rattle.dns_name.specs.Names.{under}
use Rattle.dns_numbers.specs.Codes.{type_a, type_aaaa}
use Rattle.dns_rdata.specs.Records.{Record}
use Rattle.zone_model.specs.Version.{Version, RecordSet, Key, Sets, key_cmp, has_key, set_at, data_at}
use Rattle.zone_model.specs.Edits.{put_set}

-- the sets with one at a key in place of the old one, which an empty one removes
abbrev pub put_at : Key → RecordSet → Sets → Sets
put_at k s sets = if length s.items == 0 then remove_entry (has_key k) sets else insert_entry key_cmp sets k s

-- whether a record is an address at or below the apex
abbrev pub is_address_in : Version → Record → Bool
is_address_in v r = under r.owner v.apex && ((r.rtype == type_a) || (r.rtype == type_aaaa))

-- the version with a record's data last in its set, whose TTL is the lower one
abbrev pub with_glue : Version → Record → Version
with_glue v r = put_set v r.owner r.rtype (record { ttl = option_map_or (λ (s : RecordSet). min s.ttl r.ttl) (set_at v r.owner r.rtype) r.ttl; items = data_at v r.owner r.rtype ++ r.fields ∷ [] })
