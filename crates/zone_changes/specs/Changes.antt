-- What one map of sets has at a key and another lacks.
use Rattle.std.specs.Prelude.{ℕ, Bool, false, ◌&&◌, ◌==◌, List, not, filter, fold as fold_list, Option}
use Rattle.std.specs.Option.{option_map_or}
use Rattle.std.specs.List.{list_any}
use Rattle.dns_name.specs.Names.{fold}
use Rattle.dns_rdata.specs.Records.{Field, same_data}
use Rattle.zone_model.specs.Version.{RecordSet, Key, Sets, set_in}
use Rattle.zone_diffs.specs.Building.{put_at}

-- the key with its owner in lower case
abbrev pub folded : Key → Key
folded k = (fold k.0, k.1)

-- whether a set, if there is one, holds data with this TTL
abbrev pub has_record : Option RecordSet → ℕ → List Field → Bool
has_record other ttl d = option_map_or (λ (s : RecordSet). (s.ttl == ttl) && list_any (same_data d) s.items) other false

-- the records of a set that another one lacks, all where there is none; those of another TTL are others (RFC 2181, 5.2)
abbrev pub lacked_of : Option RecordSet → RecordSet → RecordSet
lacked_of other s = record s { items = filter (λ d. not (has_record other s.ttl d)) s.items }

-- the sets with the records that the ones have at a key and the others lack
abbrev pub with_lacked : Sets → Sets → Sets → Key → Sets
with_lacked ones others sets k = option_map_or (λ (s : RecordSet). put_at sets k (lacked_of (set_in others k) s)) (set_in ones k) sets

-- .. at each of some keys
abbrev pub lacked_at : Sets → Sets → Sets → List Key → Sets
lacked_at ones others sets keys = fold_list (λ got k. with_lacked ones others got (folded k)) sets keys
