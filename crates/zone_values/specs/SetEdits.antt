-- What single edits make of the set at a key (RFC 2136, 3.4.2; RFC 2181, 5.2).
use Rattle.std.specs.Prelude.{ℕ, List, ◌++◌, ◌∷◌, [], Option, Some, None, min, not, ◌==◌, length, filter, if◌then◌else◌, fold as fold_list}
use Rattle.std.specs.Option.{option_map_or}
use Rattle.std.specs.List.{list_any}
use Rattle.std.specs.BTreeMap.{insert_entry}
use Rattle.std.specs.Map.{remove_entry}
use Rattle.dns_rdata.specs.Records.{Field, same_data}
use Rattle.zone_model.specs.Version.{RecordSet, Key, Sets, key_cmp, has_key, set_in}

-- the data at a key
abbrev pub items_at : Sets → Key → List (List Field)
items_at sets k = option_map_or (λ (s : RecordSet). s.items) (set_in sets k) []

-- the sets with a new one at a key, made of the one that stood there
abbrev pub put_with : (Option RecordSet → RecordSet) → Key → Sets → Sets
put_with make k sets = insert_entry key_cmp sets k (make (set_in sets k))

-- the sets with those of others, each in place of the one at its key
abbrev pub put_all : Sets → Sets → Sets
put_all sets more = fold_list (λ (into : Sets) (e : Key × RecordSet). insert_entry key_cmp into e.0 e.1) sets more

-- a set with data put last
abbrev pub last_set : ℕ → List Field → Option RecordSet → RecordSet
last_set ttl fields None = record { ttl = ttl; items = fields ∷ [] }
last_set ttl fields (Some s) = record { ttl = ttl; items = s.items ++ fields ∷ [] }

-- a set with data that a zone opens with: equal data are not put again, and the lower TTL stays
abbrev pub opening_set : ℕ → List Field → Option RecordSet → RecordSet
opening_set ttl fields None = record { ttl = ttl; items = fields ∷ [] }
opening_set ttl fields (Some s) = record { ttl = min s.ttl ttl; items = if list_any (same_data fields) s.items then s.items else s.items ++ fields ∷ [] }

-- the set at a key without some data
abbrev pub thinned : ℕ → List Field → Sets → Key → RecordSet
thinned ttl fields sets k = record { ttl = ttl; items = filter (λ d. not (same_data fields d)) (items_at sets k) }

-- the sets with that in its place, unless it is empty
abbrev pub taken_out : ℕ → List Field → Key → Sets → Sets
taken_out ttl fields k sets = if length (thinned ttl fields sets k).items == 0 then remove_entry (has_key k) sets else insert_entry key_cmp sets k (thinned ttl fields sets k)
