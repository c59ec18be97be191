-- What single edits make of a version (RFC 2136, 3.4.2; RFC 2181, 5.2).
use Rattle.std.specs.Prelude.{◌≡◌, ℕ, Bool, List, ◌++◌, ◌∷◌, [], not, ◌&&◌, filter, if◌then◌else◌}
use Rattle.dns_name.specs.Names.{fold}
use Rattle.dns_numbers.specs.Codes.{type_soa}
use Rattle.dns_rdata.specs.Records.{Field, Record, same_data}
use Rattle.zone_model.specs.Version.{Key, Version, set_at, data_at}
use Rattle.zone_model.specs.Edits.{put_set, has_data, second_alias}
use Rattle.zone_model.specs.Classify.{lowest_ttl}

-- a record stands at a key: its folded owner and its type, with this TTL and these data
abbrev pub StandsAt : Key → ℕ → List Field → Record → Type 0
StandsAt k ttl fields r = ((fold r.owner, r.rtype) ≡ k) × (r.ttl ≡ ttl) × (r.fields ≡ fields)

-- the version with a record's data last in its set, whose TTL is then the record's
abbrev pub appended : Version → Record → Version
appended v r = put_set v r.owner r.rtype (record { ttl = r.ttl; items = data_at v r.owner r.rtype ++ r.fields ∷ [] })

-- the version without a record's data; what is left of their set takes the record's TTL
abbrev pub without : Version → Record → Version
without v r = put_set v r.owner r.rtype (record { ttl = r.ttl; items = filter (λ d. not (same_data r.fields d)) (data_at v r.owner r.rtype) })

-- the version with a record that it opens with: data that the set has already are not put again, and the lower TTL stays
abbrev pub opened_by : Version → Record → Version
opened_by v r = put_set v r.owner r.rtype (record { ttl = lowest_ttl r (set_at v r.owner r.rtype); items = if has_data v r then data_at v r.owner r.rtype else data_at v r.owner r.rtype ++ r.fields ∷ [] })

-- whether a record would be a second CNAME below the apex, other than the one there (RFC 2181, 10.1)
abbrev pub adds_alias : Version → Record → Bool
adds_alias v r = second_alias v r && not (has_data v r)

-- the version whose apex SOA set is one record
abbrev pub with_soa : Version → ℕ → List Field → Version
with_soa v ttl fields = put_set v v.apex type_soa (record { ttl = ttl; items = fields ∷ [] })
