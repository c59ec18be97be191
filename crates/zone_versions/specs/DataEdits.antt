-- What edits of one record's data make of a set.
use Rattle.std.specs.Prelude.{ℕ, List, [], not, filter, Option}
use Rattle.std.specs.Option.{option_map_or}
use Rattle.dns_rdata.specs.Records.{Field, same_data}
use Rattle.zone_model.specs.Version.{RecordSet}

-- a set without the data equal to these, with another TTL
abbrev pub thinned_set : ℕ → List Field → Option RecordSet → RecordSet
thinned_set ttl fields found = record { ttl = ttl; items = filter (λ d. not (same_data fields d)) (option_map_or (λ (s : RecordSet). s.items) found []) }
