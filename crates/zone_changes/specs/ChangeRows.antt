-- Versions of worked examples: an SOA and three addresses of a host.
use Rattle.std.specs.Prelude.{ℕ, List, [], ◌∷◌}
use Rattle.zone_model.specs.Version.{Key, Sets, Version}
use Rattle.zone_model.specs.ZoneRows.{e, t}
use Rattle.dns_numbers.specs.Codes.{type_ns, type_ds}
use Rattle.zone_diffs.specs.DiffRows.{apex_soa, host_a, hosts, host, set, soa_set}

-- the sets of a zone with this serial, whose host's addresses have this TTL
abbrev pub zone_with : ℕ → ℕ → Sets
zone_with serial ttl = (apex_soa, soa_set serial) ∷ (host_a, hosts ttl) ∷ []

abbrev pub both_keys : List Key
both_keys = apex_soa ∷ host_a ∷ []

-- a DS set of the host, without NS and with it
abbrev pub host_ds : Key
host_ds = (t, type_ds)

abbrev pub host_ns : Key
host_ns = (t, type_ns)

abbrev pub version_of : Sets → Version
version_of sets = record { apex = e; class = 1; sets = sets }

abbrev pub with_stray : Version
with_stray = version_of ((host_ds, set 60 (host 1 ∷ [])) ∷ [])

abbrev pub with_signer : Version
with_signer = version_of ((host_ns, set 60 (host 1 ∷ [])) ∷ (host_ds, set 60 (host 1 ∷ [])) ∷ [])
