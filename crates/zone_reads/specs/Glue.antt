-- The addresses of one name server, type by type (RFC 1034, 4.2.1).
use Rattle.std.specs.Prelude.{ℕ, if◌then◌else◌, List, [], ◌∷◌, Option, Some, None}
use Rattle.dns_name.specs.Names.{Name, under}
use Rattle.dns_rdata.specs.Records.{Field, DomainName, Record}
use Rattle.zone_model.specs.Version.{Version, set_at}
use Rattle.zone_model.specs.Answer.{kept_owner, records_of_option}

-- the name that data consist of, if they are one name
abbrev pub sole_name : List Field → Option Name
sole_name (DomainName n ∷ []) = Some n
sole_name _ = None

-- the records of one type of a name server, where it has a name, and that is in the zone
abbrev pub addresses_at : Version → ℕ → Option Name → List Record
addresses_at v rtype None = []
addresses_at v rtype (Some n) = if under n v.apex then records_of_option (kept_owner v n) rtype v.class (set_at v n rtype) else []
