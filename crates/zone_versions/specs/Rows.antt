-- What worked examples are made of: a zone that gets two addresses and a text, and loses them.
use Rattle.std.specs.Prelude.{ℕ, [], ◌∷◌, codes, Some, None}
use Rattle.dns_name.specs.Names.{Name}
use Rattle.dns_name.specs.Records.Field.{Octets}
use Rattle.zone_model.specs.Version.{RecordSet, Version}
use Rattle.zone_versions.specs.Trees.{with_set}

abbrev pub apex : Name
apex = codes "example" ∷ []

abbrev pub name_b : Name
name_b = codes "b" ∷ apex

abbrev pub name_ab : Name
name_ab = codes "a" ∷ name_b

abbrev pub name_cb : Name
name_cb = codes "C" ∷ name_b

abbrev pub one_record : ℕ → RecordSet
one_record n = record { ttl = 60; items = (Octets (192 ∷ 0 ∷ 2 ∷ n ∷ []) ∷ []) ∷ [] }

abbrev pub nothing : Version
nothing = record { apex = apex; class = 1; sets = [] }

abbrev pub address : Version
address = with_set nothing name_ab 1 (Some (one_record 1))

abbrev pub two_addresses : Version
two_addresses = with_set address name_cb 1 (Some (one_record 2))

abbrev pub with_text : Version
with_text = with_set two_addresses name_cb 16 (Some (one_record 3))

abbrev pub without_text : Version
without_text = with_set with_text name_cb 16 None

abbrev pub one_address : Version
one_address = with_set without_text name_cb 1 None

abbrev pub no_address : Version
no_address = with_set one_address name_ab 1 None
