-- The least type of an owner from a type on, and steps past the types of addresses.
use Rattle.std.specs.Prelude.{ℕ, ◌==◌, nat_le, if◌then◌else◌, filter, Option, Some, None}
use Rattle.dns_name.specs.Names.{Name}
use Rattle.zone_model.specs.Version.{Sets}
use Rattle.zone_model.specs.Classify.{least}
use Rattle.zone_records.specs.Taking.{types_in}

-- the least type from one on
abbrev pub type_from : Sets → Name → ℕ → Option ℕ
type_from sets owner low = least (filter (nat_le low) (types_in sets owner))

-- the least type that isn't n, from the least one and the least one above n
abbrev pub past : ℕ → Option ℕ → Option ℕ → Option ℕ
past n None next = None
past n (Some t) next = if t == n then next else Some t
