-- The version that a zone opens with.
use Rattle.std.specs.Prelude.{◌≡◌, ℕ, [], Option, Some, None, IfSome}
use Rattle.dns_name.specs.Names.{Name}
use Rattle.zone_model.specs.Version.{Version}

-- a version without records
abbrev pub no_records : Name → ℕ → Version
no_records apex class = record { apex = apex; class = class; sets = [] }

-- the version that was made, or one without records
abbrev pub opening : Name → ℕ → Option Version → Version
opening apex class None = no_records apex class
opening apex class (Some v) = v

-- a version that was made is of this apex and class
abbrev pub IsOf : Name → ℕ → Option Version → Type 0
IsOf apex class made = IfSome made (λ (v : Version). (v.apex ≡ apex) × (v.class ≡ class))
