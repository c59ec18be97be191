-- The kinds of transfer, and the types of question that ask for them (RFC 5936, 2.1; RFC 1995, 3).
use Rattle.std.specs.Prelude.{ℕ, codes, Bool, true, false, ◌==◌, List, Option, Some, None, if◌then◌else◌}
use Rattle.dns_numbers.specs.Codes.{type_axfr, type_ixfr}
use Rattle.xfr_services.specs.declared.modes.XfrMode.{XfrMode}
use Rattle.xfr_services.specs.declared.modes.XfrMode.TheVariants.{Axfr, Ixfr}

-- the kind of transfer that a type of question asks for
abbrev pub mode_of_type : ℕ → Option XfrMode
mode_of_type qtype = if qtype == type_axfr then Some Axfr else if qtype == type_ixfr then Some Ixfr else None

-- the type of the question that asks for a kind
abbrev pub type_of_mode : XfrMode → ℕ
type_of_mode Axfr = type_axfr
type_of_mode Ixfr = type_ixfr

-- a kind as it is shown: its type's name
abbrev pub mode_text : XfrMode → List ℕ
mode_text Axfr = codes "AXFR"
mode_text Ixfr = codes "IXFR"

abbrev pub is_ixfr : XfrMode → Bool
is_ixfr Axfr = false
is_ixfr Ixfr = true
