-- The program's words, and its statuses.
use Rattle.std.specs.Prelude.{ℕ, ◌^◌, ◌&&◌, nat_le, if◌then◌else◌, List, [], ◌∷◌, Option, Some, None, option_map, option_and_then, codes, bytes_eq}
use Rattle.zone_model.specs.TransferText.{Mode, Axfr, Ixfr}
use Rattle.xfr_services.specs.declared.modes.XfrMode.{XfrMode}
use Rattle.xfr_services.specs.declared.modes.XfrMode.TheVariants as transfers
use Rattle.zone_script.specs.ScriptLines.{number_of, number_below}

-- what the words ask for
pub data Form : Type 0 where
  Transfer : (mode : Mode) (readers : ℕ) → Form
  Generate : (size seed : ℕ) → Form

-- a kind of transfer
abbrev pub mode_of : XfrMode → Mode
mode_of transfers.Axfr = Axfr
mode_of transfers.Ixfr = Ixfr

abbrev pub between : ℕ → ℕ → ℕ → Option ℕ
between low high n = if nat_le low n && nat_le n high then Some n else None

abbrev pub with_readers : Mode → List (List ℕ) → Option Form
with_readers mode [] = Some (Transfer mode 0)
with_readers mode (k ∷ []) = option_map (Transfer mode) (number_below 17 k)
with_readers mode (k ∷ l ∷ more) = None

abbrev pub with_sizes : List (List ℕ) → Option Form
with_sizes [] = None
with_sizes (n ∷ []) = None
with_sizes (n ∷ seed ∷ []) = option_and_then (λ k. option_map (Generate k) (number_below (2 ^ 64) seed)) (option_and_then (between 1 100000) (number_of n))
with_sizes (n ∷ seed ∷ x ∷ more) = None

abbrev pub form_of : List (List ℕ) → Option Form
form_of [] = None
form_of (word ∷ more) =
    if bytes_eq word (codes "axfr") then with_readers Axfr more
    else if bytes_eq word (codes "ixfr") then with_readers Ixfr more
    else if bytes_eq word (codes "gen") then with_sizes more
    else None
