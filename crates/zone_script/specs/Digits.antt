-- A number that is read digit by digit, below a bound.
use Rattle.std.specs.Prelude.{ℕ, ◌+◌, ◌*◌, Option, Some, None, option_and_then, option_map, nat_lt, if◌then◌else◌}
use Rattle.zone_script.specs.ScriptLines.{digit_of}

abbrev pub below : ℕ → Option ℕ → Option ℕ
below bound n = option_and_then (λ k. if nat_lt k bound then Some k else None) n

-- a number with one more digit
abbrev pub next_number : ℕ → ℕ → Option ℕ
next_number k o = option_map (λ d. k * 10 + d) (digit_of o)
