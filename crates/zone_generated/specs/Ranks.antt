-- The order of hosts by their owners.
use Rattle.std.specs.Prelude.{ℕ, zero, suc, ◌+◌, ◌*◌, ◌^◌, nat_lt, if◌then◌else◌}
use Rattle.zone_generated.specs.Generated.{host_number}

-- a number of ten digits at most, its first digit moved up to the tenth place, within so many moves; and then how many moves are left
unfoldable pub moved_up : ℕ → ℕ → ℕ
moved_up zero n = n * 10
moved_up (suc more) n = if nat_lt n (10 ^ 9) then moved_up more (n * 10) else n * 10 + suc more

-- what orders numbers below 10^10 as their digits are ordered, 1 before 10 before 2
abbrev pub rank : ℕ → ℕ
rank n = moved_up 9 n

-- the rank of the host of a draw
abbrev pub host_rank : ℕ → ℕ → ℕ
host_rank n x = rank (host_number n x)
