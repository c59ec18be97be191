-- Values by version (RFC 1034, 4.3.5): what was written at each, `None` where it was taken away.
use Rattle.std.specs.Prelude.{ℕ, Bool, true, false, ◌==◌, ◌&&◌, ◌+◌, ◌-◌, ◌^◌, nat_le, nat_lt, List, [], ◌∷◌, ◌++◌, length, reverse, filter, find, Option, Some, None, is_some, if◌then◌else◌}
use Rattle.std.specs.List.{list_all}
use Rattle.std.specs.Option.{option_and_then}

-- the writes of a value, oldest first
abbrev pub History : Type 0 → Type 0
History T = List (ℕ × Option T)

-- the version after one, none after the greatest
abbrev pub next_version : ℕ → Option ℕ
next_version v = if v == 2 ^ 64 - 1 then None else Some (v + 1)

-- each write is of a later version than those before it
abbrev pub ascends : {T : Type 0} → History T → Bool
ascends {T} [] = true
ascends {T} (e ∷ later) = list_all (λ (f : ℕ × Option T). nat_lt e.0 f.0) later && ascends later

-- no write is of a later version than this one
abbrev pub is_upto : {T : Type 0} → History T → ℕ → Bool
is_upto {T} writes version = list_all (λ (e : ℕ × Option T). nat_le e.0 version) writes

-- the value at a version: the last write at or before it
abbrev pub value_at : {T : Type 0} → History T → ℕ → Option T
value_at {T} writes version = option_and_then (λ (e : ℕ × Option T). e.1) (find (λ (e : ℕ × Option T). nat_le e.0 version) (reverse writes))

-- the writes before a version
abbrev pub before : {T : Type 0} → History T → ℕ → History T
before {T} writes version = filter (λ (e : ℕ × Option T). nat_lt e.0 version) writes

-- one more write of a version, in place of an earlier one of the same version
abbrev pub written : {T : Type 0} → History T → ℕ → Option T → History T
written writes version value = before writes version ++ (version, value) ∷ []

-- the value taken away at a version; nothing is noted where there was none, nor where none was before that version
abbrev pub removed : {T : Type 0} → History T → ℕ → History T
removed writes version =
    if is_some (value_at writes version) then (if length (before writes version) == 0 then [] else written writes version None) else writes
