-- The calls of an outside, which may fail, and those of an outside in memory, of which a list says which fail.
use Rattle.std.specs.Prelude.{◌≡◌, ℕ, ◌+◌, ◌-◌, ◌^◌, ◌<◌, ◌⊎◌, min, Bool, ◌==◌, if◌then◌else◌, List}
use Rattle.std.specs.List.{list_any}

-- a count of faults rose, or stands at the greatest number
abbrev pub Rose : ℕ → ℕ → Type 0
Rose old new = (old < new) ⊎ (new ≡ 2 ^ 64 - 1)

-- the numbers of the calls that fail, where the first has number 1; how many were made, and how many failed
pub record Calls : Type 0 where
  pub failing : List ℕ
  pub made : ℕ
  pub faults : ℕ

abbrev pub no_calls : List ℕ → Calls
no_calls failing = record { failing = failing; made = 0; faults = 0 }

-- one more, up to the greatest number
abbrev pub one_more : ℕ → ℕ
one_more n = min (n + 1) (2 ^ 64 - 1)

-- whether the next call is one that fails
abbrev pub fails_next : Calls → Bool
fails_next c = list_any (λ n. n == one_more c.made) c.failing

abbrev pub with_fault : Calls → Calls
with_fault c = record c { faults = one_more c.faults }

-- once the next call was made
abbrev pub after_call : Calls → Calls
after_call c = record { failing = c.failing; made = one_more c.made; faults = if fails_next c then one_more c.faults else c.faults }

-- once the next call was made and failed, be it one of those or for another cause
abbrev pub after_fault : Calls → Calls
after_fault c = record { failing = c.failing; made = one_more c.made; faults = one_more c.faults }
