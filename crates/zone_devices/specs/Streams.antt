-- Octets that go through a stream in parts, where the stream tells what it holds.
use Rattle.std.specs.Prelude.{ℕ, List, [], ◌++◌, Option, option_map}
use Rattle.zone_devices.specs.Calls.{Calls}

-- what a sink took, with a further part after it
abbrev pub with_more : List ℕ → Option (List ℕ) → Option (List ℕ)
with_more part had = option_map (λ octets. octets ++ part) had

-- what a source had, from a part and what is left after it
abbrev pub with_first : List ℕ → Option (List ℕ) → Option (List ℕ)
with_first part left = option_map (λ octets. part ++ octets) left

-- what is left of a source that was read to its end
abbrev pub emptied : Option (List ℕ) → Option (List ℕ)
emptied left = option_map (λ octets. []) left

-- a source in memory: the octets that are left, and its calls
pub record Left : Type 0 where
  pub octets : List ℕ
  pub calls : Calls

-- a sink in memory: the octets that it took, how many it takes in a call at most, and its calls
pub record Taken : Type 0 where
  pub octets : List ℕ
  pub most : ℕ
  pub calls : Calls
