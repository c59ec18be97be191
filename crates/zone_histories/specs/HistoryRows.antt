-- What worked examples are made of.
use Rattle.std.specs.Prelude.{ℕ, [], ◌∷◌, Some, None}
use Rattle.zone_histories.specs.Histories.{History}

-- a value written at versions 1 and 2, and taken away at version 4
abbrev pub history : History ℕ
history = (1, Some 10) ∷ (2, Some 20) ∷ (4, None) ∷ []
