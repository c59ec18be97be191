-- Names relative to a base (RFC 1034, 3.1).
use Rattle.std.specs.Prelude.{ℕ, ◌-◌, List, length, take, reverse}
use Rattle.dns_name.specs.Names.{Name}

-- the labels of a name left of the base that it ends with, from the right
abbrev pub labels_below : Name → Name → List (List ℕ)
labels_below base name = reverse (take (length name - length base) name)
