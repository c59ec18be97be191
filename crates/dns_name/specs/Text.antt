-- The text of a name, label by label.
use Rattle.std.specs.Prelude.{ℕ, List, ◌∷◌, flat_map}
use Rattle.dns_name.specs.LabelText.{octet_text}
use Rattle.dns_name.specs.Names.{Name}

-- a dot and the text of each label
abbrev pub rest_text : Name → List ℕ
rest_text labels = flat_map (λ label. 46 ∷ flat_map octet_text label) labels
