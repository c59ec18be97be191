use Rattle.std.proofs.Common.{◌≡◌, ◌++◌}
use Rattle.name_keys.specs.NameKeys.{name_key}
use Rattle.name_keys.proofs.key_octets.KeyOctets.fill_labels.Given as goal

-- the key of the labels that are left and what was put are the name's key
abbrev pub invariant-loop-label : goal.invariant-loop-label
invariant-loop-label g l = name_key l.label-iterator ++ l.self ≡ name_key (g.N.Labelled.labels l.name)
