use Rattle.std.proofs.Common.{◌≡◌, ◌≤◌, ◌++◌, length}
use Rattle.std.specs.Str.{str_to_ascii_lowercase}
use Rattle.name_keys.specs.NameKeys.{label_key}
use Rattle.name_keys.proofs.Putting.{to_put}
use Rattle.name_keys.proofs.key_octets.KeyOctets.put_label.Given as goal

-- what is still to be put and what was put are the label and the octets as they were
abbrev pub invariant-loop-left : goal.invariant-loop-left
invariant-loop-left l =
    (l.left ≤ length l.label) × (to_put l.left l.label l.self ≡ label_key (str_to_ascii_lowercase l.label) ++ l.fn.self)

abbrev pub decreases-loop-left : goal.decreases-loop-left
decreases-loop-left l = l.left
