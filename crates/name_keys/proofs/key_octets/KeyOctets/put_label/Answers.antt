use Rattle.std.proofs.Common.{◌≡◌, ◌+◌, ◌-◌, length-append, ap, ◌∙◌, arith}
use Rattle.std.specs.Str.{str_to_ascii_lowercase}
use Rattle.name_keys.specs.NameKeys.{label_key}
use Rattle.name_keys.proofs.Putting.{to_put, room_for_one}
use Rattle.name_keys.proofs.key_octets.KeyOctets.put_label.Goals as goal

pub put_folded-requires : goal.put_folded-requires
put_folded-requires c =
    let s = c.loop-left in
    let label = c.args.label.now in
    let put = label_key (str_to_ascii_lowercase label) in
    let more = c.loop-left-test.true in
    let at : s.left - 1 + 1 ≡ s.left = omega (arith, more) in
    let room = room_for_one (s.left - 1) label s.self _ (omega (arith, more, s.invariant.0)) (ap (λ k. to_put k label s.self) at ∙ s.invariant.1) in
    let both = length-append put c.args.self.now in
    omega (arith, room, both, c.requires)
