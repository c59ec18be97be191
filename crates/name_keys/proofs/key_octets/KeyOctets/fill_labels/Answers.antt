use Rattle.std.proofs.Common.{◌≤◌, ◌+◌, ◌++◌, ◌∙◌, List, ℕ, length, sym, ap, subst}
use Rattle.std.specs.Str.{str_to_ascii_lowercase}
use Rattle.dns_name.specs.Names.{Name}
use Rattle.name_keys.specs.NameKeys.{name_key, label_key}
use Rattle.name_keys.proofs.Putting.{room_for_label}
use Rattle.name_keys.proofs.key_octets.KeyOctets.fill_labels.Goals as goal

pub put_label-requires : goal.put_label-requires
put_label-requires g c =
    let s = c.loop-label in
    let label = c.in-Some.label in
    let whole = ap (λ (n : Name). name_key n ++ s.self) (sym c.in-Some.ensures.steps) ∙ s.invariant in
    let room = room_for_label label c.next.new.self (g.N.Labelled.labels c.args.name.now) s.self c.compose_len.ensures.name whole in
    subst (λ (l : List ℕ). length (label_key (str_to_ascii_lowercase l)) + length s.self ≤ 504) (sym c.as_slice.ensures.value) room
