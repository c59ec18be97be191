use Rattle.std.proofs.Common.{◌∙◌, ◌∷◌, sym, ap}
use Rattle.name_keys.specs.NameKeys.{name_of_key}
use Rattle.name_keys.proofs.Reading.{key_invariant, spelled, is_folded}
use Rattle.name_keys.proofs.Parents.{parent_of}
use Rattle.name_keys.proofs.key.KeyedName+ref+slice+u8.parent.Goals as goal

pub invariant_of-result : goal.invariant_of-result
invariant_of-result c =
    let octets = c.self.inside.octets.now in
    let start = c.last_label_start.result in
    let found = c.last_label_start.ensures in
    let p = parent_of octets (name_of_key octets) start c.self.invariant.1 c.self.invariant.0 (is_folded octets c.self.invariant.1)
    (record { within = found.within; after = found.after; plain = found.plain }) in
    key_invariant _ p.rest p.key p.name

pub returns : goal.returns
returns c =
    let octets = c.self.inside.octets.now in
    let start = c.last_label_start.result in
    let found = c.last_label_start.ensures in
    let p = parent_of octets (name_of_key octets) start c.self.invariant.1 c.self.invariant.0 (is_folded octets c.self.invariant.1)
    (record { within = found.within; after = found.after; plain = found.plain }) in
    let above = spelled _ p.rest p.key ∙ p.folded in
    (p.label, sym c.self.view_is ∙ p.labels ∙ ap (λ m. p.label ∷ m) (sym above))
