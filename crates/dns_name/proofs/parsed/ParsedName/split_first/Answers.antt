use Rattle.std.proofs.Common.{◌∙◌, ◌∷◌, sym, ap, Some}
use Rattle.dns_name.specs.Pieces.{element_of}
use Rattle.dns_name.proofs.NameWalking.{at_its_pointer, at_its_label, at_its_root, at_no_element}
use Rattle.dns_name.proofs.parsed.ParsedName.split_first.Goals as goal

pub pieces-preserved : goal.pieces-preserved
pieces-preserved c =
    let seen = c.in-Ok-Pointer.ensures.found ∙ ap (λ p. Some (element_of p)) c.in-Ok-Pointer.field-0-is in
    at_its_pointer c.self.inside.message.now c.pieces.place c.in-Ok-Pointer.offset c.args.self.now c.pieces.invariant seen

pub invariant_of-result : goal.invariant_of-result
invariant_of-result c =
    let seen = c.in-Ok-Label.ensures.found ∙ ap (λ p. Some (element_of p)) c.in-Ok-Label.field-0-is in
    (at_its_label c.self.inside.message.now c.pieces.place c.in-Ok-Label.octets.now c.args.self.now c.pieces.invariant seen).stands.some

pub returns-in-Ok-Label : goal.returns-in-Ok-Label
returns-in-Ok-Label c =
    let seen = c.in-Ok-Label.ensures.found ∙ ap (λ p. Some (element_of p)) c.in-Ok-Label.field-0-is in
    let b = at_its_label c.self.inside.message.now c.pieces.place c.in-Ok-Label.octets.now c.args.self.now c.pieces.invariant seen in
    b.labels ∙ (λ i. sym c.of.ensures i ∷ sym b.stands.labels i)

pub returns-in-Ok-Root : goal.returns-in-Ok-Root
returns-in-Ok-Root c =
    at_its_root c.self.inside.message.now c.pieces.place c.args.self.now c.pieces.invariant
    (c.in-Ok-Root.ensures.found ∙ ap (λ p. Some (element_of p)) c.in-Ok-Root.field-0-is)

pub unreachable-requires : goal.unreachable-requires
unreachable-requires c = at_no_element c.self.inside.message.now c.pieces.place c.args.self.now c.pieces.invariant c.in-Err.ensures.none
