use Rattle.std.proofs.Common.{◌∷◌, ◌∙◌, sym}
use Rattle.dns_name.specs.Names.{name_wire, labels_in}
use Rattle.dns_name.proofs.WireForms.{split_of, rest_octets, label_octets_are, wire_invariant, labels_of_wire}
use Rattle.dns_name.proofs.name.«Name+ref+slice+u8».split_first.Goals as goal

pub invariant_of-rest : goal.invariant_of-rest
invariant_of-rest c =
    let octets = c.self.inside.octets.now in
    let s = split_of octets (labels_in octets) c.self.invariant.0 c.self.invariant.1 c.if-len-eq0.false in
    wire_invariant _ s.rest (rest_octets octets s.label (name_wire s.rest) s.wire) s.name

pub returns : goal.returns
returns c =
    let octets = c.self.inside.octets.now in
    let s = split_of octets (labels_in octets) c.self.invariant.0 c.self.invariant.1 c.if-len-eq0.false in
    let rest = labels_of_wire _ s.rest (rest_octets octets s.label (name_wire s.rest) s.wire) s.name in
    let label = c.of-label.ensures ∙ label_octets_are octets s.label (name_wire s.rest) s.wire in
    sym c.self.view_is ∙ s.labels ∙ sym (λ i. label i ∷ rest i)
