use Rattle.std.proofs.Common.{◌∙◌, ap}
use Rattle.dns_name.specs.Names.{fold, labels_in}
use Rattle.dns_name.proofs.WireForms.{wire_invariant, labels_of_wire, folded_octets, fold_is_name}
use Rattle.dns_name.proofs.name.«Name+NameOctets».into_canonical.Goals as goal

pub invariant_of-result : goal.invariant_of-result
invariant_of-result c =
    let old = c.self.inside.octets in
    wire_invariant _ (fold (labels_in old)) (folded_octets old _ c.self.invariant c.make_ascii_lowercase.ensures) (fold_is_name (labels_in old) c.self.invariant.0)

pub returns : goal.returns
returns c =
    let old = c.self.inside.octets in
    labels_of_wire _ (fold (labels_in old)) (folded_octets old _ c.self.invariant c.make_ascii_lowercase.ensures) (fold_is_name (labels_in old) c.self.invariant.0)
    ∙ ap fold c.self.view_is
