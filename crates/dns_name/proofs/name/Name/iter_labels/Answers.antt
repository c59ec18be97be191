use Rattle.std.proofs.Common.{◌∙◌}
use Rattle.dns_name.proofs.WireForms.{few_labels, wire_invariant, labels_of_wire}
use Rattle.dns_name.proofs.name.Name.iter_labels.Goals as goal

pub whole-requires-clause-name : goal.whole-requires-clause-name
whole-requires-clause-name g c = (wire_invariant _ _ c.as_slice.ensures.wire c.as_slice.ensures.name).0

pub whole-requires-clause-wire : goal.whole-requires-clause-wire
whole-requires-clause-wire g c = (wire_invariant _ _ c.as_slice.ensures.wire c.as_slice.ensures.name).1

pub returns-clause-value : goal.returns-clause-value
returns-clause-value g c = c.of.ensures ∙ c.whole.ensures ∙ labels_of_wire _ _ c.as_slice.ensures.wire c.as_slice.ensures.name

pub returns-clause-few : goal.returns-clause-few
returns-clause-few g c =
    rw (c.of.ensures, c.whole.ensures, labels_of_wire _ _ c.as_slice.ensures.wire c.as_slice.ensures.name) (few_labels c.args.self.now c.as_slice.ensures.name)
