use Rattle.std.proofs.Common.{[], sym, ◌∙◌}
use Rattle.dns_name.specs.Records.{field_wire}
use Rattle.dns_name.specs.LentFields.{field_of}
use Rattle.dns_rdata.proofs.Fronts.{one_front, empty_alike}
use Rattle.dns_rdata.proofs.spelling.is_one.Goals as goal

pub returns-in-Some : goal.returns-in-Some
returns-in-Some g c =
    c.is_empty.ensures ∙ empty_alike c.in-Some.rest.now
    ∙ sym (one_front (field_wire (field_of g.N.Labelled.labels c.args.field.now)) [] c.args.octets.now c.in-Some.rest.now c.in-Some.ensures)
