use Rattle.std.proofs.Common.{◌∙◌}
use Rattle.dns_rdata.specs.ZoneData.{data_fields}
use Rattle.zone_versions.proofs.NodeEdits.{one_value_of}
use Rattle.zone_versions.proofs.nodes.has_one_value.Goals as goal

-- The first is one of the data.
pub returns-in-Some : goal.returns-in-Some
returns-in-Some c = c.are_equal.ensures ∙ one_value_of data_fields c.args.items.now c.in-Some.first.now c.in-Some.ensures.value
