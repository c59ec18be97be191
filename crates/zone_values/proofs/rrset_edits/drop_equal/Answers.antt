use Rattle.std.proofs.Common.{rules, not}
use Rattle.std.proofs.lemmas.Fn.{filter_same}
use Rattle.dns_rdata.specs.Records.{same_data}
use Rattle.dns_rdata.specs.ZoneData.{data_fields}
use Rattle.zone_values.proofs.rrset_edits.drop_equal.Goals as goal

-- The closure answers by the data alone.
pub returns : goal.returns
returns c = filter_same _ (λ kept. not (same_data (data_fields c.args.item.now) (data_fields kept))) _ (λ x b f' t. search rules) _ _ c.retain.ensures.filtered
