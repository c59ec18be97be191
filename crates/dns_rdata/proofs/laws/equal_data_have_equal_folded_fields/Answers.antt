use Rattle.dns_rdata.proofs.FoldedData.{equal_data}
use Rattle.dns_rdata.proofs.laws.equal_data_have_equal_folded_fields.Goals as goal

pub returns : goal.returns
returns c = equal_data
