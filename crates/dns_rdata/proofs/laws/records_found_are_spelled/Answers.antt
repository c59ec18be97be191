use Rattle.dns_rdata.proofs.FoundRecords.{found_is_spelled}
use Rattle.dns_rdata.proofs.laws.records_found_are_spelled.Goals as goal

pub returns : goal.returns
returns c = found_is_spelled
