use Rattle.dns_rdata.proofs.ReadData.{data_allowed}
use Rattle.dns_rdata.proofs.laws.data_read_have_their_pieces.Goals as goal

pub returns : goal.returns
returns c = data_allowed
