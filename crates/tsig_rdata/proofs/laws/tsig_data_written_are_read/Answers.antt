use Rattle.tsig_rdata.proofs.DataReading.{data_again}
use Rattle.tsig_rdata.proofs.laws.tsig_data_written_are_read.Goals as goal

pub returns : goal.returns
returns c = data_again
