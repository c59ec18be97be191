use Rattle.dns_rdata.proofs.Strings.{strings_spelled}
use Rattle.dns_rdata.proofs.string_laws.strings_are_spelled.Goals as goal

pub returns : goal.returns
returns c = strings_spelled
