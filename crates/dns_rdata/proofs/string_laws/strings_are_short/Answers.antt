use Rattle.dns_rdata.proofs.Strings.{short_strings}
use Rattle.dns_rdata.proofs.string_laws.strings_are_short.Goals as goal

pub returns : goal.returns
returns c = short_strings
