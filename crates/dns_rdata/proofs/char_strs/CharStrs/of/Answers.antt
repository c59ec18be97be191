use Rattle.std.proofs.Common.{arith}
use Rattle.dns_name.proofs.Elements.{octets_fit}
use Rattle.dns_rdata.proofs.Strings.{short_strings}
use Rattle.dns_rdata.proofs.char_strs.CharStrs.of.Goals as goal

pub returns-clause-short : goal.returns-clause-short
returns-clause-short c = short_strings c.args.octets.now (octets_fit c.args.octets.now (λ k. omega (arith, c.type_inv.octets k)))
