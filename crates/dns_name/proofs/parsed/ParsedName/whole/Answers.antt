use Rattle.dns_name.proofs.NameWalking.{whole_stands}
use Rattle.dns_name.proofs.parsed.ParsedName.whole.Goals as goal

pub invariant_of-result : goal.invariant_of-result
invariant_of-result c = (whole_stands c.args.octets.now _ c.requires.name c.requires.wire).some

pub returns : goal.returns
returns c = (whole_stands c.args.octets.now _ c.requires.name c.requires.wire).labels
