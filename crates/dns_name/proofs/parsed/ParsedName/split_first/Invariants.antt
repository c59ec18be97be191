use Rattle.dns_name.proofs.NameWalking.{Stands}
use Rattle.dns_name.proofs.parsed.ParsedName.split_first.Given as goal

abbrev pub invariant-pieces : goal.invariant-pieces
invariant-pieces l = Stands l.message l.place l.self

abbrev pub decreases-pieces : goal.decreases-pieces
decreases-pieces l = l.place
