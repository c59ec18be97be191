use Rattle.std.proofs.Common.{◌-◌, length}
use Rattle.dns_name.proofs.FlatNames.{Together}
use Rattle.dns_name.proofs.parsed.ParsedName.uncompressed.Given as goal

abbrev pub invariant-pieces : goal.invariant-pieces
invariant-pieces l = Together l.message l.pos l.place l.self

abbrev pub decreases-pieces : goal.decreases-pieces
decreases-pieces l = length l.message - l.place
