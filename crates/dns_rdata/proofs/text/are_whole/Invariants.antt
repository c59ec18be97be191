use Rattle.std.proofs.Common.{◌≡◌, length}
use Rattle.dns_name.specs.Records.{are_strings_after}
use Rattle.dns_rdata.proofs.text.are_whole.Given as goal

abbrev pub invariant-loop-len : goal.invariant-loop-len
invariant-loop-len l = are_strings_after 0 l.octets ≡ are_strings_after 0 l.rest

abbrev pub decreases-loop-len : goal.decreases-loop-len
decreases-loop-len l = length l.rest
