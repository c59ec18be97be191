use Rattle.std.proofs.Common.{◌≡◌, ◌++◌, length}
use Rattle.dns_name.specs.Records.{text_strings}
use Rattle.dns_rdata.proofs.text.push_strings.Given as goal

abbrev pub invariant-strings : goal.invariant-strings
invariant-strings l = l.out.items ++ text_strings l.rest ≡ l.initial.out.items ++ text_strings l.text

abbrev pub decreases-strings : goal.decreases-strings
decreases-strings l = length l.rest
