use Rattle.std.proofs.Common.{◌≤◌, ◌+◌, length}
use Rattle.zone_script.proofs.Parsing.{Reads}
use Rattle.zone_script.proofs.script.parse.Given as goal

-- what is left here says what the whole says; each line has an octet
abbrev pub invariant-opening : goal.invariant-opening
invariant-opening g l = Reads l.reading l.number l.rest l.fn.text × (1 ≤ l.number) × (l.number + length l.rest ≤ 1 + length l.fn.text)

abbrev pub decreases-opening : goal.decreases-opening
decreases-opening g l = length l.rest
