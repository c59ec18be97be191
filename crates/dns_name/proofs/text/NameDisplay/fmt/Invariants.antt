use Rattle.std.proofs.Common.{length, ◌++◌, ◌≡◌, List, ℕ}
use Rattle.std.specs.Fmt.{HasWritten, IsPlainFormatter}
use Rattle.dns_name.specs.Names.{name_text}
use Rattle.dns_name.specs.Text.{rest_text}
use Rattle.dns_name.proofs.text.NameDisplay.fmt.Given as goal

-- what was written and what is left to be written are the name's text
abbrev pub invariant-loop-label : goal.invariant-loop-label
invariant-loop-label g l =
    IsPlainFormatter l.fn.f → (text : List ℕ) × (text ++ rest_text l.rest ≡ name_text l.self) × HasWritten g.W.Write.write_str_gives l.fn.f text l.f

abbrev pub decreases-loop-label : goal.decreases-loop-label
decreases-loop-label g l = length l.rest
