use Rattle.std.proofs.Common.{◌≡◌, ◌≤◌, ◌<◌, ◌+◌, length, Ok}
use Rattle.zone_script.specs.Script.{script_lines}
use Rattle.zone_script.specs.Keeping.{edited, take_rest}
use Rattle.zone_script.proofs.editing.read_rest.Given as goal

-- what is left here says what the whole says; each line has an octet, and fewer versions were committed than lines read
abbrev pub invariant-lines : goal.invariant-lines
invariant-lines g l =
    (take_rest (Ok (edited l.session l.editing)) l.number (script_lines l.rest) ≡ take_rest (Ok (edited l.initial.session l.initial.editing)) l.initial.number (script_lines l.text))
    × (l.number + length l.rest ≤ l.initial.number + length l.text) × (l.session.current.number < l.number)

abbrev pub decreases-lines : goal.decreases-lines
decreases-lines g l = length l.rest
