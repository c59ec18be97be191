use Rattle.std.proofs.Common.{◌≡◌, ◌++◌, ◌-◌}
use Rattle.zone_generated.specs.Generated as generated
use Rattle.zone_generated.proofs.draws.draws.Given as goal

-- With the draws that are left they are all.
abbrev pub invariant-loop-number : goal.invariant-loop-number
invariant-loop-number l = l.drawn.items ++ generated.draws (l.count - l.number) l.draw ≡ generated.draws l.count l.seed
