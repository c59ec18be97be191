use Rattle.std.proofs.Common.{◌≡◌, length}
use Rattle.std.specs.Option.{option_or, option_map_or}
use Rattle.std.specs.Prelude.{IfSome, true}
use Rattle.zone_model.specs.Version.{is_cut}
use Rattle.zone_model.specs.Answer.{highest_cut}
use Rattle.zone_lookup.proofs.look_up_steps.highest_cut.Given as goal

-- what is left above decides before what was found below, which is a cut
abbrev pub invariant-loop-highest : goal.invariant-loop-highest
invariant-loop-highest l = (highest_cut l.version l.name ≡ option_or (highest_cut l.version l.rest) l.highest) × IfSome l.highest (λ c. is_cut l.version c ≡ true)

-- a label fewer each time
abbrev pub decreases-loop-highest : goal.decreases-loop-highest
decreases-loop-highest l = length l.rest
