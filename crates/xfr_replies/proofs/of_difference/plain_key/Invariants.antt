use Rattle.std.specs.Prelude.{option_copied}
use Rattle.zone_model.specs.Version.{Sets}
use Rattle.xfr_replies.specs.Steps.{Heads}
use Rattle.xfr_replies.proofs.Behind.{left_at}
use Rattle.xfr_replies.proofs.Skipping.{Passed}
use Rattle.xfr_replies.proofs.of_difference.plain_key.Given as goal

-- Only SOA sets were passed over.
abbrev pub invariant-keys : goal.invariant-keys
invariant-keys l = (rest : Sets) → Heads l.sets rest (option_copied l.initial.next) → Passed l.sets rest (option_copied l.next)

abbrev pub decreases-keys : goal.decreases-keys
decreases-keys l = left_at l.sets (option_copied l.next)
