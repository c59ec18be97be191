use Rattle.zone_model.specs.Version.{Sets}
use Rattle.xfr_replies.specs.Steps.{HeadsAt}
use Rattle.xfr_replies.proofs.Skipping.{PassedAt, left_after}
use Rattle.xfr_replies.proofs.of_zone.other_stop.Given as goal

-- Only the apex SOA was passed over.
abbrev pub invariant-stops : goal.invariant-stops
invariant-stops l = (rest : Sets) → HeadsAt l.zone.version rest l.initial.next → PassedAt l.zone.version rest l.next

abbrev pub decreases-stops : goal.decreases-stops
decreases-stops l = left_after l.zone.version l.next
