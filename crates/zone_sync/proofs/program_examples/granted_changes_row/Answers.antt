use Rattle.std.proofs.Common.{refl}
use Rattle.xfr_course.proofs.OnLiterals.{course_on_literals}
use Rattle.zone_model.specs.TransferText.{Ixfr}
use Rattle.zone_sync.specs.Primaries.{refuser}
use Rattle.zone_sync.specs.ProgramRows.{changes_script, small_key, changes_read}
use Rattle.zone_sync.proofs.SmallScript.{changes_fit}
use Rattle.zone_sync.proofs.Endings.{script_granted}
use Rattle.zone_sync.proofs.program_examples.granted_changes_row.Goals as goal

pub returns-clause-read : goal.returns-clause-read
unfolding course_on_literals
returns-clause-read c = refl

pub returns-clause-fits : goal.returns-clause-fits
returns-clause-fits c = changes_fit

pub returns-clause-granted : goal.returns-clause-granted
returns-clause-granted c =
    script_granted _ (λ p key a at longest. c.history_primaries_grant.ensures refuser p key a at longest) Ixfr changes_script changes_read small_key 65535 (returns-clause-read c) changes_fit
