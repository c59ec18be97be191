use Rattle.std.proofs.Common.{◌≡◌, take, fold}
use Rattle.zone_model.specs.Edits.{add_glue}
use Rattle.zone_reads.specs.Session.{with_pending}
use Rattle.zone_sessions.proofs.write.WriteZone.put_glue.Given as goal

-- The addresses so far are put.
abbrev pub invariant-loop-added : goal.invariant-loop-added
invariant-loop-added l = l.self ≡ with_pending l.initial.self (fold add_glue l.initial.self.pending (take l.added-index l.glue))
