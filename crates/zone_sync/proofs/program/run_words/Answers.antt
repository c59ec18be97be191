use Rattle.std.specs.Prelude.{◌≡◌, ℕ, List, Option, None}
use Rattle.std.proofs.Common.{refl, sym, subst}
use Rattle.tsig_port.specs.Tsig.{TsigKey}
use Rattle.xfr_server.specs.Items.{Sending}
use Rattle.zone_model.specs.Offer.{Provider}
use Rattle.zone_report.proofs.WrittenParts.{wrote_last}
use Rattle.zone_report.specs.ReportsWritten.{Wrote}
use Rattle.zone_report.specs.declared.status.Status.{Status}
use Rattle.zone_report.specs.declared.status.Status.TheVariants.{Usage}
use Rattle.zone_script.specs.Words.{Form}
use Rattle.zone_sync.specs.Reported.{Crossed, IsDueOf}
use Rattle.zone_sync.proofs.Dues.{untouched}
use Rattle.zone_sync.proofs.program.run_words.Goals as goal

-- what is due of a form is due of words that have it
written_as : (SendsOf : Provider → TsigKey → ℕ → List ℕ → Option (List Sending) → Type 0) (form read : Option Form) (left : Option (List ℕ)) (link : Crossed) (taken_old taken_new : Option (List ℕ)) (s : Status)
    → Wrote (IsDueOf SendsOf form left link) taken_old taken_new s → read ≡ form → Wrote (IsDueOf SendsOf read left link) taken_old taken_new s
written_as SendsOf form read left link taken_old taken_new s w e = subst (λ (f : Option Form). Wrote (IsDueOf SendsOf f left link) taken_old taken_new s) (sym e) w

-- Words that were read.
pub returns-in-Some-clause-wrote : goal.returns-in-Some-clause-wrote
returns-in-Some-clause-wrote g c = written_as _ _ _ _ _ _ _ _ c.run.ensures.wrote (rw c.in-Some.is refl)

pub returns-in-Some-clause-by_script : goal.returns-in-Some-clause-by_script
returns-in-Some-clause-by_script g c = λ mode readers text asked had. c.run.ensures.by_script mode readers text (rw c.in-Some.is at asked) had

-- Words that couldn't be read.
pub returns-in-None-clause-wrote : goal.returns-in-None-clause-wrote
returns-in-None-clause-wrote g c = written_as _ None _ _ _ _ _ _ (wrote_last _ _ Usage _ _ _ (refl, untouched) c.write_last.ensures.done c.write_last.ensures.written c.write_last.ensures.part) (rw c.in-None.is refl)
