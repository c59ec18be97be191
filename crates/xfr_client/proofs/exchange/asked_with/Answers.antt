use Rattle.std.proofs.Common.{sym, ◌∙◌, subst, Some, Ok, Err}
use Rattle.xfr_outcomes.specs.Modes.{mode_of}
use Rattle.xfr_client.specs.SoFar.{AsksWith}
use Rattle.xfr_outcomes.specs.declared.outcome.SyncError.TheVariants.{NoSoa}
use Rattle.xfr_client.proofs.Requests.{asks_with_serial, asks_without}
use Rattle.xfr_client.proofs.exchange.asked_with.Goals as goal

pub returns-in-Some : goal.returns-in-Some
returns-in-Some c =
    let v = c.args.zone.now.version in
    subst (λ m. AsksWith (mode_of m) v (Ok (Some c.in-Some.serial))) (sym c.in-Ixfr.is) (asks_with_serial v c.in-Some.serial (sym c.in-Some.is ∙ c.apex_serial.ensures))

pub returns-in-None : goal.returns-in-None
returns-in-None c =
    let v = c.args.zone.now.version in
    subst (λ m. AsksWith (mode_of m) v (Err NoSoa)) (sym c.in-Ixfr.is) (asks_without v (sym c.in-None.is ∙ c.apex_serial.ensures))
