use Rattle.std.proofs.Common.{refl, ap, ◌∙◌}
use Rattle.std.proofs.lemmas.Result.{err_from_is_err_and}
use Rattle.zone_values.proofs.ApexSoa.{first_left, no_first}
use Rattle.xfr_server.proofs.Loops.{kept_first, record_more, record_refused, kept_last}
use Rattle.xfr_server.proofs.transfer_message.push_text.Goals as goal

pub records-init : goal.records-init
records-init c = record { zone = refl; kept = kept_first c.args.answer.now c.args.text.now.records c.args.text.now.records refl }

pub records-preserved : goal.records-preserved
records-preserved c =
    let rest = c.records.text.records in
    record {
      zone = ap (λ t. t.zone) c.advance.ensures ∙ c.records.invariant.zone;
      kept = rw (ap (λ t. t.records) c.advance.ensures) (record_more c.in-Some.record c.in-Some.record _ rest c.args.text.now.records c.records.answer c.args.answer.now c.push.new.self _
          (first_left rest c.in-Some.record c.in-Some.ensures) refl c.records.invariant.kept c.in_ok-push.ensures.adds);
    }

pub returns-in_err-push-clause-added : goal.returns-in_err-push-clause-added
returns-in_err-push-clause-added c =
    let from = err_from_is_err_and c.from_residual.result c.from_residual.ensures.1 in
    let rest = c.records.text.records in
    rw (from.1, from.2) (record_refused c.in-Some.record c.in-Some.record _ rest c.args.text.now.records c.records.answer c.args.answer.now c.push.new.self _
    (first_left rest c.in-Some.record c.in-Some.ensures) refl c.records.invariant.kept c.in_err-push.ensures.adds)

pub returns-clause-added : goal.returns-clause-added
returns-clause-added c = kept_last c.records.text.records c.args.text.now.records c.records.answer c.args.answer.now _ (no_first c.records.text.records c.in_default.ensures) c.records.invariant.kept
