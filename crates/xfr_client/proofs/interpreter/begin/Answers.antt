use Rattle.std.proofs.Common.{Some, true, subst, sym, ap, ◌∙◌}
use Rattle.xfr_model.specs.Machine.{run_items, AtStart}
use Rattle.zone_model.specs.TransferText.{Axfr}
use Rattle.xfr_client.specs.Places.{place_of}
use Rattle.xfr_client.specs.Items.{items_left}
use Rattle.xfr_client.specs.Rest.{Rest}
use Rattle.xfr_client.specs.Interpreting.{Taken}
use Rattle.xfr_client.proofs.Taking.{taken_first}
use Rattle.xfr_client.proofs.interpreter.begin.Goals as goal

pub returns-clause-read : goal.returns-clause-read
returns-clause-read c m h =
    let s = c.in_ok-place.ensures.read m h in
    let a = c.in_ok-ahead.ensures m (Some s.first) s.others h s.answers in
    let b = c.in_ok-section.ensures m (Some s.first) s.others h s.answers in
    let P : Rest → Type 0 = λ r. Taken true AtStart m r c.run_over-behind.result.0 c.asks_again-has_signalled.result in
    subst P (sym c.new-updates.ensures)
    (taken_first m c.in_ok-place.place s c.in_ok-ahead.ahead c.in_ok-section.section c.first_told-in_hand.result c.run_over-behind.result.0 c.run_over-behind.result.1 c.asks_again-has_signalled.result a b
    (c.run_over-behind.ensures.place ∙ ap (λ p. (run_items Axfr (place_of p) (items_left c.in_ok-ahead.ahead)).place) c.duplicate.ensures)
    c.run_over-behind.ensures.bad c.first_told-in_hand.ensures c.asks_again-has_signalled.ensures)

pub returns-in_err-ahead-clause-read : goal.returns-in_err-ahead-clause-read
returns-in_err-ahead-clause-read c m h = let s = c.in_ok-place.ensures.read m h in absurd (c.in_err-ahead.ensures m (Some s.first) s.others h s.answers)

pub returns-in_err-section-clause-read : goal.returns-in_err-section-clause-read
returns-in_err-section-clause-read c m h = let s = c.in_ok-place.ensures.read m h in absurd (c.in_err-section.ensures m (Some s.first) s.others h s.answers)
