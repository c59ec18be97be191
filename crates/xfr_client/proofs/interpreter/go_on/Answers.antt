use Rattle.std.proofs.Common.{◌≡◌, None, true, false, subst, sym, ap, ◌∙◌}
use Rattle.xfr_model.specs.Machine.{run_items}
use Rattle.xfr_model.specs.Read.{is_transfer_head}
use Rattle.zone_model.specs.TransferText.{Axfr}
use Rattle.xfr_client.specs.Places.{place_of}
use Rattle.xfr_client.specs.Items.{items_left}
use Rattle.xfr_client.specs.Rest.{Rest, rest_of}
use Rattle.xfr_client.specs.Interpreting.{Taken}
use Rattle.xfr_client.proofs.Taking.{taken_later}
use Rattle.xfr_client.proofs.interpreter.go_on.Goals as goal

pub returns-clause-read : goal.returns-clause-read
returns-clause-read c m h =
    let head : is_transfer_head false m ≡ true = sym (c.is_transfer_head.ensures.read m h) ∙ c.if-not-is_transfer_head.false in
    let P : Rest → Type 0 = λ r. Taken false (place_of c.args.place.now) m r c.run_over-behind.result.0 false in
    subst P (sym (c.new-updates.ensures ∙ ap (λ p. rest_of c.in_ok-section.section p None false false) c.duplicate-2.ensures))
    (taken_later m c.args.place.now c.in_ok-ahead.ahead c.in_ok-section.section c.run_over-behind.result.0 head
    (c.in_ok-ahead.ensures.read m h) (c.in_ok-section.ensures.read m h)
    (c.run_over-behind.ensures.place ∙ ap (λ p. (run_items Axfr (place_of p) (items_left c.in_ok-ahead.ahead)).place) c.duplicate.ensures))
