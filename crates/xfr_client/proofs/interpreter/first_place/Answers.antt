use Rattle.std.proofs.Common.{◌≡◌, true, sym, ◌∙◌}
use Rattle.std.proofs.lemmas.Result.{err_from_is_err_and}
use Rattle.xfr_model.specs.Read.{is_transfer_head}
use Rattle.xfr_client.proofs.FirstMessage.{fault_asks, head_one, begins_good}
use Rattle.xfr_client.proofs.interpreter.first_place.Goals as goal

pub returns-in_err-asks_changes-clause-read : goal.returns-in_err-asks_changes-clause-read
returns-in_err-asks_changes-clause-read c m h =
    let head : is_transfer_head true m ≡ true = sym (c.is_transfer_head.ensures.read m h) ∙ c.if-not-is_transfer_head.false in
    let asks = c.in_err-asks_changes.ensures m h (head_one m head) in
    let p = err_from_is_err_and c.from_residual-in_err-asks_changes.result c.from_residual-in_err-asks_changes.ensures.1 in
    rw (p.1, p.2, asks.1) (fault_asks m head asks.0)

pub returns-in-Some-Ok-clause-read : goal.returns-in-Some-Ok-clause-read
returns-in-Some-Ok-clause-read c m h =
    let head : is_transfer_head true m ≡ true = sym (c.is_transfer_head.ensures.read m h) ∙ c.if-not-is_transfer_head.false in
    let asks = c.in_ok-asks_changes.ensures m h (head_one m head) in
    let read = rw c.in-Some-Ok.field-0-is at c.in-Some-Ok.ensures in
    begins_good m c.in_ok-asks_changes.asks_changes c.in-Some-Ok.found _ c.place_at-place.result head asks.0 asks.1 (sym (c.in_ok-section.ensures.read m h) ∙ read) c.place_at-place.ensures
