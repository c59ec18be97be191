use Rattle.std.proofs.Common.{Some, false, refl, ap, ◌∙◌}
use Rattle.xfr_batch.specs.ReadyMessages.{none_ready}
use Rattle.xfr_replies.proofs.Pulling.{begins}
use Rattle.xfr_replies.proofs.transfer_replies.TransferReplies.new.Goals as goal

pub returns : goal.returns
returns c =
    let state = c.build.ensures.state ∙ ap (λ most. none_ready (Some c.args.limit) most false) c.record_limit-most.ensures in
    let b = begins c.build.result c.args.request c.args.limit c.args.singles c.args.text.records c.build.ensures.request c.build.ensures.answer state in
    record { items = _; sent = (_, refl, (b.0, refl, b.1)); left = (b.0, refl, b.2) }
