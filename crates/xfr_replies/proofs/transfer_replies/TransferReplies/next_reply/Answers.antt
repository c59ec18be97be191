use Rattle.std.proofs.Common.{ℕ, List, [], ◌∷◌, refl, sym, ap, ◌∙◌}
use Rattle.std.proofs.lemmas.Result.{err_from_is_err_and}
use Rattle.xfr_replies.specs.PagedReplies.{servfail_sent}
use Rattle.xfr_replies.proofs.Pulling.{continued, some_left, needs, servfail_told}
use Rattle.xfr_replies.proofs.transfer_replies.TransferReplies.next_reply.Goals as goal

pub returns-in_err-reply-in-TooLong-clause-memory : goal.returns-in_err-reply-in-TooLong-clause-memory
returns-in_err-reply-in-TooLong-clause-memory c = λ stage items left.
    let a = c.args.self.now in
    let from = err_from_is_err_and c.from_residual.result c.from_residual.ensures.1 in
    let is = c.in-TooLong.ensures.item items (continued a.stage a.batcher a.text.records items stage left) in
    rw (from.1, from.2) (servfail_told c.request.result.now items _ (is ∙ ap (λ (q : List ℕ). servfail_sent q ∷ []) (sym c.request.ensures)) c.in_err-reply-in-TooLong.ensures)

pub returns-in-NoMemory-clause-item : goal.returns-in-NoMemory-clause-item
returns-in-NoMemory-clause-item c = λ stage items left.
    let a = c.args.self.now in
    let lacks = c.in-NoMemory.ensures.item items (continued a.stage a.batcher a.text.records items stage left) in
    (some_left _ _ items lacks.left, refl)

pub returns-in-NoMemory-clause-memory : goal.returns-in-NoMemory-clause-memory
returns-in-NoMemory-clause-memory c = λ stage items left.
    let a = c.args.self.now in
    needs _ _ items (c.in-NoMemory.ensures.item items (continued a.stage a.batcher a.text.records items stage left))
