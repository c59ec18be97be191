use Rattle.std.proofs.Common.{refl}
use Rattle.xfr_signing.proofs.Sends.{next_made, next_refused, next_failed, some_item}
use Rattle.xfr_signing.proofs.signing.TsigStreamReplyStream.next_item.Goals as goal

pub returns-in-Ok-sign_item-clause-item : goal.returns-in-Ok-sign_item-clause-item
returns-in-Ok-sign_item-clause-item g c = λ items left.
    let now = rw c.in-Signed.is at left in
    next_made g.S.ReplyStream.LeftOf g.K.KeyRef.the_key c.in-Signed.replies c.next_item-in-Signed.new.self c.in-Signed.state c.sign_item.new.self items c.in-Ok.item now
    (λ given l. rw c.in-Ok.is at (c.in_ok-item-in-Signed.ensures.item given l)) c.in-Ok-sign_item.signed c.in-Ok-sign_item.ensures

pub returns-in-Err-InternalError-clause-item : goal.returns-in-Err-InternalError-clause-item
returns-in-Err-InternalError-clause-item g c = λ items left.
    let now = rw c.in-Signed.is at left in
    next_refused g.S.ReplyStream.LeftOf g.K.KeyRef.the_key c.in-Signed.replies c.next_item-in-Signed.new.self c.in-Signed.state c.sign_item.new.self items c.in-Ok.item now
    (λ given l. rw c.in-Ok.is at (c.in_ok-item-in-Signed.ensures.item given l))
    (rw c.in-Err-InternalError.field-0-is at c.in-Err-InternalError.ensures)

pub returns-in-Err-Memory-clause-item : goal.returns-in-Err-Memory-clause-item
returns-in-Err-Memory-clause-item g c = λ items left.
    let now = rw c.in-Signed.is at left in (
      some_item g.S.ReplyStream.LeftOf g.K.KeyRef.the_key c.in-Signed.replies c.next_item-in-Signed.new.self c.in-Signed.state items c.in-Ok.item now
          (λ given l. rw c.in-Ok.is at (c.in_ok-item-in-Signed.ensures.item given l)),
      refl,
    )

pub returns-in-Err-clause-item : goal.returns-in-Err-clause-item
returns-in-Err-clause-item g c = λ items left.
    let now = rw c.in-Signed.is at left in
    next_failed g.S.ReplyStream.LeftOf g.K.KeyRef.the_key c.in-Err.error c.in-Signed.replies c.next_item-in-Signed.new.self c.in-Signed.state items now
    (λ given l. rw c.in-Err.is at (c.in_ok-item-in-Signed.ensures.item given l))
