use Rattle.std.proofs.Common.{ap, ◌∙◌}
use Rattle.xfr_signing.specs.Signing.{behind}
use Rattle.xfr_signing.proofs.Puts.{signed_behind, failed_behind}
use Rattle.xfr_signing.proofs.signing.PostprocessingState.sign.Goals as goal

pub returns-in-Ok : goal.returns-in-Ok
returns-in-Ok g c = λ s signing prior signs.
    signed_behind g.K.KeyRef.the_key c.sign_or_replace.new.self c.behind-after.result s signing prior _ c.in-Ok.reply (c.behind-after.ensures ∙ ap behind signs.which) (c.in-Ok.ensures s signing prior signs)

pub returns-in-Err-InternalError : goal.returns-in-Err-InternalError
returns-in-Err-InternalError g c = λ s signing prior signs.
    failed_behind g.K.KeyRef.the_key c.sign_or_replace.new.self c.behind-after.result s signing prior _ (c.behind-after.ensures ∙ ap behind signs.which)
    (rw c.in-Err-InternalError.field-0-is at (c.in-Err-InternalError.ensures s signing prior signs))
