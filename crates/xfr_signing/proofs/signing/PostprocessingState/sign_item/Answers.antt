use Rattle.xfr_signing.specs.Signing.{begun}
use Rattle.xfr_signing.proofs.Puts.{step_none, step_some, step_error}
use Rattle.xfr_signing.proofs.signing.PostprocessingState.sign_item.Goals as goal

pub returns-in_default : goal.returns-in_default
returns-in_default g c = λ s signing prior signs.
    step_none g.K.KeyRef.the_key s signing prior c.args.item c.begin.new.self c.in_default.is (c.begin.ensures s signing prior signs)

pub returns-in-Ok : goal.returns-in-Ok
returns-in-Ok g c = λ s signing prior signs.
    step_some g.K.KeyRef.the_key s signing prior c.args.item c.in-Some.reply c.in-Ok.reply c.sign_where_due.new.self c.in-Some.is
    (c.in-Ok.ensures s (begun signing c.args.item.feedback) prior (c.begin.ensures s signing prior signs))

pub returns-in-Err : goal.returns-in-Err
returns-in-Err g c = λ s signing prior signs.
    step_error g.K.KeyRef.the_key s signing prior c.args.item c.in-Some.reply c.in-Err.error c.sign_where_due.new.self c.in-Some.is
    (c.in-Err.ensures s (begun signing c.args.item.feedback) prior (c.begin.ensures s signing prior signs))
