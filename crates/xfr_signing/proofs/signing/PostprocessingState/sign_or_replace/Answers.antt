use Rattle.std.proofs.Common.{refl}
use Rattle.xfr_signing.proofs.Puts.{signed_reply_is, replaced}
use Rattle.xfr_signing.proofs.signing.PostprocessingState.sign_or_replace.Goals as goal

pub returns-in-Ok : goal.returns-in-Ok
returns-in-Ok g c = λ s signing prior signs.
    let put = rw c.clear_push_limit.ensures at (c.in-Ok.ensures s signing prior signs) in
    signed_reply_is g.K.KeyRef.the_key s signing prior c.args.reply.octets _ c.put_tsig.new.message c.put_tsig.new.self (put refl)

pub returns-in-Err-ShortBuf : goal.returns-in-Err-ShortBuf
returns-in-Err-ShortBuf g c = λ s signing prior signs.
    let put = rw (c.in-Err-ShortBuf.field-0-is, c.clear_push_limit.ensures) at (c.in-Err-ShortBuf.ensures s signing prior signs) in
    replaced g.K.KeyRef.the_key s signing prior c.args.reply.octets c.sign_short.result c.sign_short.new.self (put refl).0 (c.sign_short.ensures s signing prior (put refl).1)

pub returns : goal.returns
returns g c = λ s signing prior signs.
    let put = rw (c.in-Err-CountOverflow.field-0-is, c.clear_push_limit.ensures) at (c.in-Err-CountOverflow.ensures s signing prior signs) in
    replaced g.K.KeyRef.the_key s signing prior c.args.reply.octets c.sign_short-in-Err-CountOverflow.result c.sign_short-in-Err-CountOverflow.new.self (put refl).0 (c.sign_short-in-Err-CountOverflow.ensures s signing prior (put refl).1)
