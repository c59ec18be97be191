use Rattle.xfr_signing.proofs.Puts.{short_is, short_refused, short_limit}
use Rattle.xfr_signing.proofs.signing.PostprocessingState.sign_short.Goals as goal

pub returns-in-Ok : goal.returns-in-Ok
returns-in-Ok g c = λ s signing prior signs.
    let limit = short_limit c.args.self.now.received c.in_ok-short.short c.in_ok-short.ensures in
    short_is g.K.KeyRef.the_key s signing prior c.args.self.now.received c.in_ok-short.short c.put_tsig.new.message _ c.put_tsig.new.self c.in_ok-short.ensures signs.received
    (c.in-Ok.ensures s signing prior signs limit)

pub returns-in-Err : goal.returns-in-Err
returns-in-Err g c = λ s signing prior signs.
    let limit = short_limit c.args.self.now.received c.in_ok-short.short c.in_ok-short.ensures in
    rw c.from.ensures (short_refused g.K.KeyRef.the_key s signing prior c.args.self.now.received c.in_ok-short.short c.put_tsig.new.message c.in-Err.error c.put_tsig.new.self c.in_ok-short.ensures signs.received
    (c.in-Err.ensures s signing prior signs limit))
