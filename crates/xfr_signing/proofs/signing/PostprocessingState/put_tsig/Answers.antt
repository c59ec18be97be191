use Rattle.xfr_signing.proofs.Puts.{puts}
use Rattle.xfr_signing.proofs.signing.PostprocessingState.put_tsig.Goals as goal

pub returns : goal.returns
returns g c = puts g.K.KeyRef.the_key c.args.self.now c.answer.new.self c.args.message.now c.answer.new.message c.answer.result c.answer.ensures.signed c.answer.ensures.gone c.answer.ensures.kept
