use Rattle.std.proofs.Common.{[], subst}
use Rattle.tsig_port.specs.Tsig.{TsigKey}
use Rattle.tsig_port.specs.States.{Answers}
use Rattle.tsig_port.proofs.transactions.ClientTransaction.answer.Goals as goal

pub returns : goal.returns
returns g c = λ request_mac stands.
    subst (λ (k : TsigKey). Answers k request_mac c.args.now [] c.args.message.now c.answer.result c.answer.new.message) c.duplicate-sequence.ensures.key
    (c.answer.ensures.checked request_mac [] (c.duplicate-sequence.ensures.stands request_mac [] stands))
