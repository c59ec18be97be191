use Rattle.xfr_replies.proofs.Pulling.{some_sent, one_sent}
use Rattle.xfr_replies.proofs.laws.transfers_send_one_thing.Goals as goal

pub returns-clause-some : goal.returns-clause-some
returns-clause-some c = λ request limit singles text. some_sent request limit singles text

pub returns-clause-one : goal.returns-clause-one
returns-clause-one c = λ request limit singles text items others s t. one_sent request limit singles text items others s t
