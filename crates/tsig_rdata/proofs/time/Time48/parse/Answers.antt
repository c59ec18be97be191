use Rattle.tsig_rdata.proofs.Times.{time_again}
use Rattle.tsig_rdata.proofs.time.Time48.parse.Goals as goal

pub returns-clause-round_trip : goal.returns-clause-round_trip
returns-clause-round_trip c = λ t before after small stands at.
    time_again c.args.message.now c.args.pos t before after c.time_at.result c.time_at.ensures.found c.time_at.ensures.none small stands at
