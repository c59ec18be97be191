use Rattle.zone_values.proofs.Indexing.{with_last}
use Rattle.zone_values.proofs.data_index.note_new.Goals as goal

pub returns-clause-put : goal.returns-clause-put
returns-clause-put c = λ e items was. with_last c.args.keys.now c.insert.new.self c.args.key c.in_ok-insert.ensures.updates items was
