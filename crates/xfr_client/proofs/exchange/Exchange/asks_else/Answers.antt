use Rattle.std.proofs.Common.{not, sym, ap, ◌∙◌}
use Rattle.xfr_client.proofs.Answering.{asks_found, asks_nothing}
use Rattle.xfr_client.proofs.exchange.Exchange.asks_else.Goals as goal

pub returns-in-Ok : goal.returns-in-Ok
returns-in-Ok c m h = ap not c.is_asked.ensures ∙ sym (asks_found c.args.message.now m c.args.self.now.question c.in-Ok.question h c.in-Ok.ensures.found)

pub returns-in-Err : goal.returns-in-Err
returns-in-Err c m h = sym (asks_nothing c.args.message.now m c.args.self.now.question h c.in-Err.ensures.none)
