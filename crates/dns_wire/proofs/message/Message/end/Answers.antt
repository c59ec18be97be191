use Rattle.std.proofs.lemmas.Result.{err_from_is_err_and}
use Rattle.dns_wire.proofs.Parsing.{reads, unread}
use Rattle.dns_wire.proofs.message.Message.end.Goals as goal

pub returns-in_err-place-clause-unread : goal.returns-in_err-place-clause-unread
returns-in_err-place-clause-unread c =
    let from = err_from_is_err_and c.from_residual.result c.from_residual.ensures.1 in
    rw from.1 (unread c.args.self.now c.in_err-place.ensures.header c.in_err-place.ensures.none)

pub returns-clause-reads : goal.returns-clause-reads
returns-clause-reads c = reads c.args.self.now c.in_ok-place.place c.in_ok-place.ensures.header c.in_ok-place.ensures.found
