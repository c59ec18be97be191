-- One request and one answer: the sequence that has only a first answer.
use Rattle.std.specs.Prelude.{Option, Some, None, Result, Ok, Err}
use Rattle.tsig_port.specs.declared.server.ServerSequence.{ServerSequence}
use Rattle.tsig_port.specs.declared.server.ServerError.{ServerError}
use Rattle.tsig_port.specs.declared.transactions.ServerTransaction.{ServerTransaction}

-- what the check of a request answers, with the sequence in place of the transaction
abbrev pub sequence_in : {K : Type 0} → Result (Option (ServerTransaction K)) (ServerError K) → Result (Option (ServerSequence K)) (ServerError K)
sequence_in (Ok None) = Ok None
sequence_in (Ok (Some t)) = Ok (Some t.sequence)
sequence_in (Err e) = Err e
