use Rattle.std.proofs.Common.{sym}
use Rattle.name_keys.proofs.Reading.{key_invariant, is_folded}
use Rattle.name_keys.proofs.laws.keys_are_of_their_names.Goals as goal

pub returns-clause-key : goal.returns-clause-key
returns-clause-key c = λ octets k. (key_invariant octets k.0 (sym k.2) k.1).1

pub returns-clause-name : goal.returns-clause-name
returns-clause-name c = λ octets k. (key_invariant octets k.0 (sym k.2) k.1).0

pub returns-clause-folded : goal.returns-clause-folded
returns-clause-folded c = λ octets k. is_folded octets (key_invariant octets k.0 (sym k.2) k.1).1
