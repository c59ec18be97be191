use Rattle.std.proofs.Common.{List, ℕ, ap, ◌∙◌, ◌++◌}
use Rattle.dns_rdata.specs.Records.{record_wire}
use Rattle.dns_wire.specs.Parse.{parsed}
use Rattle.dns_wire.proofs.Pushing.{removed_last, removed_none}
use Rattle.dns_wire.proofs.ItemWriting.{parsed-message_wire}
use Rattle.dns_wire.proofs.message_laws.removed_is_unlisted.Goals as goal

pub returns-clause-octets : goal.returns-clause-octets
returns-clause-octets c = removed_last

pub returns-clause-read : goal.returns-clause-read
returns-clause-read c =
    λ m r after ok few. ap (λ (xs : List ℕ). parsed xs) (removed_last m r after few) ∙ parsed-message_wire m (record_wire r ++ after) ok

pub returns-clause-none : goal.returns-clause-none
returns-clause-none c = removed_none
