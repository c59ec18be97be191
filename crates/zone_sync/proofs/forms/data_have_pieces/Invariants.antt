use Rattle.std.proofs.Common.{length}
use Rattle.std.specs.Prelude.{IsTrue}
use Rattle.std.specs.List.{AllByRecursion}
use Rattle.dns_rdata.specs.Records.{is_data}
use Rattle.dns_rdata.specs.ZoneData.{rtype_of, data_fields}
use Rattle.zone_sync.proofs.forms.data_have_pieces.Given as goal

-- where the data that are left have their pieces, all have
abbrev pub invariant-data : goal.invariant-data
invariant-data l =
    AllByRecursion (λ d. IsTrue (is_data (rtype_of d) (data_fields d))) l.rest → AllByRecursion (λ d. IsTrue (is_data (rtype_of d) (data_fields d))) l.fn.data

abbrev pub decreases-data : goal.decreases-data
decreases-data l = length l.rest
