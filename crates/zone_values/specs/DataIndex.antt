-- The data of a set as an index has them.
use Rattle.std.specs.Prelude.{◌≡◌, List, Option, IfSome}
use Rattle.std.specs.List.{list_any}
use Rattle.std.specs.BTreeSet.{BTreeSet, contains}
use Rattle.dns_rdata.specs.Records.{Field, same_data}
use Rattle.dns_rdata.specs.DataOrder.{data_cmp}

-- data are among the keys exactly where equal data are among the items (RFC 2181, 5)
abbrev pub Indexes : List (List Field) → BTreeSet (List Field) → Type 0
Indexes items keys = (d : List Field) → contains data_cmp keys d ≡ list_any (same_data d) items

-- where there is an index, it is one of the items
abbrev pub IsIndexed : List (List Field) → Option (BTreeSet (List Field)) → Type 0
IsIndexed items seen = IfSome seen (Indexes items)
