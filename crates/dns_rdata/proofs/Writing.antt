-- What several appends make, and that what was there before stays in front.
use Rattle.std.proofs.Common.{◌≡◌, ℕ, List, ◌++◌}
use Rattle.std.proofs.lemmas.List.{append_assoc}
use Rattle.dns_name.specs.Names.{name_wire}
use Rattle.dns_name.specs.Records.{Record, record_wire, data_wire}
use Rattle.dns_rdata.specs.RecordHead.{head_wire}

-- a record is its owner, its head and its data
pub record_parts : (before : List ℕ) (r : Record) → before ++ name_wire r.owner ++ head_wire r ++ data_wire r.fields ≡ before ++ record_wire r
unfolding head_wire
record_parts before r = simp append_assoc

pub record_regrouped : (r : Record) → record_wire r ≡ name_wire r.owner ++ (head_wire r ++ data_wire r.fields)
unfolding head_wire
record_regrouped r = simp append_assoc
