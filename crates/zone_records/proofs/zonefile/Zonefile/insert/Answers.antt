use Rattle.zone_records.specs.Seen.{kind_seen}
use Rattle.zone_records.proofs.Answering.{took, taken_for}
use Rattle.zone_records.proofs.zonefile.Zonefile.insert.Goals as goal

-- What is taken of a file's record is what is held of the file with it.
pub returns-in_ok-put-in-Ok-clause-file_taken : goal.returns-in_ok-put-in-Ok-clause-file_taken
returns-in_ok-put-in-Ok-clause-file_taken c =
    let old = c.args.self.now in
    taken_for old c.put.new.self c.args.found (took old c.put.new.self c.args.found (kind_seen c.in-Ok.kind) c.in-Ok.ensures c.in_ok-put-in-Ok.ensures.ok)
