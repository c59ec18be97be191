use Rattle.zone_records.proofs.Whole.{takes_as, whole_is, version_is}
use Rattle.zone_records.proofs.laws.zone_files_open.Goals as goal

pub returns-clause-takes : goal.returns-clause-takes
returns-clause-takes c f r = takes_as f r

pub returns-clause-whole : goal.returns-clause-whole
returns-clause-whole c f = whole_is f

pub returns-clause-opens : goal.returns-clause-opens
returns-clause-opens c f = version_is f
