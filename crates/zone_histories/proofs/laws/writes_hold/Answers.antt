use Rattle.zone_histories.proofs.Values.{written_value, removed_value, kept_before, undone}
use Rattle.zone_histories.proofs.laws.writes_hold.Goals as goal

pub returns-clause-written : goal.returns-clause-written
returns-clause-written g c = written_value

pub returns-clause-removed : goal.returns-clause-removed
returns-clause-removed g c = removed_value

pub returns-clause-kept : goal.returns-clause-kept
returns-clause-kept g c = kept_before

pub returns-clause-undone : goal.returns-clause-undone
returns-clause-undone g c = undone
