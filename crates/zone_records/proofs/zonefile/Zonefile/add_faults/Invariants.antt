use Rattle.std.proofs.Common.{◌≡◌, ◌++◌, map}
use Rattle.zone_versions.specs.Stops.{key_told}
use Rattle.zone_records.specs.Seen.{kind_seen}
use Rattle.zone_records.specs.Faults.{faults_at, faults_of}
use Rattle.zone_records.proofs.zonefile.Zonefile.add_faults.Given as goal

-- With the faults at the sets that are left, they are all.
abbrev pub invariant-loop-set : goal.invariant-loop-set
invariant-loop-set l = l.found ++ faults_at l.self (kind_seen l.kind) (map key_told l.set-iterator) ≡ l.initial.found ++ faults_of l.self (kind_seen l.kind)
