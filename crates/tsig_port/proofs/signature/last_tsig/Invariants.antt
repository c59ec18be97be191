use Rattle.std.proofs.Common.{◌≡◌, length}
use Rattle.std.specs.List.{AllByRecursion}
use Rattle.tsig_port.specs.Tsig.{signature_of}
use Rattle.tsig_port.specs.Received.{signature_left, IsBehindHeader}
use Rattle.tsig_port.proofs.signature.last_tsig.Given as goal

abbrev pub invariant-loop-reading : goal.invariant-loop-reading
invariant-loop-reading l =
    record {
      same : l.records.message ≡ l.message;
      left : signature_left l.message l.records.left ≡ signature_of l.message;
      behind : AllByRecursion (IsBehindHeader l.message) l.records.left;
    }

abbrev pub decreases-loop-reading : goal.decreases-loop-reading
decreases-loop-reading l = length l.records.left
