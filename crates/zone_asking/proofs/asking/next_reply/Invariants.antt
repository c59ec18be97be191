use Rattle.std.proofs.Common.{◌≡◌, ℕ, List, Option}
use Rattle.zone_asking.specs.declared.limits.Limits.{Limits}
use Rattle.zone_asking.specs.Streams.{ReadSoFar}
use Rattle.zone_asking.proofs.asking.next_reply.Given as goal

-- what was read so far was passed over
abbrev pub invariant-passing : goal.invariant-passing
invariant-passing g l = record {
  faults : g.S.Source.faults l.src ≡ g.S.Source.faults l.initial.src;
  read : (limits : Limits) (replies : List (List ℕ)) (old : Option (List ℕ)) → ReadSoFar limits l.over replies old (g.S.Source.remaining l.initial.src) l.initial.left
      → ReadSoFar limits l.over replies old (g.S.Source.remaining l.src) l.left;
}

-- each message counts
abbrev pub decreases-passing : goal.decreases-passing
decreases-passing g l = l.left.replies
