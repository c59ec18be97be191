use Rattle.std.proofs.Common.{◌≡◌, ◌++◌, map, take, drop, bit_xor}
use Rattle.tsig_keys.proofs.digests.mask.Given as goal

abbrev pub invariant-loop-octet : goal.invariant-loop-octet
invariant-loop-octet l = l.octets ≡ map (λ k. bit_xor k l.mask) (take l.octet-index l.initial.octets) ++ drop l.octet-index l.initial.octets
