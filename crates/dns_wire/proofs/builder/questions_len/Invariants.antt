use Rattle.std.proofs.Common.{◌≡◌, ◌+◌, ◌*◌, ◌<◌, ◌^◌, length}
use Rattle.std.specs.List.{filter_map, flat_map}
use Rattle.dns_wire.specs.Wire.{question_wire}
use Rattle.dns_wire.proofs.builder.questions_len.Given as goal

-- the octets so far, and those of the questions that are left, are all
abbrev pub invariant-loop-question : goal.invariant-loop-question
invariant-loop-question l = record {
  few : l.len + 512 * length l.questions.left < 2 ^ 26;
  rest : l.len + length (flat_map question_wire (filter_map (λ q. q) l.questions.left)) ≡ length (flat_map question_wire (filter_map (λ q. q) l.fn.questions.left));
}

abbrev pub decreases-loop-question : goal.decreases-loop-question
decreases-loop-question l = length l.questions.left
