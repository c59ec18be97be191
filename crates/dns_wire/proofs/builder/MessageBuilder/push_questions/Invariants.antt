use Rattle.std.proofs.Common.{◌≡◌, ◌+◌, ◌<◌, ◌≤◌, ◌^◌, length}
use Rattle.std.specs.List.{filter_map}
use Rattle.dns_wire.specs.Wire.{header_number}
use Rattle.dns_wire.specs.Builds.{with_questions}
use Rattle.dns_wire.proofs.builder.MessageBuilder.push_questions.Given as goal

abbrev pub invariant-loop-question : goal.invariant-loop-question
invariant-loop-question l = record {
  limit : l.self.limit ≡ l.fn.self.limit;
  header : 12 ≤ length l.self.octets;
  small : header_number 4 l.self.octets < 2 ^ 16;
  rest : with_questions l.self.octets (filter_map (λ q. q) l.questions.left) ≡ with_questions l.fn.self.octets (filter_map (λ q. q) l.fn.questions.left);
  count : header_number 4 l.self.octets + length (filter_map (λ q. q) l.questions.left) ≡ header_number 4 l.fn.self.octets + length (filter_map (λ q. q) l.fn.questions.left);
}

abbrev pub decreases-loop-question : goal.decreases-loop-question
decreases-loop-question l = length l.questions.left
