use Rattle.std.proofs.Common.{◌≡◌, ◌+◌, ◌<◌, ◌≤◌, ◌^◌, length}
use Rattle.std.specs.Prelude.{◌==◌}
use Rattle.std.specs.List.{filter_map}
use Rattle.dns_wire.specs.Wire.{header_number}
use Rattle.dns_wire.specs.Reply.{fitting}
use Rattle.dns_wire.specs.Builds.{with_questions}
use Rattle.dns_wire.proofs.builder.MessageBuilder.push_fitting.Given as goal

abbrev pub invariant-loop-question : goal.invariant-loop-question
invariant-loop-question l =
    let left = filter_map (λ q. q) l.questions.left in
    let all = filter_map (λ q. q) l.fn.questions.left in
    record {
      limit : l.self.limit ≡ l.fn.self.limit;
      header : 12 ≤ length l.self.octets;
      small : header_number 4 l.self.octets < 2 ^ 16;
      fits : with_questions l.self.octets (fitting l.self.limit l.self.octets left) ≡ with_questions l.fn.self.octets (fitting l.fn.self.limit l.fn.self.octets all);
      whole : (length (fitting l.self.limit l.self.octets left) == length left) ≡ (length (fitting l.fn.self.limit l.fn.self.octets all) == length all);
      count : header_number 4 l.self.octets + length left ≡ header_number 4 l.fn.self.octets + length all;
    }

abbrev pub decreases-loop-question : goal.decreases-loop-question
decreases-loop-question l = length l.questions.left
