-- Records that are added to a message.
use Rattle.std.specs.Prelude.{ℕ, List, ◌++◌, Result, Ok}
use Rattle.std.specs.Result.{result_map_both}
use Rattle.dns_rdata.specs.Records.{Record}
use Rattle.dns_wire.specs.Wire.{Building, Header, Question, in_answer, message_wire}
use Rattle.dns_wire.specs.Builds.{Builds, BuildsBehind}
use Rattle.dns_wire.specs.declared.builder.PushError.{PushError}

-- What a call answers that adds answers to a message: the message with these after those that it has is built, within the same limit.
-- So it is ShortBuf where that doesn't fit, unless memory lacks before that is seen, and never CountOverflow: no message of up to 65,535
-- octets has so many records.
abbrev pub AddsAnswers : {A : Type 0} → List Record → Building → Result A PushError → Building → Type 0
AddsAnswers rs old result new = (h : Header) (qs : List Question) (before : List Record) (limit : ℕ)
    → Builds (message_wire (in_answer h qs before)) limit (Ok old)
    → BuildsBehind (message_wire (in_answer h qs before)) (message_wire (in_answer h qs (before ++ rs))) limit (result_map_both (λ a. new) (λ e. e) result)
