-- Where no reply can be made: the cause of an answer `InternalError`, and of an item that fails.
use Rattle.std.specs.Prelude.{◌≡◌, ◌↔◌, ℕ, ◌+◌, ◌<◌, Bool, true, List, length, drop, slice_range, Option, Some, None}
use Rattle.dns_wire.specs.Wire.{message_wire}
use Rattle.dns_wire.specs.Reply.{empty_answer}
use Rattle.xfr_services.specs.Items.{Sending, sent_by}
use Rattle.xfr_services.specs.Replying.{error_sends}

-- whether a service fails: nothing is sent, or one of the items is an error
abbrev pub fails : Option (List Sending) → Bool
fails None = true
fails (Some items) = (sent_by items).fails

-- how many octets a reply has that has the request's questions and no record (RFC 1035, 4.1)
abbrev pub bare_len : List ℕ → ℕ
bare_len request = length (message_wire (empty_answer request 0))

-- a reply without records fails exactly there
abbrev pub RepliesFailWhereLong : Type 0
RepliesFailWhereLong = (request : List ℕ) (rcode : ℕ) → (fails (error_sends request rcode) ≡ true) ↔ (65535 < bare_len request)

-- the most octets of a TSIG record of the algorithms here (RFC 8945, 4.2): names of 255 octets as owner and algorithm, 10 and 16 octets of
-- numbers, a MAC of 64, and the server's time in 6 as other data
abbrev pub longest_tsig : ℕ
longest_tsig = 255 + 10 + 255 + 16 + 64 + 6

-- Messages that differ in id and ARCOUNT alone. These change where a signature is taken off (RFC 8945, 5.2), and a question's name may point
-- to them (RFC 1035, 4.1.4).
abbrev pub SameButIdAndArcount : List ℕ → List ℕ → Type 0
SameButIdAndArcount m n = (slice_range m 2 10 ≡ slice_range n 2 10) × (drop 12 m ≡ drop 12 n)

-- the questions of a request, read behind its own id and ARCOUNT or others, are so long that a reply with them and a TSIG may pass 65,535 octets
pub record HasLongQuestions (request : List ℕ) : Type 0 where
  pub as_read : List ℕ
  pub same : SameButIdAndArcount as_read request
  pub long : 65535 < bare_len as_read + longest_tsig

-- what is sent in answer to a request fails only there
abbrev pub FailsOnlyWhereLong : List ℕ → Option (List Sending) → Type 0
FailsOnlyWhereLong request sent = fails sent ≡ true → HasLongQuestions request
