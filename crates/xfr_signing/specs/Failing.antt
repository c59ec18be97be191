-- Where no reply can be made: what an answer `InternalError` and an item that fails say of the request.
use Rattle.std.specs.Prelude.{◌≡◌, ◌⊎◌, ◌+◌, ◌<◌, ◌≤◌, true, List, length, Option}
use Rattle.tsig_port.specs.Tsig.{compose_len}
use Rattle.tsig_port.specs.Checked.{taken_message}
use Rattle.tsig_port.specs.ServerCheck.{Verdict, reply_to}
use Rattle.tsig_port.specs.ServerCheck.Verdict.{NoTsig, Accepted, Refused, BadTime}
use Rattle.xfr_services.specs.Items.{Sending}
pub use Rattle.xfr_services.specs.LongReplies.{fails, bare_len, longest_tsig, RepliesFailWhereLong}
use Rattle.xfr_services.specs.declared.requests.Request.{Request}

-- a service fails only where the questions alone pass 65,535 octets
abbrev pub FailsWhereLong : {M : Type 0} → (Request M → Option (List Sending) → Type 0) → Type 0
FailsWhereLong Sends = (r : Request _) (sent : Option (List Sending)) → Sends r sent → fails sent ≡ true → 65535 < bare_len r.message

-- a reply to a request by what was found of it can't be made: its questions pass 65,535 octets, as received or as handed on; where it was
-- accepted, with the key's TSIG; where it is refused, the reply that tells the error does
abbrev pub IsTooLong : {M : Type 0} → Request M → Verdict → Type 0
IsTooLong r NoTsig = 65535 < bare_len r.message
IsTooLong r (Accepted key) = (65535 < bare_len r.message + compose_len key) ⊎ (65535 < bare_len (taken_message r.message))
IsTooLong r (Refused error) = 65535 < length (reply_to (Refused error) r.message r.message r.at)
IsTooLong r (BadTime key) = 65535 < length (reply_to (BadTime key) r.message r.message r.at)

-- the key that signs a refusal, where there is one, has a TSIG no longer than one can be, with the server's time as other data
abbrev pub HasShortKey : Verdict → Type 0
HasShortKey NoTsig = Unit {0}
HasShortKey (Accepted key) = Unit {0}
HasShortKey (Refused error) = Unit {0}
HasShortKey (BadTime key) = compose_len key + 6 ≤ longest_tsig
