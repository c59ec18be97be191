-- Which messages the state of a signed exchange stands for, one fact for each of its fields.
use Rattle.std.specs.Prelude.{◌≡◌, ◌↔◌, ℕ, Bool, true, false, List, [], length, nat_lt, not, ◌≢◌, IsTrue, Option, Some, None, unwrap_or, IsSomeAnd, Result, Ok, Err, if◌then◌else◌}
use Rattle.std.specs.List.{last_or}
use Rattle.dns_numbers.specs.Codes.{formerr, badsig, badtime, badtrunc}
use Rattle.tsig_port.specs.Tsig.{TsigKey, Tsig, Signature, with_len, tsig_in, mac_in, is_mac}
use Rattle.tsig_port.specs.Tsig.Signature.{Malformed, Unsigned, Signed}
use Rattle.tsig_port.specs.Checked.{answer_fault, prior_mac, taken_message}
use Rattle.tsig_port.specs.ServerCheck.{Verdict}
use Rattle.tsig_port.specs.ServerCheck.Verdict.{NoTsig, Accepted, Refused, BadTime}
use Rattle.tsig_port.specs.HmacState.{HoldsHmac}
use Rattle.tsig_port.specs.declared.errors.ValidationError.{ValidationError}
use Rattle.tsig_port.specs.declared.errors.ValidationError.TheVariants.{FormErr, ServerUnsigned, TooManyUnsigned}
use Rattle.tsig_port.specs.declared.client.ClientSequence.{ClientSequence}
use Rattle.tsig_port.specs.declared.server.ServerSequence.{ServerSequence}
use Rattle.tsig_port.specs.declared.server.ServerError.{ServerError}
use Rattle.tsig_port.specs.declared.server.ServerError.TheVariants as errors

-- what is digested before the next answer: the prior MAC, or that of the request, with its length (RFC 8945, 5.3 and 5.3.1)
abbrev pub digested_before : List ℕ → Option (List ℕ) → List ℕ
digested_before request_mac prior = with_len (unwrap_or prior request_mac)

-- the client's state, after a request with this MAC and the messages taken since
pub record ClientStands {K : Type 0} (the_key : K → TsigKey) (s : ClientSequence K) (request_mac : List ℕ) (taken : List (List ℕ)) : Type 0 where
  pub context : HoldsHmac s.context (the_key s.key).algorithm (the_key s.key).secret (digested_before request_mac (prior_mac taken))
  pub first : IsTrue s.first ↔ (taken ≡ [])

-- an answer is taken where no test fails, and is then without its TSIG; else it is refused with the first test's fault, and stays
abbrev pub Answers : TsigKey → List ℕ → ℕ → List (List ℕ) → List ℕ → Result (Unit {0}) ValidationError → List ℕ → Type 0
Answers key request_mac now taken old (Ok u) new = (answer_fault key request_mac now taken old ≡ None) × (new ≡ taken_message old)
Answers key request_mac now taken old (Err e) new = (answer_fault key request_mac now taken old ≡ Some e) × (new ≡ old)

-- the fault of an answer, the first or a later one, whose TSIG isn't there to be checked (RFC 8945, 5.2 and 5.3)
abbrev pub bare_fault : Bool → Signature → Option ValidationError
bare_fault first Malformed = Some FormErr
bare_fault true Unsigned = Some ServerUnsigned
bare_fault false Unsigned = Some TooManyUnsigned
bare_fault first (Signed start owner t) = None

-- the server's state, after a request with this MAC and signed answers with those MACs
pub record ServerStands {K : Type 0} (the_key : K → TsigKey) (s : ServerSequence K) (request_mac : List ℕ) (macs : List (List ℕ)) : Type 0 where
  pub context : HoldsHmac s.context (the_key s.key).algorithm (the_key s.key).secret (digested_before request_mac (last_or None macs))
  pub first : IsTrue s.first ↔ (macs ≡ [])

-- what is wrong with a request's MAC, by what is digested for it: its length, or its octets (RFC 8945, 5.2.4 and 5.2.2)
abbrev pub mac_fault : TsigKey → List ℕ → Tsig → Option ℕ
mac_fault key input t =
    if nat_lt (length t.mac) key.min_mac_len then Some badtrunc
    else if not (is_mac key input t.mac) then Some badsig
    else None

-- the refusal of a request at a moment, by what the server found of it
abbrev pub RefusalOf : {K : Type 0} → (K → TsigKey) → Verdict → List ℕ → ℕ → ServerError K → Type 0
RefusalOf the_key (Refused error) request now errors.Formerr = error ≡ formerr
RefusalOf the_key (Refused error) request now (errors.Unsigned code) = (code ≡ error) × (error ≢ formerr)
RefusalOf the_key (BadTime key) request now (errors.BadTime k context time_signed fudge server) = (the_key k ≡ key) × (server ≡ now)
    × IsSomeAnd (tsig_in request) (λ t. (time_signed ≡ t.time_signed) × (fudge ≡ t.fudge) × HoldsHmac context key.algorithm key.secret (with_len t.mac))
RefusalOf the_key _ request now _ = ⊥

-- the TSIG error of a refusal, and RCODE FORMERR where it has none (RFC 8945, 3 and 5.2)
abbrev pub error_of : {K : Type 0} → ServerError K → ℕ
error_of errors.Formerr = formerr
error_of (errors.Unsigned code) = code
error_of (errors.BadTime k context time_signed fudge server) = badtime

-- the same of what the server found of a request
abbrev pub error_found : Verdict → Option ℕ
error_found NoTsig = None
error_found (Accepted key) = None
error_found (Refused error) = Some error
error_found (BadTime key) = Some badtime

-- what the server's check answers of a request, and what it leaves of it
abbrev pub Requests : {K : Type 0} → (K → TsigKey) → Verdict → List ℕ → ℕ → Result (Option (ServerSequence K)) (ServerError K) → List ℕ → Type 0
Requests the_key found old now (Ok None) new = (found ≡ NoTsig) × (new ≡ old)
Requests the_key found old now (Ok (Some s)) new = (found ≡ Accepted (the_key s.key)) × (new ≡ taken_message old) × ServerStands the_key s (mac_in old) []
Requests the_key found old now (Err e) new = RefusalOf the_key found old now e × (new ≡ old)
