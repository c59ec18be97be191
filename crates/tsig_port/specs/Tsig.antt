-- TSIG (RFC 8945): the record, the octets that are digested, and the MAC.
use Rattle.std.specs.Prelude.{ℕ, ◌-◌, ◌==◌, Bool, List, [], ◌∷◌, ◌++◌, length, take, drop, slice_range, nat_eq, Option, Some, None, if◌then◌else◌}
use Rattle.std.specs.Option.{option_map_or}
use Rattle.std.specs.List.{starts_with}
use Rattle.dns_name.specs.Octets.{u16_octets, u32_octets, u48_octets}
use Rattle.dns_numbers.specs.Codes.{noerror, badtime, type_tsig, class_any}
use Rattle.dns_name.specs.Names.{Name, name_wire, fold}
use Rattle.dns_wire.specs.Wire.{id_in, arcount_in, with_additional}
use Rattle.dns_wire.specs.Parse.{Parsed, parsed}
use Rattle.dns_rdata.specs.Heads.{RawRecord}
use Rattle.tsig_port.specs.Hmac.{hmac}
pub use Rattle.tsig_keys.specs.TsigKeys.{algorithm_name, algorithm_of, is_mac_len, TsigKey, new_key, compose_len}
pub use Rattle.tsig_rdata.specs.TsigData.{Tsig, tsig_rest, tsig_wire, tsig_record, tsig_at, within_fudge}
unfoldable pub use Rattle.tsig_rdata.specs.TsigData.{tsig_of}

-- ---- how a message is signed

-- Malformed: the message doesn't parse, or its TSIG isn't readable or isn't the last record (RFC 8945, 5.2: FORMERR).
-- Unsigned: it parses, and has no TSIG in its additional section. Signed: its last record is a TSIG, which begins at start. A TSIG in the
-- answer or authority section is a record like any other there, which the MAC covers where there is one.
pub data Signature : Type 0 where
  Malformed : Signature
  Unsigned : Signature
  Signed : ℕ → Name → Tsig → Signature

-- whether the record is a TSIG (RFC 8945, 4.1)
abbrev pub is_tsig : RawRecord → Bool
is_tsig raw = raw.rtype == type_tsig

-- the signature by the last record, whose TSIG is readable or not
abbrev pub signature_by : RawRecord → Option Tsig → Signature
signature_by raw None = Malformed
signature_by raw (Some t) = Signed raw.start raw.owner t

-- the signature by the additional records (RFC 8945, 5.1 and 5.2)
abbrev pub signature_in : List ℕ → List RawRecord → Signature
signature_in message [] = Unsigned
signature_in message (raw ∷ []) = if is_tsig raw then signature_by raw (tsig_of message raw) else Unsigned
signature_in message (raw ∷ next ∷ rest) = if is_tsig raw then Malformed else signature_in message (next ∷ rest)

-- the same of what the message parses to
abbrev pub signature_parsed : List ℕ → Option Parsed → Signature
signature_parsed message None = Malformed
signature_parsed message (Some p) = signature_in message p.additional

-- how a received message is signed (RFC 8945, 5.2)
unfoldable pub signature_of : List ℕ → Signature
signature_of message = signature_parsed message (parsed message)

-- the TSIG of a signature that is one
abbrev pub tsig_by : Signature → Option Tsig
tsig_by Malformed = None
tsig_by Unsigned = None
tsig_by (Signed start owner t) = Some t

-- the message's readable TSIG, where it is the last record
abbrev pub tsig_in : List ℕ → Option Tsig
tsig_in message = tsig_by (signature_of message)

-- the MAC as its octets stand in the message, and no octets without a TSIG
abbrev pub mac_in : List ℕ → List ℕ
mac_in message = option_map_or (λ t. t.mac) (tsig_in message) []

-- ---- the octets that are digested (RFC 8945, 4.3)

-- the message after its TSIG was taken away: the original id, and ARCOUNT one less; no octet is cut off (RFC 8945, 4.3.2)
abbrev pub without_tsig : ℕ → List ℕ → List ℕ
without_tsig original_id message = u16_octets original_id ++ slice_range message 2 10 ++ u16_octets (arcount_in message - 1) ++ drop 12 message

-- the DNS message that is digested: that one, up to where the TSIG began (RFC 8945, 4.3.2)
abbrev pub digested_message : ℕ → ℕ → List ℕ → List ℕ
digested_message start original_id message = take start (without_tsig original_id message)

-- the TSIG variables (RFC 8945, 4.3.3)
abbrev pub variables : Name → Tsig → List ℕ
variables owner t = name_wire (fold owner) ++ u16_octets class_any ++ u32_octets 0 ++ name_wire (fold t.algorithm)
    ++ u48_octets t.time_signed ++ u16_octets t.fudge ++ u16_octets t.error ++ u16_octets (length t.other) ++ t.other

-- the timers, the variables of a later message (RFC 8945, 5.3.1)
abbrev pub timers : Tsig → List ℕ
timers t = u48_octets t.time_signed ++ u16_octets t.fudge

-- a MAC after its length in two octets (RFC 8945, 4.3.1 and 5.3.1)
abbrev pub with_len : List ℕ → List ℕ
with_len mac = u16_octets (length mac) ++ mac

-- what is digested for a request (RFC 8945, 5.1)
abbrev pub request_input : List ℕ → Name → Tsig → List ℕ
request_input message owner t = message ++ variables owner t

-- what is digested for a first answer (RFC 8945, 5.3)
abbrev pub first_input : List ℕ → List ℕ → Name → Tsig → List ℕ
first_input request_mac message owner t = with_len request_mac ++ message ++ variables owner t

-- what is digested for a later answer: the prior MAC, the message and the timers (RFC 8945, 5.3.1, where no message came unsigned)
abbrev pub later_input : List ℕ → List ℕ → Tsig → List ℕ
later_input prior_mac message t = with_len prior_mac ++ message ++ timers t

-- what is digested for an answer, from the request's MAC, and the MAC of the answer before it where there is one (RFC 8945, 5.3 and 5.3.1)
abbrev pub answer_input : List ℕ → Option (List ℕ) → List ℕ → Name → Tsig → List ℕ
answer_input request_mac None message owner t = first_input request_mac message owner t
answer_input request_mac (Some prior_mac) message owner t = later_input prior_mac message t

-- ---- the MAC

-- the whole MAC of some octets by a key (RFC 8945, 4.3)
abbrev pub mac_of : TsigKey → List ℕ → List ℕ
mac_of key input = hmac key.algorithm key.secret input

-- the MAC that is sent (RFC 8945, 5.2.2.1)
abbrev pub signing_mac : TsigKey → List ℕ → List ℕ
signing_mac key input = take key.signing_len (mac_of key input)

-- whether the received MAC is the first octets of the defined one (RFC 8945, 5.2.2.1)
abbrev pub is_mac : TsigKey → List ℕ → List ℕ → Bool
is_mac key input mac = starts_with nat_eq (mac_of key input) mac

-- ---- what a signer makes

-- the TSIG of a message before it has its MAC (RFC 8945, 4.2)
abbrev pub blank_tsig : TsigKey → ℕ → ℕ → ℕ → ℕ → List ℕ → Tsig
blank_tsig key time_signed fudge original_id error other = record {
  algorithm = algorithm_name key.algorithm;
  time_signed = time_signed;
  fudge = fudge;
  mac = [];
  original_id = original_id;
  error = error;
  other = other;
}

-- the TSIG with the key's MAC of what is digested (RFC 8945, 4.2)
abbrev pub with_mac : TsigKey → Tsig → List ℕ → Tsig
with_mac key t input = record t { mac = signing_mac key input }

-- the TSIG that signs a request (RFC 8945, 5.1)
abbrev pub request_tsig : TsigKey → List ℕ → ℕ → ℕ → Tsig
request_tsig key message time_signed fudge =
    let t = blank_tsig key time_signed fudge (id_in message) noerror [] in
    with_mac key t (request_input message key.name t)

-- the TSIG that signs an answer to a request with this MAC, after answers the last of which had that MAC (RFC 8945, 5.3 and 5.3.1)
abbrev pub answer_tsig : TsigKey → List ℕ → Option (List ℕ) → List ℕ → ℕ → ℕ → Tsig
answer_tsig key request_mac prior_mac message time_signed fudge =
    let t = blank_tsig key time_signed fudge (id_in message) noerror [] in
    with_mac key t (answer_input request_mac prior_mac message key.name t)

-- the TSIG that signs a BADTIME answer: the request's time and fudge, and the server's time as other data (RFC 8945, 5.2.3)
abbrev pub badtime_tsig : TsigKey → List ℕ → List ℕ → ℕ → ℕ → ℕ → Tsig
badtime_tsig key request_mac message time_signed fudge now =
    let t = blank_tsig key time_signed fudge (id_in message) badtime (u48_octets now) in
    with_mac key t (first_input request_mac message key.name t)

-- the message with the key's TSIG as its last record (RFC 8945, 5.1 and 5.3)
abbrev pub signed_by : TsigKey → List ℕ → Tsig → List ℕ
signed_by key message t = with_additional message (tsig_record key.name t)

-- a signed request and a signed answer, as they are sent (RFC 8945, 5.1 and 5.3)
abbrev pub signed_request : TsigKey → List ℕ → ℕ → ℕ → List ℕ
signed_request key message time_signed fudge = signed_by key message (request_tsig key message time_signed fudge)

abbrev pub signed_answer : TsigKey → List ℕ → Option (List ℕ) → List ℕ → ℕ → ℕ → List ℕ
signed_answer key request_mac prior_mac message time_signed fudge =
    signed_by key message (answer_tsig key request_mac prior_mac message time_signed fudge)

-- answers signed one after another at one moment, after answers the last of which had that MAC (RFC 8945, 5.3.1)
unfoldable pub signed_from : TsigKey → List ℕ → ℕ → ℕ → Option (List ℕ) → List (List ℕ) → List (List ℕ)
signed_from key request_mac time_signed fudge prior_mac [] = []
signed_from key request_mac time_signed fudge prior_mac (message ∷ messages) =
    signed_answer key request_mac prior_mac message time_signed fudge
    ∷ signed_from key request_mac time_signed fudge (Some (answer_tsig key request_mac prior_mac message time_signed fudge).mac) messages

-- all answers to a request with this MAC, signed in sequence (RFC 8945, 5.3.1)
abbrev pub signed_answers : TsigKey → List ℕ → ℕ → ℕ → List (List ℕ) → List (List ℕ)
signed_answers key request_mac time_signed fudge messages = signed_from key request_mac time_signed fudge None messages
