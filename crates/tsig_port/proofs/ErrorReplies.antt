-- Steps of the replies to refused requests.
use Rattle.std.proofs.Common.{◌≡◌, ℕ, ◌+◌, ◌-◌, ◌<◌, ◌≤◌, min, nat_le, true, false, List, [], ◌++◌, length, length-append, ap, ◌∙◌, subst, Result, Err, Option, Some, None, lit<, arith}
use Rattle.std.specs.Prelude.{IsSomeAnd, IsTrue}
use Rattle.std.proofs.lemmas.Bool.Decides.{nat_tests}
use Rattle.std.proofs.lemmas.Nat.{from_be_bytes-to_be_bytes_2}
use Rattle.dns_name.specs.Octets.{u16_octets, u32_octets, u48_octets}
use Rattle.dns_name.specs.Names.{Name, name_wire}
use Rattle.dns_numbers.specs.Codes.{notauth, badtime, type_tsig, class_any}
use Rattle.dns_rdata.specs.Records.{record_wire, data_wire}
use Rattle.dns_wire.specs.Wire.{Building, id_in, arcount_in, message_wire, with_item, with_additional}
use Rattle.dns_wire.specs.Reply.{empty_answer}
use Rattle.dns_wire.specs.Builds.{Builds, building}
use Rattle.dns_wire.specs.declared.builder.PushError.{PushError}
use Rattle.dns_wire.specs.declared.builder.PushError.TheVariants.{ShortBuf, CountOverflow, Memory}
use Rattle.dns_wire.proofs.Questions.{item_length, wire_length}
use Rattle.tsig_port.proofs.SignedExchange.{length-mac}
use Rattle.tsig_port.specs.Tsig.{TsigKey, Tsig, is_mac_len, compose_len, tsig_in, with_len, tsig_rest, tsig_record, blank_tsig, first_input, badtime_tsig}
use Rattle.tsig_port.specs.HmacState.{HoldsHmac}
use Rattle.tsig_port.specs.ServerCheck.{Verdict, unsigned_error, badtime_reply, badtime_reply_from, reply_to}
use Rattle.tsig_port.specs.ServerCheck.Verdict.{NoTsig, Accepted, Refused, BadTime}
use Rattle.tsig_port.specs.States.{RefusalOf}
use Rattle.tsig_keys.specs.declared.digests.Hmac.{Hmac}
use Rattle.tsig_port.specs.declared.server.ServerError.TheVariants as errors

-- an answer without records counts no additional record
pub none_counted : (request : List ℕ) (rcode : ℕ) → arcount_in (message_wire (empty_answer request rcode)) ≡ 0
none_counted request rcode = from_be_bytes-to_be_bytes_2 0 (lit< tt)

-- the octets of NOTAUTH, before a TSIG is put on it
abbrev pub refusal_of : List ℕ → List ℕ
refusal_of request = message_wire (empty_answer request notauth)

-- ---- room for the TSIG

with_tsig_length : (request item : List ℕ) → length (with_item 10 (refusal_of request) item) ≡ length (refusal_of request) + length item
with_tsig_length request item = item_length 10 (refusal_of request) item (omega (arith, wire_length (empty_answer request notauth)))

-- a message and so many octets have room where the message has it under a limit that is so much less
has_room : (n m limit room : ℕ) → m ≡ n + room → room ≤ min limit 65535 → nat_le n (min (min limit 65535 - room) 65535) ≡ true → nat_le m (min limit 65535) ≡ true
has_room n m limit room long some h = grind (arith, nat_tests)

lacks_room : (n m limit room : ℕ) → m ≡ n + room → room ≤ min limit 65535 → nat_le n (min (min limit 65535 - room) 65535) ≡ false → nat_le m (min limit 65535) ≡ false
lacks_room n m limit room long some h = grind (arith, nat_tests)

past_limit : (n m limit room : ℕ) → m ≡ n + room → min limit 65535 < room → nat_le m (min limit 65535) ≡ false
past_limit n m limit room long more = grind (arith, nat_tests)

whole_length : (request item : List ℕ) (room : ℕ) → length item ≡ room → length (with_item 10 (refusal_of request) item) ≡ length (refusal_of request) + room
whole_length request item room long = with_tsig_length request item ∙ ap (λ n. length (refusal_of request) + n) long

-- a TSIG that passes the limit by itself has no room
pub tsig_too_long : (request item : List ℕ) (limit room : ℕ) → length item ≡ room → min limit 65535 < room → Builds (with_item 10 (refusal_of request) item) limit (Err ShortBuf)
tsig_too_long request item limit room long more = past_limit _ _ limit room (whole_length request item room long) more

-- what refuses NOTAUTH where room is left for the TSIG refuses the whole reply
pub whole_refused : (request item : List ℕ) (limit room : ℕ) (e : PushError) → length item ≡ room → room ≤ min limit 65535
    → Builds (refusal_of request) (min limit 65535 - room) (Err e) → Builds (with_item 10 (refusal_of request) item) limit (Err e)
whole_refused request item limit room ShortBuf long some refused = lacks_room _ _ limit room (whole_length request item room long) some refused
whole_refused request item limit room CountOverflow long some refused = refused
whole_refused request item limit room Memory long some refused = has_room _ _ limit room (whole_length request item room long) some refused

-- the octets of a TSIG record
rest_length : (t : Tsig) → length (tsig_rest t) ≡ 16 + length t.mac + length t.other
rest_length t =
    let front = u48_octets t.time_signed ++ u16_octets t.fudge ++ u16_octets (length t.mac) in
    let a = front ++ t.mac in
    let b = a ++ u16_octets t.original_id in
    let c = b ++ u16_octets t.error in
    let d = c ++ u16_octets (length t.other) in
    omega (
      arith,
      length-append front t.mac,
      length-append a (u16_octets t.original_id),
      length-append b (u16_octets t.error),
      length-append c (u16_octets (length t.other)),
      length-append d t.other,
    )

pub tsig_length : (owner : Name) (t : Tsig) → length (record_wire (tsig_record owner t)) ≡ length (name_wire owner) + 10 + length (name_wire t.algorithm) + (16 + length t.mac + length t.other)
tsig_length owner t =
    let fields = (tsig_record owner t).fields in
    let o = name_wire owner in
    let a = o ++ u16_octets type_tsig in
    let b = a ++ u16_octets class_any in
    let c = b ++ u32_octets 0 in
    let d = c ++ u16_octets (length (data_wire fields)) in
    omega (
      arith,
      rest_length t,
      length-append o (u16_octets type_tsig),
      length-append a (u16_octets class_any),
      length-append b (u32_octets 0),
      length-append c (u16_octets (length (data_wire fields))),
      length-append d (data_wire fields),
      length-append (name_wire t.algorithm) (tsig_rest t ++ []),
      length-append (tsig_rest t) [],
    )

-- that of a BADTIME reply
pub badtime_length : (key : TsigKey) (request_mac message : List ℕ) (at fudge now : ℕ) → IsTrue (is_mac_len key.algorithm key.signing_len)
    → length (record_wire (tsig_record key.name (badtime_tsig key request_mac message at fudge now))) ≡ compose_len key + 6
badtime_length key request_mac message at fudge now bounds =
    let blank = blank_tsig key at fudge (id_in message) badtime (u48_octets now) in
    omega (
      arith,
      tsig_length key.name (badtime_tsig key request_mac message at fudge now),
      length-mac key (first_input request_mac message key.name blank) bounds,
    )

-- ---- the replies

-- the TSIG put on NOTAUTH is the request's with the error
pub unsigned_built : (request : List ℕ) (limit error id : ℕ) (owner named : Name) (t made : Tsig) (reply : Building) (result : Result Building PushError)
    → reply ≡ building (refusal_of request) limit → id ≡ id_in request → named ≡ owner → made ≡ record t { mac = []; original_id = id; error = error; other = [] }
    → (arcount_in reply.octets ≡ 0 → Builds (with_additional reply.octets (tsig_record named made)) reply.limit result)
    → Builds (unsigned_error request owner t error) limit result
unsigned_built request limit error id owner named t made reply result built same_id same_owner is put =
    let M = refusal_of request in
    let P : Building → Type 0 = λ b. arcount_in b.octets ≡ 0 → Builds (with_additional b.octets (tsig_record named made)) b.limit result in
    let all : made ≡ record t { mac = []; original_id = id_in request; error = error; other = [] } =
    is ∙ ap (λ (i : ℕ). record t { mac = []; original_id = i; error = error; other = [] }) same_id in
    subst (λ (n : Name). Builds (with_additional M (tsig_record n (record t { mac = []; original_id = id_in request; error = error; other = [] }))) limit result) same_owner
    (subst (λ (x : Tsig). Builds (with_additional M (tsig_record named x)) limit result) all (subst P built put (none_counted request notauth)))

-- the TSIG by which the request was refused is there
by_tsig : (key : TsigKey) (request : List ℕ) (now limit at fudge : ℕ) (context : Hmac) (result : Result Building PushError) (o : Option Tsig)
    → ((mac : List ℕ) → HoldsHmac context key.algorithm key.secret (with_len mac) → Builds (badtime_reply key mac request at fudge now) limit result)
    → IsSomeAnd o (λ t. (at ≡ t.time_signed) × (fudge ≡ t.fudge) × HoldsHmac context key.algorithm key.secret (with_len t.mac))
    → Builds (badtime_reply_from key request now o) limit result
by_tsig key request now limit at fudge context result None put there = absurd there
by_tsig key request now limit at fudge context result (Some t) put (same_time, same_fudge, holds) =
    subst (λ (n : ℕ). Builds (badtime_reply key t.mac request t.time_signed n now) limit result) same_fudge
    (subst (λ (n : ℕ). Builds (badtime_reply key t.mac request n fudge now) limit result) same_time (put t.mac holds))

pub badtime_built : {K : Type 0} (the_key : K → TsigKey) (found : Verdict) (received request : List ℕ) (now limit : ℕ) (k : K) (kept : TsigKey) (context : Hmac) (at fudge server : ℕ)
    (reply : Building) (result : Result Building PushError) → kept ≡ the_key k → reply ≡ building (refusal_of request) limit
    → ((mac : List ℕ) → HoldsHmac context kept.algorithm kept.secret (with_len mac) → arcount_in reply.octets ≡ 0
    → Builds (with_additional reply.octets (tsig_record kept.name (badtime_tsig kept mac reply.octets at fudge server))) reply.limit result)
    → RefusalOf the_key found received now (errors.BadTime k context at fudge server)
    → Builds (reply_to found received request now) limit result
badtime_built the_key NoTsig received request now limit k kept context at fudge server reply result same_key built put refusal = absurd refusal
badtime_built the_key (Accepted key) received request now limit k kept context at fudge server reply result same_key built put refusal = absurd refusal
badtime_built the_key (Refused error) received request now limit k kept context at fudge server reply result same_key built put refusal = absurd refusal
badtime_built the_key (BadTime key) received request now limit k kept context at fudge server reply result same_key built put (its_key, its_moment, there) =
    let P : Building → Type 0 = λ b. (mac : List ℕ) → HoldsHmac context kept.algorithm kept.secret (with_len mac) → arcount_in b.octets ≡ 0
    → Builds (with_additional b.octets (tsig_record kept.name (badtime_tsig kept mac b.octets at fudge server))) b.limit result in
    let here = subst P built put in
    let by : (mac : List ℕ) → HoldsHmac context kept.algorithm kept.secret (with_len mac) → Builds (badtime_reply kept mac request at fudge server) limit result =
    λ mac holds. here mac holds (none_counted request notauth) in
    let Q : TsigKey → Type 0 = λ x. (mac : List ℕ) → HoldsHmac context x.algorithm x.secret (with_len mac) → Builds (badtime_reply x mac request at fudge server) limit result in
    let R : ℕ → Type 0 = λ n. (mac : List ℕ) → HoldsHmac context key.algorithm key.secret (with_len mac) → Builds (badtime_reply key mac request at fudge n) limit result in
    by_tsig key request now limit at fudge context result (tsig_in received) (subst R its_moment (subst Q (same_key ∙ its_key) by)) there
