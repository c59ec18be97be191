-- How long the names of a received signature are, and so the reply that refuses it.
use Rattle.std.proofs.Common.{◌≡◌, ℕ, zero, suc, ◌+◌, ◌*◌, ◌≤◌, ◌<◌, Bool, true, false, cond, List, [], ◌∷◌, length, Option, Some, None, refl, ap, ◌∙◌, subst, arith, leb-true, lit≤}
use Rattle.std.specs.Prelude.{◌==◌, ◌&&◌, nat_lt, nat_le, IsTrue, Result, Ok, Err}
use Rattle.std.specs.List.{AllByRecursion}
use Rattle.std.proofs.lemmas.Bool.{and_parts}
use Rattle.dns_name.specs.Octets.{octets_at, u16_at, u32_at, u48_at, u48_octets}
use Rattle.dns_name.specs.Names.{Name, name_wire}
use Rattle.dns_name.specs.Compression.{name_at}
use Rattle.dns_name.proofs.NameReading.{name_at-NameAt, guarded}
use Rattle.dns_numbers.specs.Codes.{formerr, notauth, badtime}
use Rattle.dns_rdata.specs.Heads.{RawRecord, raw_record_at}
use Rattle.dns_rdata.specs.Records.{Record, record_wire}
use Rattle.dns_wire.specs.Parse.{Parsed, parsed, header_at, counts_at, question_at, items_at}
use Rattle.dns_wire.specs.Reply.{empty_answer}
use Rattle.dns_wire.specs.Wire.{Building, fits, id_in, message_wire, with_additional}
use Rattle.dns_wire.proofs.Places.{bound, held}
use Rattle.dns_wire.proofs.Questions.{item_length, wire_length}
use Rattle.tsig_keys.specs.Hmac.{native_len}
use Rattle.tsig_keys.specs.declared.algorithms.Algorithm.{Algorithm}
use Rattle.tsig_keys.specs.declared.algorithms.Algorithm.TheVariants.{Sha1, Sha256, Sha384, Sha512}
use Rattle.tsig_keys.specs.declared.digests.Hmac.{Hmac}
use Rattle.tsig_port.specs.Tsig.{TsigKey, Tsig, Signature, compose_len, is_mac_len, algorithm_name, is_tsig, signature_by, signature_in, signature_parsed, signature_of, tsig_of, tsig_at, tsig_wire, tsig_in, tsig_record, badtime_tsig, blank_tsig, first_input, mac_of}
use Rattle.tsig_port.specs.Tsig.Signature.{Malformed, Unsigned, Signed}
use Rattle.tsig_port.specs.ServerCheck.{Verdict, unsigned_error_by, badtime_reply_from, reply_to}
use Rattle.tsig_port.specs.ServerCheck.Verdict.{NoTsig, Accepted, Refused, BadTime}
use Rattle.tsig_port.specs.States.{RefusalOf}
use Rattle.tsig_port.specs.declared.server.ServerError.TheVariants as errors
use Rattle.tsig_port.proofs.ErrorReplies.{tsig_length}
use Rattle.xfr_services.specs.Items.{MakesBegun}
use Rattle.xfr_services.specs.LongReplies.{bare_len, longest_tsig, HasLongQuestions}
use Rattle.xfr_services.specs.Replying.{built}
use Rattle.xfr_services.specs.declared.services.ServiceError.{ServiceError}
use Rattle.xfr_services.specs.declared.services.ServiceError.TheVariants.{InternalError, Memory}
use Rattle.xfr_services.proofs.LongReplies.{too_long}
use Rattle.xfr_signing.specs.Failing.{HasShortKey}
use Rattle.xfr_signing.proofs.Room.{few_taken}

-- a name has at most 255 octets (RFC 1035, 2.3.4)
abbrev pub IsShortName : Name → Type 0
IsShortName n = length (name_wire n) < 256

abbrev pub HasShortOwner : RawRecord → Type 0
HasShortOwner raw = IsShortName raw.owner

abbrev pub IsShort : Signature → Type 0
IsShort Malformed = Unit {0}
IsShort Unsigned = Unit {0}
IsShort (Signed start owner t) = IsShortName owner × IsShortName t.algorithm

-- ---- what is read

read_short : (m : List ℕ) (p : ℕ) (r : Name × ℕ) → name_at m p ≡ Some r → IsShortName r.0
read_short m p r e = (name_at-NameAt m p r.0 r.1 e).3

owner_short : (m : List ℕ) (p : ℕ) (r : RawRecord × ℕ) → raw_record_at m p ≡ Some r → HasShortOwner r.0
unfolding raw_record_at
owner_short m p r e =
    let (n, named, e1) = bound (name_at m p) _ r e in
    let (t, typed, e2) = bound (u16_at m n.1) _ r e1 in
    let (c, classed, e3) = bound (u16_at m t.1) _ r e2 in
    let (l, timed, e4) = bound (u32_at m c.1) _ r e3 in
    let (d, counted, e5) = bound (u16_at m l.1) _ r e4 in
    let (o, filled, e6) = bound (octets_at d.0 m d.1) _ r e5 in
    let is : n.0 ≡ r.0.owner = ap (λ (y : RawRecord × ℕ). y.0.owner) (held _ r e6) in
    subst IsShortName is (read_short m p n named)

items_short : (m : List ℕ) (n p : ℕ) (r : List RawRecord × ℕ) → items_at (raw_record_at m) n p ≡ Some r → AllByRecursion HasShortOwner r.0
unfolding items_at
items_short m zero p r e = subst (λ (y : List RawRecord × ℕ). AllByRecursion HasShortOwner y.0) (held _ r e) tt
items_short m (suc n) p r e =
    let (first, is, e1) = bound (raw_record_at m p) _ r e in
    let (others, are, e2) = bound (items_at (raw_record_at m) n first.1) _ r e1 in
    subst (λ (y : List RawRecord × ℕ). AllByRecursion HasShortOwner y.0) (held _ r e2) (owner_short m p first is, items_short m n first.1 others are)

parsed_short : (m : List ℕ) (p : Parsed) → parsed m ≡ Some p → AllByRecursion HasShortOwner p.additional
unfolding parsed
parsed_short m p e =
    let (h, headed, e1) = bound (header_at m 0) _ p e in
    let (c, counted, e2) = bound (counts_at m h.1) _ p e1 in
    let (q, asked, e3) = bound (items_at (question_at m) c.0.qdcount c.1) _ p e2 in
    let (a, answered, e4) = bound (items_at (raw_record_at m) c.0.ancount q.1) _ p e3 in
    let (n, named, e5) = bound (items_at (raw_record_at m) c.0.nscount a.1) _ p e4 in
    let (d, added, e6) = bound (items_at (raw_record_at m) c.0.arcount n.1) _ p e5 in
    subst (λ (y : Parsed). AllByRecursion HasShortOwner y.additional) (held _ p e6) (items_short m c.0.arcount n.1 d added)

algorithm_short : (m : List ℕ) (raw : RawRecord) (t : Tsig) → tsig_of m raw ≡ Some t → IsShortName t.algorithm
unfolding tsig_of
algorithm_short m raw t e =
    let (r, read, rest) = bound (tsig_at m raw.rdata) _ t e in
    let (whole, same) = guarded (r.1 == raw.rdata + raw.rdlength && nat_lt (length (tsig_wire r.0)) 65536) r.0 t rest in
    let (n, named, e1) = bound (name_at m raw.rdata) _ r read in
    let (a1, b1, e2) = bound (u48_at m n.1) _ r e1 in
    let (a2, b2, e3) = bound (u16_at m a1.1) _ r e2 in
    let (a3, b3, e4) = bound (u16_at m a2.1) _ r e3 in
    let (a4, b4, e5) = bound (octets_at a3.0 m a3.1) _ r e4 in
    let (a5, b5, e6) = bound (u16_at m a4.1) _ r e5 in
    let (a6, b6, e7) = bound (u16_at m a5.1) _ r e6 in
    let (a7, b7, e8) = bound (u16_at m a6.1) _ r e7 in
    let (a8, b8, e9) = bound (octets_at a7.0 m a7.1) _ r e8 in
    let is : n.0 ≡ t.algorithm = ap (λ (y : Tsig × ℕ). y.0.algorithm) (held _ r e9) ∙ ap (λ (y : Tsig). y.algorithm) same in
    subst IsShortName is (read_short m raw.rdata n named)

by_tsig : (m : List ℕ) (raw : RawRecord) (t : Option Tsig) → tsig_of m raw ≡ t → HasShortOwner raw → IsShort (signature_by raw t)
by_tsig m raw None e short = tt
by_tsig m raw (Some t) e short = (short, algorithm_short m raw t e)

by_last : (m : List ℕ) (raw : RawRecord) (tsig : Bool) → HasShortOwner raw → IsShort (cond tsig (signature_by raw (tsig_of m raw)) Unsigned)
by_last m raw true short = by_tsig m raw (tsig_of m raw) refl short
by_last m raw false short = tt

by_next : (tsig : Bool) (rest : Signature) → IsShort rest → IsShort (cond tsig Malformed rest)
by_next true rest short = tt
by_next false rest short = short

in_short : (m : List ℕ) (raws : List RawRecord) → AllByRecursion HasShortOwner raws → IsShort (signature_in m raws)
in_short m [] short = tt
in_short m (raw ∷ []) short = by_last m raw (is_tsig raw) short.0
in_short m (raw ∷ next ∷ rest) short = by_next (is_tsig raw) (signature_in m (next ∷ rest)) (in_short m (next ∷ rest) short.1)

by_parsed : (m : List ℕ) (p : Option Parsed) → parsed m ≡ p → IsShort (signature_parsed m p)
by_parsed m None e = tt
by_parsed m (Some p) e = in_short m p.additional (parsed_short m p e)

signature_short : (m : List ℕ) → IsShort (signature_of m)
unfolding signature_of
signature_short m = by_parsed m (parsed m) refl

-- ---- the reply that refuses

empty_length : (m : List ℕ) (rcode : ℕ) → length (message_wire (empty_answer m rcode)) ≡ bare_len m
empty_length m rcode = refl

abbrev IsWithin : List ℕ → List ℕ → Type 0
IsWithin m reply = length reply ≤ bare_len m + longest_tsig

empty_within : (m : List ℕ) (rcode : ℕ) → IsWithin m (message_wire (empty_answer m rcode))
empty_within m rcode = omega (arith, empty_length m rcode)

added : (m : List ℕ) (r : Record) → length (with_additional (message_wire (empty_answer m notauth)) r) ≡ bare_len m + length (record_wire r)
added m r = item_length 10 (message_wire (empty_answer m notauth)) (record_wire r) (omega (arith, wire_length (empty_answer m notauth)))

by_signature : (m : List ℕ) (error : ℕ) (signature : Signature) → IsShort signature → IsWithin m (unsigned_error_by m error signature)
by_signature m error Malformed short = empty_within m 2
by_signature m error Unsigned short = empty_within m 2
by_signature m error (Signed start owner t) short =
    let made : Tsig = record t { mac = []; original_id = id_in m; error = error; other = [] } in
    omega (arith, added m (tsig_record owner made), tsig_length owner made, short.0, short.1)

by_error : (m : List ℕ) (error : ℕ) (form : Bool) → IsWithin m (cond form (message_wire (empty_answer m formerr)) (unsigned_error_by m error (signature_of m)))
by_error m error true = empty_within m formerr
by_error m error false = by_signature m error (signature_of m) (signature_short m)

by_received : (m : List ℕ) (key : TsigKey) (now : ℕ) (t : Option Tsig) → compose_len key + 6 ≤ longest_tsig → IsWithin m (badtime_reply_from key m now t)
by_received m key now None short = empty_within m 2
by_received m key now (Some t) short =
    let base = message_wire (empty_answer m notauth) in
    let made = badtime_tsig key t.mac base t.time_signed t.fudge now in
    let blank = blank_tsig key t.time_signed t.fudge (id_in base) badtime (u48_octets now) in
    omega (
      arith,
      added m (tsig_record key.name made),
      tsig_length key.name made,
      few_taken key.signing_len (mac_of key (first_input t.mac base key.name blank)),
      short,
    )

reply_within : (found : Verdict) (m : List ℕ) (now : ℕ) → HasShortKey found → IsWithin m (reply_to found m m now)
reply_within NoTsig m now short = empty_within m 2
reply_within (Accepted key) m now short = empty_within m 2
reply_within (Refused error) m now short = by_error m error (error == formerr)
reply_within (BadTime key) m now short = by_received m key now (tsig_in m) short

none_built : (octets : List ℕ) (fit : Bool) → fits 65535 octets ≡ fit → ◌≡◌ {A = Option Building} (cond fit (Some (record { octets = octets; limit = 65535 })) None) None → 65535 < length octets
none_built octets true is e = cc
none_built octets false is e = too_long octets is

-- where that can't be made, the questions are too long
refusal_long : (found : Verdict) (m : List ℕ) (now : ℕ) → HasShortKey found → built (reply_to found m m now) ≡ None → HasLongQuestions m
refusal_long found m now short none =
    let reply = reply_to found m m now in
    record { as_read = m; same = (refl, refl); long = omega (arith, none_built reply (fits 65535 reply) refl none, reply_within found m now short) }

pub refusal_cause : (found : Verdict) (m : List ℕ) (now : ℕ) → HasShortKey found → (result : Result Building ServiceError) → MakesBegun (built (reply_to found m m now)) result
    → result ≡ Err InternalError → HasLongQuestions m
refusal_cause found m now short (Ok reply) made is = absurd (cc is)
refusal_cause found m now short (Err InternalError) made is = refusal_long found m now short made
refusal_cause found m now short (Err Memory) made is = absurd (cc is)

-- ---- a key's TSIG

algorithm_length : (a : Algorithm) → length (name_wire (algorithm_name a)) ≤ 255
algorithm_length Sha1 = lit≤ tt
algorithm_length Sha256 = lit≤ tt
algorithm_length Sha384 = lit≤ tt
algorithm_length Sha512 = lit≤ tt

native_small : (a : Algorithm) → native_len a ≤ 64
native_small Sha1 = lit≤ tt
native_small Sha256 = lit≤ tt
native_small Sha384 = lit≤ tt
native_small Sha512 = lit≤ tt

pub key_short : (key : TsigKey) → IsShortName key.name → IsTrue (is_mac_len key.algorithm key.signing_len) → compose_len key + 6 ≤ longest_tsig
key_short key named bounds =
    let parts = and_parts (nat_le 10 key.signing_len && nat_le (native_len key.algorithm) (2 * key.signing_len)) (nat_le key.signing_len (native_len key.algorithm)) bounds in
    omega (arith, named, algorithm_length key.algorithm, native_small key.algorithm, leb-true key.signing_len (native_len key.algorithm) parts.1)

-- .. of a refusal for the time, which alone has one
pub refusing_key : {K : Type 0} (the_key : K → TsigKey) (found : Verdict) (request : List ℕ) (now : ℕ) (k : K) (context : Hmac) (time_signed fudge server : ℕ) (key : TsigKey)
    → key ≡ the_key k → compose_len key + 6 ≤ longest_tsig → RefusalOf the_key found request now (errors.BadTime k context time_signed fudge server) → HasShortKey found
refusing_key the_key NoTsig request now k context time_signed fudge server key is short of = absurd of
refusing_key the_key (Accepted other) request now k context time_signed fudge server key is short of = absurd of
refusing_key the_key (Refused error) request now k context time_signed fudge server key is short of = absurd of
refusing_key the_key (BadTime other) request now k context time_signed fudge server key is short of = subst (λ x. compose_len x + 6 ≤ longest_tsig) (is ∙ of.0) short

pub formerr_key : {K : Type 0} (the_key : K → TsigKey) (found : Verdict) (request : List ℕ) (now : ℕ) → RefusalOf the_key found request now errors.Formerr → HasShortKey found
formerr_key the_key NoTsig request now of = absurd of
formerr_key the_key (Accepted other) request now of = absurd of
formerr_key the_key (Refused error) request now of = tt
formerr_key the_key (BadTime other) request now of = absurd of

pub unsigned_key : {K : Type 0} (the_key : K → TsigKey) (found : Verdict) (request : List ℕ) (now code : ℕ) → RefusalOf the_key found request now (errors.Unsigned code) → HasShortKey found
unsigned_key the_key NoTsig request now code of = absurd of
unsigned_key the_key (Accepted other) request now code of = absurd of
unsigned_key the_key (Refused error) request now code of = tt
unsigned_key the_key (BadTime other) request now code of = absurd of
