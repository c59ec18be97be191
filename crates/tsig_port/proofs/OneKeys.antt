-- Client and server of one key, each with lengths and a spelling of its own.
use Rattle.std.proofs.Common.{◌≡◌, ℕ, ◌<◌, ◌≤◌, ◌^◌, false, true, nat_lt, List, [], ◌∷◌, ◌++◌, length, refl, sym, ap, ◌∙◌, subst, arith, le-ltb, le-leb, nat_eq, Option, Some, None}
use Rattle.std.specs.Prelude.{map}
use Rattle.std.specs.Int.{abs_diff}
use Rattle.std.specs.List.{AllByRecursion, starts_with}
use Rattle.std.specs.Cmp.Lexicographic.{pointwise_decides, bytes_decides}
use Rattle.dns_name.specs.Names.{Name, fold, same_name, labels_eq}
use Rattle.dns_wire.specs.Wire.{Message, message_wire, id_in, header_in}
use Rattle.dns_rdata.specs.Records.{record_wire}
use Rattle.tsig_port.specs.Hmac.{hmac}
use Rattle.tsig_port.specs.Tsig.{TsigKey, Tsig, Signature, algorithm_name, algorithm_of, tsig_record, signature_of, digested_message, mac_in, blank_tsig, request_input, answer_input, request_tsig, signed_request, answer_tsig, signed_answer, signed_from, signed_answers, is_mac, within_fudge}
use Rattle.tsig_port.specs.Tsig.Signature.{Malformed, Unsigned, Signed}
use Rattle.tsig_port.specs.Checked.{prior_mac, signed_fault, fault_by, answer_fault, passing, checked, first_fault, check_fault, taken_message}
use Rattle.tsig_port.specs.ServerCheck.{key_for}
use Rattle.tsig_port.specs.Signing.{IsKey, CanSign}
use Rattle.tsig_port.specs.OneKey.{IsSigner, AreOneKey, RequestsAreAccepted, AnswersAreChecked, AnswersAreFaultless}
use Rattle.tsig_keys.specs.declared.algorithms.Algorithm.{Algorithm}
use Rattle.tsig_keys.specs.declared.algorithms.Algorithm.TheVariants.{Sha1, Sha256, Sha384, Sha512}
use Rattle.tsig_port.proofs.SignatureReading.{signature_written}
use Rattle.tsig_port.proofs.SignedExchange.{signer_tsig, signer_short, digested_again, length-mac, own_mac, mac_read}
use Rattle.tsig_port.proofs.SignedAnswers.{passes, prior_then, taken_is, signed_pass, signed_faultless}

-- ---- a key with another least length

-- it signs the same, and no message has more or less room
abbrev pub with_least : TsigKey → ℕ → TsigKey
with_least key least = record key { min_mac_len = least }

pub least_is_key : (key : TsigKey) (least : ℕ) → IsSigner key → least ≤ key.signing_len → IsKey (with_least key least)
least_is_key key least is enough = record { name = is.name; signing = is.signing; taken = enough }

pub signer_is_key : (key : TsigKey) → IsSigner key → IsKey (with_least key 0)
signer_is_key key is = least_is_key key 0 is (omega arith)

pub can_by_least : (key : TsigKey) (least : ℕ) (m : Message) → CanSign key m → CanSign (with_least key least) m
can_by_least key least m can = record { message = can.message; unsigned = can.unsigned; count = can.count; room = can.room }

pub all_by_least : (key : TsigKey) (least : ℕ) (ms : List Message) → AllByRecursion (CanSign key) ms → AllByRecursion (CanSign (with_least key least)) ms
all_by_least key least [] can = tt
all_by_least key least (m ∷ ms) can = (can_by_least key least m can.0, all_by_least key least ms can.1)

pub signed_by_least : (key : TsigKey) (least : ℕ) (request_mac : List ℕ) (at fudge : ℕ) (prior : Option (List ℕ)) (ms : List (List ℕ))
    → signed_from (with_least key least) request_mac at fudge prior ms ≡ signed_from key request_mac at fudge prior ms
unfolding signed_from
signed_by_least key least request_mac at fudge prior [] = refl
signed_by_least key least request_mac at fudge prior (m ∷ ms) =
    ap (λ l. signed_answer key request_mac prior m at fudge ∷ l) (signed_by_least key least request_mac at fudge (Some (answer_tsig key request_mac prior m at fudge).mac) ms)

-- ---- what a signer makes

module _ (key : TsigKey) (is : IsSigner key) (m : Message) (at fudge : ℕ) (early : at < 2 ^ 48) (small : fudge < 2 ^ 16) (can : CanSign key m) where
  abbrev bare : TsigKey
  bare = with_least key 0

  abbrev ok : IsKey bare
  ok = signer_is_key key is

  abbrev can_bare : CanSign bare m
  can_bare = can_by_least key 0 m can

  -- its request is read as signed, with its MAC
  pub request_read : signature_of (signed_request key (message_wire m) at fudge) ≡ Signed (length (message_wire m)) key.name (request_tsig key (message_wire m) at fudge)
  request_read =
      let input = request_input (message_wire m) key.name (blank_tsig key at fudge (id_in (message_wire m)) 0 []) in
      signature_written m key.name (request_tsig key (message_wire m) at fudge) can.message can.unsigned can.count is.name
      (signer_tsig bare m at fudge input ok early small can_bare) (signer_short bare m at fudge input ok can_bare)

  pub request_mac_read : mac_in (signed_request key (message_wire m) at fudge) ≡ (request_tsig key (message_wire m) at fudge).mac
  request_mac_read = mac_read bare m at fudge ok early small can_bare

  -- its answer is what the next one follows, and once it was taken is the message, and after its last counted item the TSIG
  module _ (request_mac : List ℕ) (now : ℕ) (near : abs_diff at now ≤ fudge) (prior : Option (List ℕ)) where
    pub answer_then : (taken : List (List ℕ)) → prior_mac (taken ++ signed_answer key request_mac prior (message_wire m) at fudge ∷ []) ≡ Some (answer_tsig key request_mac prior (message_wire m) at fudge).mac
    answer_then taken = prior_then bare request_mac at now fudge ok early small near taken prior m can_bare

    pub answer_left : taken_message (signed_answer key request_mac prior (message_wire m) at fudge) ≡ message_wire m ++ record_wire (tsig_record key.name (answer_tsig key request_mac prior (message_wire m) at fudge))
    answer_left = taken_is bare request_mac at now fudge ok early small near prior m can_bare

-- ---- what a client's tests read of its key

pub one_name : (client server : TsigKey) → AreOneKey client server → fold client.name ≡ fold server.name
one_name client server one = (pointwise_decides bytes_decides (fold client.name) (fold server.name)).0 one.name

named_alike : (owner : Name) (client server : TsigKey) → AreOneKey client server → same_name owner client.name ≡ same_name owner server.name
named_alike owner client server one = ap (λ n. labels_eq (fold owner) n) (one_name client server one)

mac_alike : (client server : TsigKey) → AreOneKey client server → (input mac : List ℕ) → is_mac client input mac ≡ is_mac server input mac
mac_alike client server one input mac = λ i. starts_with nat_eq (hmac (one.algorithm i) (one.secret i) input) mac

module _ (client server : TsigKey) (one : AreOneKey client server) where
  -- the server's key, with the client's least length
  abbrev pub twin : TsigKey
  twin = with_least server client.min_mac_len

  fault_alike : (now rcode : ℕ) (input : List ℕ) (owner : Name) (t : Tsig) → signed_fault client now rcode input owner t ≡ signed_fault twin now rcode input owner t
  fault_alike now rcode input owner t = rw (named_alike owner client server one, ap algorithm_name one.algorithm, mac_alike client server one input t.mac) refl

  by_signature : (request_mac : List ℕ) (now : ℕ) (taken : List (List ℕ)) (message : List ℕ) (s : Signature) → fault_by client request_mac now taken message s ≡ fault_by twin request_mac now taken message s
  by_signature request_mac now taken message Malformed = refl
  by_signature request_mac now taken message Unsigned = refl
  by_signature request_mac now taken message (Signed start owner t) =
      fault_alike now (header_in message).rcode (answer_input request_mac (prior_mac taken) (digested_message start t.original_id message) owner t) owner t

  pub answer_alike : (request_mac : List ℕ) (now : ℕ) (taken : List (List ℕ)) (message : List ℕ) → answer_fault client request_mac now taken message ≡ answer_fault twin request_mac now taken message
  answer_alike request_mac now taken message = by_signature request_mac now taken message (signature_of message)

  answers_alike : (request_mac : List ℕ) (now : ℕ) → answer_fault client request_mac now ≡ answer_fault twin request_mac now
  answers_alike request_mac now = λ i. λ taken message. answer_alike request_mac now taken message i

  module _ (request_mac : List ℕ) (at now fudge : ℕ) (is : IsSigner server) (early : at < 2 ^ 48) (small : fudge < 2 ^ 16) (near : abs_diff at now ≤ fudge) where
    twin_is_key : IsKey twin
    twin_is_key = least_is_key server client.min_mac_len is one.server_taken

    -- the server's answer passes each test of the client
    pub one_passes : (taken : List (List ℕ)) (prior : Option (List ℕ)) (m : Message) → CanSign server m → prior_mac taken ≡ prior
        → answer_fault client request_mac now taken (signed_answer server request_mac prior (message_wire m) at fudge) ≡ None
    one_passes taken prior m can is_prior =
        answer_alike request_mac now taken (signed_answer server request_mac prior (message_wire m) at fudge)
        ∙ passes twin request_mac at now fudge twin_is_key early small near taken prior m (can_by_least server client.min_mac_len m can) is_prior

-- ---- the statements

pub one_checked : AnswersAreChecked
one_checked client server request ms at now fudge is one early small near can =
    let k = twin client server one in
    let xs = signed_answers server (mac_in request) at fudge (map message_wire ms) in
    let same = signed_by_least server client.min_mac_len (mac_in request) at fudge None (map message_wire ms) in
    let all = signed_pass k request ms at now fudge (least_is_key server client.min_mac_len is one.server_taken) early small near (all_by_least server client.min_mac_len ms can) in
    ap (λ f. passing f [] xs) (answers_alike client server one (mac_in request) now) ∙ subst (λ (l : List (List ℕ)). checked k request now l ≡ l) same all

pub one_faultless : AnswersAreFaultless
one_faultless client server request ms at now fudge is one early small near can =
    let k = twin client server one in
    let xs = signed_answers server (mac_in request) at fudge (map message_wire ms) in
    let same = signed_by_least server client.min_mac_len (mac_in request) at fudge None (map message_wire ms) in
    let all = signed_faultless k request ms at now fudge (least_is_key server client.min_mac_len is one.server_taken) early small near (all_by_least server client.min_mac_len ms can) in
    ap (λ f. first_fault f [] xs) (answers_alike client server one (mac_in request) now) ∙ subst (λ (l : List (List ℕ)). check_fault k request now l ≡ None) same all

algorithm_again : (a : Algorithm) → algorithm_of (algorithm_name a) ≡ Some a
algorithm_again Sha1 = refl
algorithm_again Sha256 = refl
algorithm_again Sha384 = refl
algorithm_again Sha512 = refl

pub one_accepted : RequestsAreAccepted
one_accepted client server keys m at now fudge is one early small near can known =
    let M = message_wire m in
    let input = request_input M client.name (blank_tsig client at fudge (id_in M) 0 []) in
    let t = request_tsig client M at fudge in
    let signed = signed_request client M at fudge in
    let sig = request_read client is m at fudge early small can in
    let found : key_for keys client.name (algorithm_of t.algorithm) ≡ Some server = rw (algorithm_again client.algorithm) known in
    let long = length-mac client input is.signing in
    let enough = one.client_taken in
    let not_short : nat_lt (length t.mac) server.min_mac_len ≡ false = le-ltb _ _ (omega (arith, long, enough)) in
    let message_is = digested_again m (record_wire (tsig_record client.name t)) can.count can.message.id in
    let right : is_mac server (request_input (digested_message (length M) (id_in M) signed) client.name t) t.mac ≡ true =
    ap (λ x. is_mac server (request_input x client.name t) t.mac) message_is ∙ sym (mac_alike client server one input t.mac) ∙ own_mac client input is.signing in
    let in_time : within_fudge t now ≡ true = le-leb _ _ near in
    rw (sig, found, not_short, right, in_time) refl
