-- The signed request as its primary reads it.
use Rattle.std.proofs.Common.{◌≡◌, ℕ, ◌+◌, ◌*◌, ◌^◌, ◌<◌, ◌≤◌, true, false, ◌&&◌, ◌==◌, nat_le, if◌then◌else◌, List, [], ◌∷◌, ◌++◌, length, length-append, append_assoc, append-nil, add-zero, map, take, drop, refl, sym, ap, ◌∙◌, subst, true≢false, arith, Option, Some, None, unwrap_or, lit<, lit≤, le-leb, leb-true, eqb-true, eq-eqb}
use Rattle.std.specs.Prelude.{flat_map, option_map, option_and_then, filter_map}
use Rattle.std.specs.Option.{option_map_or}
use Rattle.std.specs.List.{AllByRecursion}
use Rattle.std.specs.Cmp.{first_so, second_so}
use Rattle.std.specs.Cmp.Lexicographic.{pointwise}
use Rattle.std.proofs.lemmas.Bool.{and_parts}
use Rattle.std.proofs.lemmas.Nat.{from_be_bytes-to_be_bytes_2}
use Rattle.dns_name.specs.Names.{name_wire, is_name}
use Rattle.dns_name.specs.Octets.{u16_octets, u32_octets}
use Rattle.dns_numbers.specs.Codes.{type_soa}
use Rattle.dns_name.proofs.WireForms.{name_short}
use Rattle.dns_rdata.specs.Records.{Field, Octets, DomainName, Record, Exactly, Named, part_allows, parts, is_data, field_wire, data_wire, record_wire}
use Rattle.dns_rdata.specs.Heads.{readable}
use Rattle.dns_rdata.specs.Soa.{serial_of}
use Rattle.dns_wire.specs.Wire.{Question, header_of, header_wire, counts_wire, counts_of, question_wire, message_wire, id_in, with_item}
use Rattle.dns_wire.specs.Parse.{Parsed, parsed, readings, reading_then, question_at, questions_in, sole_question_in, authority_readings, message_end}
use Rattle.dns_wire.specs.Written.{IsMessage, IsRecord, head_at, heads_from, parsed_of}
use Rattle.dns_wire.proofs.ItemWriting.{question_read, parsed-message_wire}
use Rattle.dns_wire.proofs.DataWriting.{readable_again}
use Rattle.dns_wire.proofs.Parsing.{unread, reads}
use Rattle.tsig_port.specs.Tsig.{TsigKey, Tsig, signature_of, compose_len, mac_in, tsig_record, algorithm_name, request_tsig, signed_request}
use Rattle.tsig_port.specs.Tsig.Signature.{Signed}
use Rattle.tsig_port.specs.Hmac.{native_len}
use Rattle.tsig_port.specs.Checked.{taken_message, taken_by}
use Rattle.tsig_port.specs.Signing.{CanSign}
use Rattle.tsig_port.specs.OneKey.{IsSigner}
use Rattle.tsig_keys.specs.declared.algorithms.Algorithm.{Algorithm}
use Rattle.tsig_keys.specs.declared.algorithms.Algorithm.TheVariants.{Sha1, Sha256, Sha384, Sha512}
use Rattle.tsig_port.proofs.SignedExchange.{without_again}
use Rattle.tsig_port.proofs.OneKeys.{request_read, request_mac_read}
use Rattle.xfr_model.specs.Messages.{HaveData, type_of}
use Rattle.zone_model.specs.Version.{RecordSet, Version, set_at, first_or_none, has_one_apex_soa}
use Rattle.zone_model.specs.Answer.{apex_soa_record, records_of_option, first_only}
use Rattle.zone_model.specs.Difference.{zone_serial}
use Rattle.zone_model.specs.TransferText.{Mode, Axfr, Ixfr, OnIxfr}
use Rattle.xfr_server.specs.Transfers.{transfer_mode, mode_of_type, asked_serial, first_serial}
use Rattle.xfr_services.specs.declared.modes.XfrMode.{XfrMode}
use Rattle.xfr_services.specs.declared.modes.XfrMode.TheVariants as modes
use Rattle.xfr_course.specs.Courses.{has_header}
use Rattle.xfr_outcomes.specs.Modes.{mode_of}
use Rattle.xfr_client.specs.SoFar.{Asking, asking, authority_of, asked_authority, asked_id, asked_question, request_message, asked_octets, asked_mac}
use Rattle.zone_sync.specs.Fitting.{RequestHasHeader}
use Rattle.xfr_client.proofs.Requests.{octets_are, mac_is}

-- ---- lengths

-- the record that signs the request
abbrev pub signs : Asking → List ℕ
signs a = record_wire (tsig_record a.key.name (request_tsig a.key (message_wire (request_message a)) a.at 300))

-- the signed request is at least a header
pub request_has_header : RequestHasHeader
request_has_header a =
    let s = with_item 10 (message_wire (request_message a)) (signs a) in
    let whole : length s ≡ 12 + length (drop 12 s) = length-append (take 12 s) (drop 12 s) in
    ap has_header (sym (octets_are a)) ∙ le-leb 12 (length s) (omega (arith, whole))

short_names : (x : Algorithm) → length (name_wire (algorithm_name x)) ≤ 13
short_names Sha1 = lit≤ tt
short_names Sha256 = lit≤ tt
short_names Sha384 = lit≤ tt
short_names Sha512 = lit≤ tt

short_macs : (x : Algorithm) → native_len x ≤ 64
short_macs Sha1 = lit≤ tt
short_macs Sha256 = lit≤ tt
short_macs Sha384 = lit≤ tt
short_macs Sha512 = lit≤ tt

small_type : (mode : Mode) → type_of mode < 2 ^ 16
small_type Axfr = lit< tt
small_type Ixfr = lit< tt

short_key : (key : TsigKey) → IsSigner key → compose_len key ≤ 358
short_key key ok =
    let parts = and_parts (nat_le 10 key.signing_len && nat_le (native_len key.algorithm) (2 * key.signing_len)) (nat_le key.signing_len (native_len key.algorithm)) ok.signing in
    omega (arith, leb-true key.signing_len (native_len key.algorithm) parts.1, short_macs key.algorithm, short_names key.algorithm, name_short key.name ok.name)

short_question : (q : Question) → is_name q.qname ≡ true → length (question_wire q) ≤ 259
short_question q name =
    let n = name_wire q.qname in
    let t = u16_octets q.qtype in
    omega (arith, name_short q.qname name, length-append (n ++ t) (u16_octets q.qclass), length-append n t)

-- SOA data are two names and 20 octets
named_short : (f : Field) → part_allows Named f ≡ true → length (field_wire f) ≤ 255
named_short (DomainName n) h = let s = name_short n h in omega (arith, s)
named_short (Octets o) h = absurd (true≢false (sym h))

times_short : (f : Field) → part_allows (Exactly 20) f ≡ true → length (field_wire f) ≤ 20
times_short (Octets o) h = let n : length o ≡ 20 = eqb-true (length o) 20 h in omega (arith, n)
times_short (DomainName n) h = absurd (true≢false (sym h))

short_pieces : (fields : List Field) → pointwise part_allows (Named ∷ Named ∷ Exactly 20 ∷ []) fields ≡ true → length (data_wire fields) ≤ 530
short_pieces [] h = absurd (true≢false (sym h))
short_pieces (f ∷ []) h = absurd (true≢false (sym (second_so (part_allows Named f) false h)))
short_pieces (f ∷ g ∷ []) h = absurd (true≢false (sym (second_so (part_allows Named g) false (second_so (part_allows Named f) (part_allows Named g && false) h))))
short_pieces (f ∷ g ∷ k ∷ []) h =
    let rest = second_so (part_allows Named f) (part_allows Named g && (part_allows (Exactly 20) k && true)) h in
    let last = second_so (part_allows Named g) (part_allows (Exactly 20) k && true) rest in
    omega (
      arith,
      named_short f (first_so (part_allows Named f) _ h),
      named_short g (first_so (part_allows Named g) _ rest),
      times_short k (first_so (part_allows (Exactly 20) k) true last),
      length-append (field_wire f) (field_wire g ++ (field_wire k ++ [])),
      length-append (field_wire g) (field_wire k ++ []),
      length-append (field_wire k) [],
    )
short_pieces (f ∷ g ∷ k ∷ l ∷ fs) h =
    let rest = second_so (part_allows Named f) (part_allows Named g && (part_allows (Exactly 20) k && false)) h in
    absurd (true≢false (sym (second_so (part_allows (Exactly 20) k) false (second_so (part_allows Named g) (part_allows (Exactly 20) k && false) rest))))

short_soa : (r : Record) → r.rtype ≡ type_soa → is_name r.owner ≡ true → is_data r.rtype r.fields ≡ true → length (record_wire r) ≤ 795
short_soa r soa name is =
    let d = data_wire r.fields in
    let x = name_wire r.owner ++ u16_octets r.rtype in
    let y = x ++ u16_octets r.class in
    let z = y ++ u32_octets r.ttl in
    let whole : is_data type_soa r.fields ≡ true = subst (λ n. is_data n r.fields ≡ true) soa is in
    omega (
      arith,
      short_pieces r.fields (first_so (pointwise part_allows (parts type_soa) r.fields) _ whole),
      name_short r.owner name,
      length-append (name_wire r.owner) (u16_octets r.rtype),
      length-append x (u16_octets r.class),
      length-append y (u32_octets r.ttl),
      length-append z (u16_octets (length d)),
      length-append (z ++ u16_octets (length d)) d,
    )

-- the records of an authority section: at most one, an SOA
pub record AtMostSoa (rs : List Record) : Type 0 where
  pub few : length rs ≤ 1
  pub soa : AllByRecursion (λ r. r.rtype ≡ type_soa) rs

first_soa : (v : Version) (o : Option RecordSet) → AtMostSoa (records_of_option v.apex type_soa v.class (option_map first_only o))
first_soa v None = record { few = lit≤ tt; soa = tt }
first_soa v (Some s) = by s.items
  where
    by : (items : List (List Field)) → AtMostSoa (records_of_option v.apex type_soa v.class (option_map first_only (Some (record { ttl = s.ttl; items = items }))))
    by [] = record { few = lit≤ tt; soa = tt }
    by (d ∷ more) = record { few = lit≤ tt; soa = (refl, tt) }

asked_soa : (mode : Mode) (v : Version) → AtMostSoa (authority_of mode v)
asked_soa Axfr v = record { few = lit≤ tt; soa = tt }
asked_soa Ixfr v = first_soa v (set_at v v.apex type_soa)

short_authority : (rs : List Record) → AtMostSoa rs → AllByRecursion IsRecord rs → HaveData rs → length (flat_map record_wire rs) ≤ 795
short_authority [] soa ok is = lit≤ tt
short_authority (r ∷ []) soa ok is = omega (arith, short_soa r soa.soa.0 ok.0.owner is.0, length-append (record_wire r) [])
short_authority (r ∷ s ∷ rs) soa ok is = let n : length (r ∷ s ∷ rs) ≤ 1 = soa.few in absurd (omega (arith, n))

-- how long a message is that only asks
pub asking_length : (id : ℕ) (q : Question) (rs : List Record) → length (message_wire (asking id q rs)) ≡ 12 + (length (question_wire q) + length (flat_map record_wire rs))
asking_length id q rs =
    let h = header_of id 0 in
    let front = header_wire h ++ counts_wire (counts_of (asking id q rs)) in
    let w = question_wire q ++ [] in
    let u = flat_map record_wire rs in
    omega (
      arith,
      length-append (question_wire q) [],
      length-append front w,
      length-append (front ++ w) [],
      length-append (front ++ w ++ []) u,
      length-append (front ++ w ++ [] ++ u) [],
    )

-- ---- the kind of transfer that is asked for

abbrev pub kind_of : Mode → XfrMode
kind_of Axfr = modes.Axfr
kind_of Ixfr = modes.Ixfr

pub mode_again : (mode : Mode) → mode_of (kind_of mode) ≡ mode
mode_again Axfr = refl
mode_again Ixfr = refl

type_again : (mode : Mode) → mode_of_type (type_of mode) ≡ Some (kind_of mode)
type_again Axfr = refl
type_again Ixfr = refl

-- the SOA record that an incremental request names, with its serial
pub record NamesSoa (v : Version) : Type 0 where
  pub soa : Record
  pub is : apex_soa_record v ≡ soa ∷ []
  pub owned : soa.owner ≡ v.apex
  pub typed : soa.rtype ≡ type_soa
  pub classed : soa.class ≡ v.class
  pub serial : zone_serial v ≡ serial_of soa.fields

names_of : (v : Version) (o : Option RecordSet) → set_at v v.apex type_soa ≡ o → (length (option_map_or (λ (s : RecordSet). s.items) o []) == 1) ≡ true → NamesSoa v
names_of v None e one = absurd (true≢false (sym one))
names_of v (Some s) e one = by s.items refl one
  where
    by : (items : List (List Field)) → s.items ≡ items → (length items == 1) ≡ true → NamesSoa v
    by [] is n = absurd (true≢false (sym n))
    by (d ∷ more) is n = record {
      soa = record { owner = v.apex; rtype = type_soa; class = v.class; ttl = s.ttl; fields = d };
      is = ap (λ (x : Option RecordSet). records_of_option v.apex type_soa v.class (option_map first_only x)) e ∙ ap (λ l. records_of_option v.apex type_soa v.class (option_map first_only (Some (record { ttl = s.ttl; items = l })))) is;
      owned = refl;
      typed = refl;
      classed = refl;
      serial = ap (λ (x : Option RecordSet). option_map_or serial_of (first_or_none (option_map_or (λ (y : RecordSet). y.items) x [])) 0) e ∙ ap (λ l. option_map_or serial_of (first_or_none l) 0) is;
    }

pub names_soa : (v : Version) → has_one_apex_soa v ≡ true → NamesSoa v
names_soa v one = names_of v (set_at v v.apex type_soa) refl one

-- what octets that parse have for authority records
authority_read : (message : List ℕ) (p : Parsed) (end : Option ℕ) → 12 ≤ length message → message_end message ≡ end → parsed message ≡ Some p → authority_readings message ≡ map (λ r. Some r) p.authority
authority_read message p None header is whole = let not : parsed message ≡ None = unread message header is in absurd (cc)
authority_read message p (Some end) header is whole =
    let r = reads message end header is in
    let same : r.0 ≡ p = ap (λ o. unwrap_or o p) (sym r.1.whole ∙ whole) in
    r.1.authorities ∙ ap (λ (x : Parsed). map (λ r. Some r) x.authority) same

-- ---- what is left of the request once it was taken

module _ (a : Asking) (ok : IsSigner a.key) (early : a.at < 2 ^ 48) (name : is_name a.base.version.apex ≡ true) (class : a.base.version.class < 2 ^ 16)
    (soa : AllByRecursion IsRecord (asked_authority a)) (pieces : HaveData (asked_authority a)) where
  abbrev q : Question
  q = asked_question a

  abbrev M : List ℕ
  M = message_wire (request_message a)

  abbrev r : List ℕ
  r = signs a

  abbrev t : Tsig
  t = request_tsig a.key M a.at 300

  small_id : asked_id a < 2 ^ 16
  small_id = omega arith

  pub is_message : IsMessage (request_message a)
  is_message = record {
    id = small_id;
    flags = lit< tt;
    questions = (record { qname = name; qtype = small_type a.mode; qclass = class }, tt);
    answers = tt;
    authority = soa;
    additional = tt;
    qdcount = lit< tt;
    ancount = lit< tt;
    nscount = let few = (asked_soa a.mode a.base.version).few in omega (arith, few);
    arcount = lit< tt;
  }

  pub can_sign : CanSign a.key (request_message a)
  can_sign = record {
    message = is_message;
    unsigned = tt;
    count = lit< tt;
    room = omega (arith, asking_length (asked_id a) q (asked_authority a), short_question q name, short_authority (asked_authority a) (asked_soa a.mode a.base.version) soa pieces, short_key a.key ok);
  }

  signature : signature_of (signed_request a.key M a.at 300) ≡ Signed (length M) a.key.name t
  signature = request_read a.key ok (request_message a) a.at 300 early (lit< tt) can_sign

  -- the octets: the message, and after its last counted item the TSIG
  pub taken_is : taken_message (asked_octets a) ≡ M ++ r
  taken_is =
      ap taken_message (sym (octets_are a))
      ∙ ap (λ s. taken_by (signed_request a.key M a.at 300) s) signature
      ∙ without_again (request_message a) r (lit< tt) small_id

  pub taken_parses : parsed (taken_message (asked_octets a)) ≡ Some (parsed_of (request_message a))
  taken_parses = ap parsed taken_is ∙ parsed-message_wire (request_message a) r is_message

  -- its MAC
  pub mac_read_is : mac_in (asked_octets a) ≡ asked_mac a
  mac_read_is = ap mac_in (sym (octets_are a)) ∙ request_mac_read a.key ok (request_message a) a.at 300 early (lit< tt) can_sign ∙ mac_is a

  pub taken_header : 12 ≤ length (taken_message (asked_octets a))
  taken_header =
      let s = M ++ r in
      let whole : length s ≡ 12 + length (drop 12 s) = length-append (take 12 s) (drop 12 s) in
      let same : length (taken_message (asked_octets a)) ≡ length s = ap length taken_is in
      omega (arith, whole, same)

  -- the id, the question, and what is asked for
  pub taken_id : id_in (taken_message (asked_octets a)) ≡ asked_id a
  taken_id = ap id_in taken_is ∙ from_be_bytes-to_be_bytes_2 (asked_id a) small_id

  question_there : question_at (M ++ r) 12 ≡ Some (q, 12 + length (question_wire q))
  question_there =
      let w = question_wire q in
      let u = flat_map record_wire (asked_authority a) in
      let none : w ++ [] ++ [] ++ u ++ [] ≡ w ++ u = append-nil (w ++ [] ++ [] ++ u) ∙ ap (λ x. x ++ u) (append-nil (w ++ []) ∙ append-nil w) in
      question_read (M ++ r) 12 q (take 12 M) (u ++ r) (ap (λ x. take 12 M ++ (x ++ r)) none ∙ ap (λ x. take 12 M ++ x) (append_assoc w u r)) refl name (small_type a.mode) class

  pub taken_question : sole_question_in (taken_message (asked_octets a)) ≡ Some q
  taken_question = ap sole_question_in taken_is ∙ ap (option_map (λ x. x.0)) question_there

  pub taken_questions : questions_in (taken_message (asked_octets a)) ≡ q ∷ []
  unfolding readings
  taken_questions = ap questions_in taken_is ∙ ap (λ o. filter_map (λ x. x) (reading_then (λ p. []) o)) question_there

  pub taken_mode : transfer_mode (taken_message (asked_octets a)) ≡ Some (kind_of a.mode)
  taken_mode =
      ap transfer_mode taken_is
      ∙ ap (λ o. option_and_then (λ (x : Question). mode_of_type x.qtype) o) (ap (option_map (λ x. x.0)) question_there)
      ∙ type_again a.mode

  -- the serial that it names
  authority_start : ℕ
  authority_start = 12 + length (flat_map question_wire (q ∷ [])) + 0

  taken_authority : authority_readings (taken_message (asked_octets a)) ≡ map (λ r. Some r) (heads_from (12 + length (flat_map question_wire (q ∷ [])) + 0) (asked_authority a))
  taken_authority = authority_read (taken_message (asked_octets a)) (parsed_of (request_message a)) (message_end (taken_message (asked_octets a))) taken_header refl taken_parses

  serial_read : (rs : List Record) (s : Record) → asked_authority a ≡ rs → rs ≡ s ∷ [] → s.rtype ≡ type_soa → asked_serial (taken_message (asked_octets a)) ≡ Some (serial_of s.fields)
  serial_read rs s here is typed =
      let w = question_wire q ++ [] in
      let front = take 12 M in
      let p = 12 + length w + 0 in
      let only : asked_authority a ≡ s ∷ [] = here ∙ is in
      let ok_soa : AllByRecursion IsRecord (s ∷ []) = subst (AllByRecursion IsRecord) only soa in
      let ok_data : HaveData (s ∷ []) = subst HaveData only pieces in
      let octets : M ++ r ≡ (front ++ w) ++ (record_wire s ++ r) =
      ap (λ x. front ++ (x ++ r)) (append-nil (w ++ [] ++ flat_map record_wire (asked_authority a)) ∙ ap (λ x. x ++ flat_map record_wire (asked_authority a)) (append-nil w) ∙ ap (λ l. w ++ flat_map record_wire l) only ∙ ap (λ x. w ++ x) (append-nil (record_wire s)))
      ∙ ap (λ x. front ++ x) (append_assoc w (record_wire s) r) ∙ sym (append_assoc front w (record_wire s ++ r)) in
      let place : length (front ++ w) ≡ p = length-append front w ∙ sym (add-zero (12 + length w)) in
      let head = head_at p s in
      let readings : authority_readings (taken_message (asked_octets a)) ≡ Some head ∷ [] = taken_authority ∙ ap (λ rs. map (λ r. Some r) (heads_from p rs)) only in
      let typed_so : (s.rtype == type_soa) ≡ true = eq-eqb s.rtype type_soa typed in
      let there : readable (taken_message (asked_octets a)) head ≡ Some s =
      ap (λ x. readable x head) (taken_is ∙ octets) ∙ ap (λ k. readable ((front ++ w) ++ (record_wire s ++ r)) (head_at k s)) (sym place) ∙ readable_again (front ++ w) s r ok_soa.0 ok_data.0 in
      ap (first_serial (taken_message (asked_octets a))) readings
      ∙ ap (λ b. if b then option_map (λ (x : Record). serial_of x.fields) (readable (taken_message (asked_octets a)) head) else None) typed_so
      ∙ ap (option_map (λ (x : Record). serial_of x.fields)) there

  pub taken_serial : OnIxfr a.mode (has_one_apex_soa a.base.version ≡ true) → OnIxfr a.mode (asked_serial (taken_message (asked_octets a)) ≡ Some (zone_serial a.base.version))
  taken_serial one = by a.mode refl one
    where
      by : (m : Mode) → a.mode ≡ m → OnIxfr m (has_one_apex_soa a.base.version ≡ true) → OnIxfr m (asked_serial (taken_message (asked_octets a)) ≡ Some (zone_serial a.base.version))
      by Axfr e h = tt
      by Ixfr e h =
          let n = names_soa a.base.version h in
          serial_read (apex_soa_record a.base.version) n.soa (ap (λ m. authority_of m a.base.version) e) n.is n.typed ∙ ap Some (sym n.serial)

  -- an AXFR names none
  pub taken_none : a.mode ≡ Axfr → asked_serial (taken_message (asked_octets a)) ≡ None
  taken_none e = ap (first_serial (taken_message (asked_octets a))) (taken_authority ∙ ap (λ m. map (λ r. Some r) (heads_from (12 + length (flat_map question_wire (q ∷ [])) + 0) (authority_of m a.base.version))) e)
