-- The whole text as its primary sends it, message by message, taken by the secondary that asked.
use Rattle.std.proofs.Common.{◌≡◌, ℕ, suc, ◌+◌, ◌-◌, ◌*◌, ◌^◌, ◌<◌, ◌≤◌, Bool, true, false, ◌&&◌, ◌||◌, not, nat_le, if◌then◌else◌, List, [], ◌∷◌, ◌++◌, length, length-append, append_assoc, append-nil, map, take, drop, refl, sym, ap, ◌∙◌, subst, true≢false, arith, Option, Some, None, is_some, lit<, lit≤, le-leb, leb-true, eq-eqb}
use Rattle.std.specs.Prelude.{◌==◌, filter, flat_map, unwrap_or, IsTrue}
use Rattle.std.specs.List.{AllByRecursion, list_all, last_or}
use Rattle.std.specs.Cmp.{first_so, second_so}
use Rattle.std.proofs.lemmas.Bool.{lt-leb}
use Rattle.std.proofs.lemmas.List.Concat.{length-flat_map}
use Rattle.std.proofs.lemmas.List.Sums.{sum_by-cons}
use Rattle.std.proofs.lemmas.List.{length-map}
use Rattle.dns_name.specs.Names.{Name, is_name, name_wire}
use Rattle.dns_numbers.specs.Codes.{type_soa}
use Rattle.dns_numbers.specs.Serial.{serial_upto}
use Rattle.dns_name.specs.Octets.{u16_octets, u32_octets}
use Rattle.dns_rdata.specs.Records.{Record, record_wire, data_wire, is_data}
use Rattle.dns_wire.specs.Wire.{Header, Message, Question, header_in, question_wire, message_wire}
use Rattle.dns_wire.specs.Parse.{questions_in}
use Rattle.dns_wire.specs.Written.{IsMessage, IsRecord}
use Rattle.tsig_port.specs.Tsig.{TsigKey, compose_len, mac_in, tsig_record, answer_tsig, signed_answer, signed_from}
use Rattle.tsig_port.specs.Checked.{answer_fault, taken_message, prior_mac}
use Rattle.tsig_port.specs.Signing.{CanSign}
use Rattle.tsig_port.proofs.OneKeys.{one_passes, answer_then, answer_left}
use Rattle.zone_model.specs.Version.{Version, has_one_apex_soa}
use Rattle.zone_model.specs.Answer.{apex_soa_record}
use Rattle.zone_model.specs.Walk.{records_of_version}
use Rattle.zone_model.specs.Difference.{Difference, zone_serial}
use Rattle.zone_model.specs.TransferText.{Mode, Axfr, Ixfr, is_soa}
use Rattle.zone_model.specs.TransferLaws.{IsPublished}
use Rattle.zone_model.specs.Offer.{Offer, is_apex_soa, is_sendable, difference_text, whole_text, changes_text, changes_or_whole, text_of, room_of, are_pages, are_single, IsCutInto}
use Rattle.zone_model.proofs.ChangesText.{last_published}
use Rattle.xfr_batch.specs.XfrBatches.{axfr_header}
use Rattle.xfr_model.specs.Messages.{HaveData, ReadMessage, read_of, message_of}
use Rattle.xfr_model.proofs.ReadingBuilt.{built_is_read}
use Rattle.xfr_replies.specs.TransferPages.{page_answer, page_room}
use Rattle.xfr_server.proofs.Accepted.{transfer_is_message}
use Rattle.xfr_server.proofs.Answers.{wire_length}
use Rattle.xfr_server.proofs.Pages.{IsPage, each_page}
use Rattle.xfr_course.specs.Outcome.{Checked}
use Rattle.xfr_course.specs.Courses.{has_header}
use Rattle.xfr_course.specs.Granting.{in_singles}
use Rattle.xfr_course.specs.Honest.{carrier_of}
use Rattle.xfr_course.specs.Success.{signed_checked}
use Rattle.xfr_client.specs.SoFar.{Asking, asked_authority, asked_question, request_message, asked_octets, checked_so_far, fault_so_far, message_so_far, header_alone}
use Rattle.xfr_client.specs.Standing.{Passed}
use Rattle.zone_sync.specs.Forms.{HaveForms}
use Rattle.zone_sync.specs.Fitting.{answer_room, sent_text, page_answers, sent_pages, Fits, SendsEach}
use Rattle.xfr_client.proofs.Standings.{none_passed, one_passed}
use Rattle.zone_sync.proofs.HonestNames.{same_is_name}
use Rattle.zone_sync.proofs.HonestRequests as requests
use Rattle.zone_sync.proofs.WritableVersions.{forms_written, forms_data}

-- ---- pages

-- a text that one message has room for is one page
pub one_cut : (room : ℕ) (text : List Record) → not (length text == 0) ≡ true → room_of text ≤ room → IsCutInto room false text (text ∷ [])
one_cut room text full fits = let within : nat_le (room_of text) room ≡ true = le-leb _ _ fits in record { joined = append-nil text; filled = rw (full, within) refl }

-- the first two records of a text, where they have room together, come in its first page
pub two_together : (room : ℕ) (text page : List Record) (more : List (List Record)) → IsCutInto room false text (page ∷ more) → (nat_le (length text) 1 || nat_le (room_of (take 2 text)) room) ≡ true
    → (nat_le (length text) 1 || nat_le 2 (length page)) ≡ true
two_together room text [] more cut both = absurd (true≢false (sym cut.filled))
two_together room text (x ∷ []) [] cut both = ap (λ l. nat_le (length l) 1 || false) (sym cut.joined)
two_together room text (x ∷ []) ([] ∷ more) cut both =
    let begun : Bool = not (length (x ∷ []) == 0) && nat_le (room_of (x ∷ [])) room in
    absurd (true≢false (sym (second_so begun false (first_so (begun && false) (are_pages room ([] ∷ more)) cut.filled))))
two_together room text (x ∷ []) ((r ∷ rest) ∷ more) cut both =
    let tail : List Record = rest ++ flat_map (λ page. page) more in
    let begun : Bool = not (length (x ∷ []) == 0) && nat_le (room_of (x ∷ [])) room in
    let next : Bool = not (nat_le (room_of (x ∷ []) + length (record_wire r)) room) in
    let apart : not (nat_le (room_of (x ∷ []) + length (record_wire r)) room) ≡ true = second_so begun next (first_so (begun && next) (are_pages room ((r ∷ rest) ∷ more)) cut.filled) in
    let many : nat_le (length (x ∷ r ∷ tail)) 1 ≡ false = lt-leb (length (x ∷ r ∷ tail)) 1 (omega arith) in
    let here : (nat_le (length (x ∷ r ∷ tail)) 1 || nat_le (room_of (x ∷ r ∷ [])) room) ≡ true = ap (λ l. nat_le (length l) 1 || nat_le (room_of (take 2 l)) room) cut.joined ∙ both in
    let fits : nat_le (room_of (x ∷ r ∷ [])) room ≡ true = sym (ap (λ b. b || nat_le (room_of (x ∷ r ∷ [])) room) many) ∙ here in
    let sum : room_of (x ∷ r ∷ []) ≡ room_of (x ∷ []) + length (record_wire r) =
    omega (arith, sum_by-cons (λ r. length (record_wire r)) x (r ∷ []), sum_by-cons (λ r. length (record_wire r)) r [], sum_by-cons (λ r. length (record_wire r)) x []) in
    absurd (true≢false (sym apart ∙ ap (λ n. not (nat_le n room)) (sym sum) ∙ ap not fits))
two_together room text (x ∷ y ∷ page) more cut both =
    let two : nat_le 2 (length (x ∷ y ∷ page)) ≡ true = le-leb 2 (length (x ∷ y ∷ page)) (omega arith) in
    by (nat_le (length text) 1) two
  where
    by : (b : Bool) {n : Bool} → n ≡ true → (b || n) ≡ true
    by true e = refl
    by false e = e

-- with one record each, there are as many pages as records
abbrev pub singles_of : List Record → List (List Record)
singles_of text = map (λ (r : Record). r ∷ []) text

singles_join : (text : List Record) → flat_map (λ page. page) (singles_of text) ≡ text
singles_join [] = refl
singles_join (r ∷ more) = ap (λ l. r ∷ l) (singles_join more)

singles_filled : (room : ℕ) (text : List Record) → AllByRecursion (λ r. length (record_wire r) ≤ room) text → are_single room (singles_of text) ≡ true
singles_filled room [] h = refl
singles_filled room (r ∷ more) h =
    let within : nat_le (room_of (r ∷ [])) room ≡ true = le-leb _ _ (omega (arith, sum_by-cons (λ r. length (record_wire r)) r [], h.0)) in
    rw (within, singles_filled room more h.1) refl

pub singles_cut : (room : ℕ) (text : List Record) → AllByRecursion (λ r. length (record_wire r) ≤ room) text → IsCutInto room true text (singles_of text)
singles_cut room text h = record { joined = singles_join text; filled = singles_filled room text h }

-- what holds of all records of a text holds of those of each page
all_front : (P : Record → Type 0) (xs ys : List Record) → AllByRecursion P (xs ++ ys) → AllByRecursion P xs
all_front P [] ys h = tt
all_front P (x ∷ xs) ys h = (h.0, all_front P xs ys h.1)

all_back : (P : Record → Type 0) (xs ys : List Record) → AllByRecursion P (xs ++ ys) → AllByRecursion P ys
all_back P [] ys h = h
all_back P (x ∷ xs) ys h = all_back P xs ys h.1

by_page : (P : Record → Type 0) (pages : List (List Record)) → AllByRecursion P (flat_map (λ page. page) pages) → AllByRecursion (λ page. AllByRecursion P page) pages
by_page P [] h = tt
by_page P (page ∷ more) h =
    let rest : List Record = flat_map (λ p. p) more in
    (all_front P page rest h, by_page P more (all_back P page rest h))

in_pages : (P : Record → Type 0) (room : ℕ) (singles : Bool) (text : List Record) (pages : List (List Record)) → IsCutInto room singles text pages → AllByRecursion P text → AllByRecursion (λ page. AllByRecursion P page) pages
in_pages P room singles text pages cut h = by_page P pages (subst (AllByRecursion P) (sym cut.joined) h)

-- records have octets
long_records : (rs : List Record) → length rs * 10 ≤ room_of rs
long_records [] = lit≤ tt
long_records (r ∷ rs) =
    let d = data_wire r.fields in
    let a = name_wire r.owner ++ u16_octets r.rtype in
    let b = a ++ u16_octets r.class in
    let front = b ++ u32_octets r.ttl in
    omega (
      arith,
      long_records rs,
      sum_by-cons (λ r. length (record_wire r)) r rs,
      length-append (front ++ u16_octets (length d)) d,
      length-append front (u16_octets (length d)),
      length-append b (u32_octets r.ttl),
      length-append a (u16_octets r.class),
      length-append (name_wire r.owner) (u16_octets r.rtype),
    )

-- ---- the built message as it is read

read_so_far : (octets : List ℕ) (m : ReadMessage) → message_of octets ≡ Some m → message_so_far octets ≡ m
unfolding message_so_far
read_so_far octets m h = ap (λ o. unwrap_or o (header_alone octets)) h

-- ---- the text

-- a list of records begins with the apex SOA record of a version
pub record Begins (v : Version) (text : List Record) : Type 0 where
  pub soa : Record
  pub rest : List Record
  pub is : text ≡ soa ∷ rest
  pub typed : is_soa soa ≡ true
  pub owned : soa.owner ≡ v.apex
  pub classed : soa.class ≡ v.class

soa_begins : (v : Version) → has_one_apex_soa v ≡ true → (rest : List Record) → Begins v (apex_soa_record v ++ rest)
soa_begins v one rest =
    let n = requests.names_soa v one in
    record { soa = n.soa; rest = rest; is = ap (λ l. l ++ rest) n.is; typed = eq-eqb n.soa.rtype type_soa n.typed; owned = n.owned; classed = n.classed }

-- .. in whichever form it is sent
whole_begins : (v : Version) → has_one_apex_soa v ≡ true → Begins v (whole_text v)
whole_begins v one =
    let middle = filter (λ r. not (is_apex_soa v r)) (records_of_version v) in
    subst (Begins v) (sym (append_assoc (apex_soa_record v) middle (apex_soa_record v))) (soa_begins v one (middle ++ apex_soa_record v))

changes_begin : (v : Version) → has_one_apex_soa v ≡ true → (ds : List Difference) → Begins v (changes_text v ds)
changes_begin v one ds =
    let middle = flat_map (difference_text v) ds in
    subst (Begins v) (sym (append_assoc (apex_soa_record v) middle (apex_soa_record v))) (soa_begins v one (middle ++ apex_soa_record v))

newer_begins : (v : Version) → has_one_apex_soa v ≡ true → (ds : List Difference) → Begins v (changes_or_whole v ds)
newer_begins v one [] = whole_begins v one
newer_begins v one (d ∷ ds) = by (list_all (is_sendable v) (d ∷ ds))
  where
    by : (b : Bool) → Begins v (if b then changes_text v (d ∷ ds) else whole_text v)
    by true = changes_begin v one (d ∷ ds)
    by false = whole_begins v one

pub text_begins : (offer : Offer) (mode : Mode) (asked : ℕ) → has_one_apex_soa offer.version ≡ true → Begins offer.version (text_of offer mode asked)
text_begins offer Axfr asked one = whole_begins offer.version one
text_begins offer Ixfr asked one = by (serial_upto (zone_serial offer.version) asked)
  where
    by : (b : Bool) → Begins offer.version (if b then apex_soa_record offer.version else changes_or_whole offer.version offer.differences)
    by true = subst (Begins offer.version) (append-nil (apex_soa_record offer.version)) (soa_begins offer.version one [])
    by false = newer_begins offer.version one offer.differences

-- ---- what follows of the premises

last_of : (apex : Name) (v : Version) (history : List Version) → last_or None history ≡ Some v → AllByRecursion (IsPublished apex) history → IsPublished apex v
last_of apex v [] e all = absurd (true≢false (sym (ap is_some e)))
last_of apex v (w ∷ more) e all = last_published (IsPublished apex) w more v e all

-- the offered version may be published
pub published : (a : Asking) (server : TsigKey) (at : ℕ) (offer : Offer) → Fits a server at offer → IsPublished a.base.version.apex offer.version
published a server at offer f = last_of a.base.version.apex offer.version f.one_soa.history f.one_soa.told.ends f.one_soa.each

pub one_apex_soa : (a : Asking) (server : TsigKey) (at : ℕ) (offer : Offer) → Fits a server at offer → has_one_apex_soa offer.version ≡ true
one_apex_soa a server at offer f = first_so (has_one_apex_soa offer.version) _ (published a server at offer f).one_soa

pub begins : (a : Asking) (server : TsigKey) (at : ℕ) (offer : Offer) → Fits a server at offer → Begins offer.version (sent_text a offer)
begins a server at offer f = text_begins offer a.mode (zone_serial a.base.version) (one_apex_soa a server at offer f)

-- the SOA record has a wire form, and so has the question
soa_is_record : (a : Asking) (server : TsigKey) (at : ℕ) (offer : Offer) (f : Fits a server at offer) → IsRecord (begins a server at offer f).soa
soa_is_record a server at offer f =
    let b = begins a server at offer f in
    let all : AllByRecursion IsRecord (b.soa ∷ b.rest) = subst (AllByRecursion IsRecord) b.is (forms_written (sent_text a offer) f.sent) in
    all.0

pub apex_is_name : (a : Asking) (server : TsigKey) (at : ℕ) (offer : Offer) → Fits a server at offer → is_name a.base.version.apex ≡ true
apex_is_name a server at offer f =
    same_is_name offer.version.apex a.base.version.apex (published a server at offer f).same_apex (subst (λ n. is_name n ≡ true) (begins a server at offer f).owned (soa_is_record a server at offer f).owner)

pub small_class : (a : Asking) (server : TsigKey) (at : ℕ) (offer : Offer) → Fits a server at offer → a.base.version.class < 2 ^ 16
small_class a server at offer f =
    let same = f.same_zone.class in
    let classed = (begins a server at offer f).classed in
    let small = (soa_is_record a server at offer f).class in
    omega (arith, same, classed, small)

-- ---- what is sent

as_many : (key : TsigKey) (mac : List ℕ) (at fudge : ℕ) (prior : Option (List ℕ)) (ms : List (List ℕ)) → length (signed_from key mac at fudge prior ms) ≡ length ms
unfolding signed_from
as_many key mac at fudge prior [] = refl
as_many key mac at fudge prior (m ∷ ms) = ap suc (as_many key mac at fudge (Some (answer_tsig key mac prior m at fudge).mac) ms)

pub sends_each : SendsEach
sends_each a server at pages =
    let ms = page_answers a pages in
    as_many server (mac_in (asked_octets a)) at 300 None (map message_wire ms) ∙ length-map ms message_wire ∙ length-map pages (page_answer (taken_message (asked_octets a)))

pub signed_header : (key : TsigKey) (mac : List ℕ) (prior : Option (List ℕ)) (m : Message) (at fudge : ℕ) → has_header (signed_answer key mac prior (message_wire m) at fudge) ≡ true
signed_header key mac prior m at fudge =
    let s = signed_answer key mac prior (message_wire m) at fudge in
    let whole : length s ≡ 12 + length (drop 12 s) = length-append (take 12 s) (drop 12 s) in
    le-leb 12 (length s) (omega (arith, whole))

-- ---- as it is taken

module _ (a : Asking) (server : TsigKey) (at : ℕ) (offer : Offer) (f : Fits a server at offer) (forms : HaveForms (asked_authority a)) where
  abbrev name : is_name a.base.version.apex ≡ true
  name = apex_is_name a server at offer f

  abbrev class : a.base.version.class < 2 ^ 16
  class = small_class a server at offer f

  abbrev soa : AllByRecursion IsRecord (asked_authority a)
  soa = forms_written (asked_authority a) forms

  abbrev pieces : HaveData (asked_authority a)
  pieces = forms_data (asked_authority a) forms

  abbrev singles : Bool
  singles = in_singles a.mode offer.compatibility

  abbrev pub request : List ℕ
  request = taken_message (asked_octets a)

  abbrev pub q : Question
  q = asked_question a

  abbrev pub h : Header
  h = axfr_header (header_in request)

  pub asked_alone : questions_in request ≡ q ∷ []
  asked_alone = requests.taken_questions a f.client_signs f.close_moments.secondary name class soa pieces

  -- how long a page's message is
  asked_length : length (flat_map question_wire (questions_in request)) ≡ length (question_wire q)
  asked_length = ap (λ qs. length (flat_map question_wire qs)) asked_alone ∙ ap length (append-nil (question_wire q))

  pub page_length : (page : List Record) → length (message_wire (page_answer request page)) ≡ 12 + (length (question_wire q) + room_of page)
  page_length page = omega (arith, wire_length h (questions_in request) page, asked_length, length-flat_map record_wire page)

  pub room_is : page_room request (65535 - compose_len server) ≡ answer_room a server
  room_is = omega (arith, page_length [])

  -- so few records fit into one
  few_records : (page : List Record) → IsPage (answer_room a server) page → length page < 2 ^ 16
  few_records page is = omega (arith, long_records page, leb-true (room_of page) (answer_room a server) is.1)

  page_is_message : (page : List Record) → IsPage (answer_room a server) page → AllByRecursion IsRecord page → IsMessage (page_answer request page)
  page_is_message page is records =
      transfer_is_message request (request_message a) page (requests.taken_header a f.client_signs f.close_moments.secondary name class soa pieces) (requests.is_message a f.client_signs f.close_moments.secondary name class soa pieces)
      (requests.taken_parses a f.client_signs f.close_moments.secondary name class soa pieces) records (few_records page is)

  can_sign : (page : List Record) → IsPage (answer_room a server) page → AllByRecursion IsRecord page → CanSign server (page_answer request page)
  can_sign page is records = record {
    message = page_is_message page is records;
    unsigned = tt;
    count = lit< tt;
    room = omega (arith, page_length page, long_records page, is.0, leb-true (room_of page) (answer_room a server) is.1);
  }

  all_can_sign : (pages : List (List Record)) → AllByRecursion (IsPage (answer_room a server)) pages → AllByRecursion (λ page. AllByRecursion IsRecord page) pages → AllByRecursion (CanSign server) (page_answers a pages)
  all_can_sign [] each records = tt
  all_can_sign (page ∷ more) each records = (can_sign page each.0 records.0, all_can_sign more each.1 records.1)

  all_have : (pages : List (List Record)) → AllByRecursion (λ page. HaveData page) pages → AllByRecursion (λ (m : Message). HaveData m.answers) (page_answers a pages)
  all_have [] have = tt
  all_have (page ∷ more) have = (have.0, all_have more have.1)

  abbrev pub pages : List (List Record)
  pages = f.records_fit.pages

  abbrev cut : IsCutInto (answer_room a server) singles (sent_text a offer) pages
  cut = f.records_fit.cut

  pub signable : AllByRecursion (CanSign server) (page_answers a pages)
  signable = all_can_sign pages (each_page (answer_room a server) singles pages cut.filled) (in_pages IsRecord (answer_room a server) singles (sent_text a offer) pages cut (forms_written (sent_text a offer) f.sent))

  pub readable : AllByRecursion (λ (m : Message). HaveData m.answers) (page_answers a pages)
  readable = all_have pages (in_pages (λ r. IsTrue (is_data r.rtype r.fields)) (answer_room a server) singles (sent_text a offer) pages cut (forms_data (sent_text a offer) f.sent))

  -- ---- in sequence

  abbrev mac : List ℕ
  mac = mac_in (asked_octets a)

  abbrev pub signed : Option (List ℕ) → Message → List ℕ
  signed prior m = signed_answer server mac prior (message_wire m) at 300

  abbrev next : Option (List ℕ) → Message → Option (List ℕ)
  next prior m = Some (answer_tsig server mac prior (message_wire m) at 300).mac

  abbrev pub sequence : Option (List ℕ) → List Message → List (List ℕ)
  sequence prior ms = signed_from server mac at 300 prior (map message_wire ms)

  -- each passes after those before it
  faultless : (taken : List (List ℕ)) (prior : Option (List ℕ)) (m : Message) → CanSign server m → prior_mac taken ≡ prior → fault_so_far a taken (signed prior m) ≡ None
  unfolding fault_so_far
  faultless taken prior m can is_prior =
      ap (λ x. answer_fault a.key x a.at taken (signed prior m)) (sym (requests.mac_read_is a f.client_signs f.close_moments.secondary name class soa pieces))
      ∙ one_passes a.key server f.one_key mac at a.at 300 f.server_signs f.close_moments.primary (lit< tt) f.close_moments.near taken prior m can is_prior

  -- .. and so do all of a first part
  part_passed : (taken : List (List ℕ)) (prior : Option (List ℕ)) (ms : List Message) (xs rest : List (List ℕ)) → AllByRecursion (CanSign server) ms → prior_mac taken ≡ prior
      → sequence prior ms ≡ xs ++ rest → Passed (fault_so_far a) taken → Passed (fault_so_far a) (taken ++ xs)
  unfolding signed_from
  part_passed taken prior ms [] rest can is_prior e p = subst (Passed (fault_so_far a)) (sym (append-nil taken)) p
  part_passed taken prior [] (x ∷ xs) rest can is_prior e p = absurd (cc e)
  part_passed taken prior (m ∷ ms) (x ∷ xs) rest can is_prior e p =
      let s = signed prior m in
      let first : s ≡ x = cc in
      let behind : sequence (next prior m) ms ≡ xs ++ rest = cc in
      let one : Passed (fault_so_far a) (taken ++ s ∷ []) = one_passed (fault_so_far a) taken s p (faultless taken prior m can.0 is_prior) (signed_header server mac prior m at 300) in
      let all = part_passed (taken ++ s ∷ []) (next prior m) ms xs rest can.1 (answer_then server f.server_signs m at 300 f.close_moments.primary (lit< tt) can.0 mac a.at f.close_moments.near prior taken) behind one in
      subst (Passed (fault_so_far a)) (append_assoc taken (s ∷ []) xs ∙ ap (λ y. taken ++ y ∷ xs) first) all

  pub front_passed : (xs rest : List (List ℕ)) → sent_pages a server at pages ≡ xs ++ rest → Passed (fault_so_far a) xs
  front_passed xs rest e = part_passed [] None (page_answers a pages) xs rest signable refl e (none_passed (fault_so_far a))

  -- each says what it was built of
  checked_is : (prior : Option (List ℕ)) (m : Message) → CanSign server m → HaveData m.answers → checked_so_far (signed prior m) ≡ signed_checked (carrier_of m)
  unfolding checked_so_far
  checked_is prior m can have =
      let w = signed prior m in
      let r = record_wire (tsig_record server.name (answer_tsig server mac prior (message_wire m) at 300)) in
      let taken : taken_message w ≡ message_wire m ++ r = answer_left server f.server_signs m at 300 f.close_moments.primary (lit< tt) can mac a.at f.close_moments.near prior in
      let read : message_so_far (taken_message w) ≡ read_of m = ap message_so_far taken ∙ read_so_far (message_wire m ++ r) (read_of m) (built_is_read m r can.message have) in
      ap (λ x. record { message = x }) read

  all_checked : (prior : Option (List ℕ)) (ms : List Message) → AllByRecursion (CanSign server) ms → AllByRecursion (λ (m : Message). HaveData m.answers) ms
      → map checked_so_far (sequence prior ms) ≡ map signed_checked (map carrier_of ms)
  unfolding signed_from
  all_checked prior [] can have = refl
  all_checked prior (m ∷ ms) can have =
      ap (λ (k : Checked). k ∷ map checked_so_far (sequence (next prior m) ms)) (checked_is prior m can.0 have.0)
      ∙ ap (λ (ks : List Checked). signed_checked (carrier_of m) ∷ ks) (all_checked (next prior m) ms can.1 have.1)

  pub sent_checked : map checked_so_far (sent_pages a server at pages) ≡ map signed_checked (map carrier_of (page_answers a pages))
  sent_checked = all_checked None (page_answers a pages) signable readable
