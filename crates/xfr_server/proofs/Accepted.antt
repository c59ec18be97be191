-- How a client that asked takes the messages of a transfer.
use Rattle.std.proofs.Common.{◌≡◌, ℕ, ◌≤◌, ◌<◌, ◌^◌, suc, Bool, true, false, ◌||◌, not, cond, List, [], ◌∷◌, ◌++◌, length, map, Option, Some, None, refl, sym, ap, ◌∙◌, arith, subst, eq-eqb, lit<}
use Rattle.std.specs.Prelude.{◌==◌, option_map, option_and_then, filter_map, flat_map}
use Rattle.std.specs.Option.{option_map_or}
use Rattle.std.specs.List.{AllByRecursion}
use Rattle.std.proofs.lemmas.Bool.Decides.{nat_tests}
use Rattle.dns_name.specs.Names.{same_name}
use Rattle.dns_numbers.specs.Codes.{type_soa, type_axfr, type_ixfr}
use Rattle.dns_rdata.specs.Records.{Field, Record}
use Rattle.dns_wire.specs.Wire.{Header, Question, same_question, flags_word, header_of, header_in, id_in, qdcount_in}
use Rattle.dns_wire.specs.Parse.{Parsed, parsed, readings, question_at, questions_in, sole_question_in, message_end}
use Rattle.dns_wire.specs.Written.{IsQuestion, parsed_of}
use Rattle.dns_wire.proofs.Headers.{header_of-flags_word, word_small}
use Rattle.dns_wire.proofs.Parsing.{unread, reads}
use Rattle.zone_model.specs.Version.{RecordSet, Version}
use Rattle.zone_model.specs.Answer.{first_only, records_of, records_of_option}
use Rattle.xfr_model.specs.Messages.{ReadMessage, read_of}
use Rattle.xfr_model.specs.Read.{request_fault}
use Rattle.zone_model.specs.TransferText.{is_soa}
use Rattle.zone_model.proofs.Folded.{same_name-Decides}
use Rattle.xfr_batch.specs.XfrBatches.{axfr_header}
use Rattle.xfr_replies.specs.TransferPages.{page_answer}
use Rattle.xfr_server.specs.Transfers.{transfer_mode, mode_of_type}
use Rattle.xfr_server.specs.GrantedTransfers.{begins_with_soa, WholeIsTaken, TransferIsMessage}
use Rattle.xfr_services.specs.declared.modes.XfrMode.{XfrMode}
use Rattle.xfr_services.specs.declared.modes.XfrMode.TheVariants.{Axfr, Ixfr}
use Rattle.xfr_server.proofs.Pages.{IsPage, each_page}

-- ---- the request

mode_cases : (b : Bool) (o : Option XfrMode) (mode : XfrMode) → cond b None o ≡ Some mode → o ≡ Some mode
mode_cases true o mode e = cc
mode_cases false o mode e = e

-- whether one of two types is asked for
mode_type : (full incremental : Bool) (mode : XfrMode) → cond full (Some Axfr) (cond incremental (Some Ixfr) None) ≡ Some mode → (full || incremental) ≡ true
mode_type true incremental mode e = refl
mode_type false true mode e = refl
mode_type false false mode e = cc

-- it asks for a transfer
asks_one : (message : List ℕ) (q : Question) (mode : XfrMode) → transfer_mode message ≡ Some mode → sole_question_in message ≡ Some q
    → ((q.qtype == type_axfr) || (q.qtype == type_ixfr)) ≡ true
asks_one message q mode asks sole =
    let h = header_in message in
    let one = mode_cases (h.qr || not (h.opcode == 0)) (option_and_then (λ (p : Question). mode_of_type p.qtype) (sole_question_in message)) mode asks in
    let by : mode_of_type q.qtype ≡ Some mode = sym (ap (option_and_then (λ (p : Question). mode_of_type p.qtype)) sole) ∙ one in
    mode_type (q.qtype == type_axfr) (q.qtype == type_ixfr) mode by

-- its question is the only one
one_reading : (item : ℕ → Option (Question × ℕ)) (r : Option (Question × ℕ)) (q : Question) → item 12 ≡ r → option_map (λ x. x.0) r ≡ Some q → filter_map (λ x. x) (readings item 1 12) ≡ q ∷ []
unfolding readings
one_reading item None q is e = cc
one_reading item (Some x) q is e = let same : x.0 ≡ q = cc in rw is (ap (λ y. y ∷ []) same)

one_question : (n : ℕ) (item : ℕ → Option (Question × ℕ)) (q : Question) (b : Bool) → (n == 1) ≡ b → cond b (option_map (λ x. x.0) (item 12)) None ≡ Some q
    → filter_map (λ x. x) (readings item n 12) ≡ q ∷ []
one_question n item q true is e =
    let one : n ≡ 1 = grind (arith, nat_tests) in
    ap (λ k. filter_map (λ x. x) (readings item k 12)) one ∙ one_reading item (item 12) q refl e
one_question n item q false is e = cc

asked_alone : (message : List ℕ) (q : Question) → sole_question_in message ≡ Some q → questions_in message ≡ q ∷ []
asked_alone message q sole = one_question (qdcount_in message) (question_at message) q (qdcount_in message == 1) refl sole

-- ---- the answer

-- a version with one apex SOA has its record
soa_of_items : (v : Version) (ttl : ℕ) (items : List (List Field)) → (length items == 1) ≡ true
    → (r : Record) × ((records_of v.apex type_soa v.class (first_only (record { ttl = ttl; items = items })) ≡ r ∷ []) × (is_soa r ≡ true))
soa_of_items v ttl [] e = cc
soa_of_items v ttl (d ∷ more) e = (record { owner = v.apex; rtype = type_soa; class = v.class; ttl = ttl; fields = d }, (refl, refl))

pub soa_of : (v : Version) (o : Option RecordSet) → (length (option_map_or (λ (s : RecordSet). s.items) o []) == 1) ≡ true
    → (r : Record) × ((records_of_option v.apex type_soa v.class (option_map first_only o) ≡ r ∷ []) × (is_soa r ≡ true))
soa_of v None e = cc
soa_of v (Some s) e = soa_of_items v s.ttl s.items e

same_alone : (q : Question) → same_question q q ≡ true
same_alone q =
    let name : same_name q.qname q.qname ≡ true = (same_name-Decides q.qname q.qname).1 refl in
    let type : (q.qtype == q.qtype) ≡ true = eq-eqb q.qtype q.qtype refl in
    let class : (q.qclass == q.qclass) ≡ true = eq-eqb q.qclass q.qclass refl in
    rw (name, type, class) refl

not_none : (n : ℕ) → (suc n == 0) ≡ false
not_none n = grind (arith, nat_tests)

-- the message as it is read
abbrev read_with : Header → List Question → List Record → ReadMessage
read_with h qs rs = record { header = axfr_header h; questions = qs; answers = map Some rs; authority = 0 }

taken_first : (h : Header) (q : Question) (r : Record) (rest : List Record) (full incremental : Bool) → (q.qtype == type_axfr) ≡ full → (q.qtype == type_ixfr) ≡ incremental
    → (full || incremental) ≡ true → is_soa r ≡ true → request_fault h.id q true (read_with h (q ∷ []) (r ∷ rest)) ≡ None
taken_first h q r rest full incremental is_full is_incremental asks soa =
    let id : (h.id == h.id) ≡ true = eq-eqb h.id h.id refl in
    let some : (suc (length (map Some rest)) == 0) ≡ false = not_none (length (map Some rest)) in
    by full incremental is_full is_incremental asks id some
  where
    by : (full incremental : Bool) → (q.qtype == type_axfr) ≡ full → (q.qtype == type_ixfr) ≡ incremental → (full || incremental) ≡ true
        → (h.id == h.id) ≡ true → (suc (length (map Some rest)) == 0) ≡ false → request_fault h.id q true (read_with h (q ∷ []) (r ∷ rest)) ≡ None
    by true incremental is_full is_incremental asks id some = rw (id, same_alone q, some, is_full, soa) refl
    by false true is_full is_incremental asks id some = rw (id, same_alone q, some, is_full, is_incremental, soa) refl
    by false false is_full is_incremental asks id some = cc

taken_later : (h : Header) (q : Question) (r : Record) (rest : List Record) → request_fault h.id q false (read_with h (q ∷ []) (r ∷ rest)) ≡ None
taken_later h q r rest =
    let id : (h.id == h.id) ≡ true = eq-eqb h.id h.id refl in
    let some : (suc (length (map Some rest)) == 0) ≡ false = not_none (length (map Some rest)) in
    rw (id, same_alone q, some) refl

header_again : (h : Header) → header_of (axfr_header h).id (flags_word (axfr_header h)) ≡ axfr_header h
header_again h = header_of-flags_word (axfr_header h) (lit< tt) (lit< tt)

-- an answer with a page to a request with this question alone, as it is read
read_page : (message : List ℕ) (q : Question) (page : List Record) → questions_in message ≡ q ∷ [] → read_of (page_answer message page) ≡ read_with (header_in message) (q ∷ []) page
read_page message q page asked =
    let h = header_in message in
    ap (λ head. record { header = head; questions = questions_in message; answers = map Some page; authority = 0 }) (header_again h)
    ∙ ap (λ qs. read_with h qs page) asked

-- a page of a text that begins with an SOA
first_taken : (message : List ℕ) (q : Question) (page behind text : List Record) → questions_in message ≡ q ∷ [] → ((q.qtype == type_axfr) || (q.qtype == type_ixfr)) ≡ true
    → begins_with_soa text ≡ true → 1 ≤ length page → page ++ behind ≡ text → request_fault (id_in message) q true (read_of (page_answer message page)) ≡ None
first_taken message q [] behind text asked asks soa some joined = absurd (omega (arith, some))
first_taken message q (x ∷ page) behind text asked asks soa some joined =
    ap (request_fault (header_in message).id q true) (read_page message q (x ∷ page) asked)
    ∙ taken_first (header_in message) q x page (q.qtype == type_axfr) (q.qtype == type_ixfr) refl refl asks (ap begins_with_soa joined ∙ soa)

later_taken : (message : List ℕ) (q : Question) (page : List Record) → questions_in message ≡ q ∷ [] → 1 ≤ length page → request_fault (id_in message) q false (read_of (page_answer message page)) ≡ None
later_taken message q [] asked some = absurd (omega (arith, some))
later_taken message q (x ∷ page) asked some =
    ap (request_fault (header_in message).id q false) (read_page message q (x ∷ page) asked) ∙ taken_later (header_in message) q x page

all_later : (message : List ℕ) (q : Question) (room : ℕ) (pages : List (List Record)) → questions_in message ≡ q ∷ [] → AllByRecursion (IsPage room) pages
    → AllByRecursion (λ page. request_fault (id_in message) q false (read_of (page_answer message page)) ≡ None) pages
all_later message q room [] asked each = tt
all_later message q room (page ∷ more) asked each = (later_taken message q page asked each.0.0, all_later message q room more asked each.1)

pub whole_is_taken : WholeIsTaken
whole_is_taken message q mode text room singles page more asks sole begins cut =
    let asked = asked_alone message q sole in
    let each = each_page room singles (page ∷ more) cut.filled in (
      first_taken message q page (flat_map (λ p. p) more) text asked (asks_one message q mode asks sole) begins each.0.0 cut.joined,
      all_later message q room more asked each.1,
    )

-- ---- a message that has a wire form

some_inj : {X : Type 0} (x y : X) → Some x ≡ Some y → x ≡ y
some_inj x y e = cc

all_some : {X : Type 0} (xs : List X) → filter_map (λ (x : Option X). x) (map (λ x. Some x) xs) ≡ xs
all_some [] = refl
all_some (x ∷ xs) = ap (λ ys. x ∷ ys) (all_some xs)

-- what a message parses to, its header and questions
parsed_parts : (message : List ℕ) (p : Parsed) (end : Option ℕ) → 12 ≤ length message → message_end message ≡ end → parsed message ≡ Some p
    → (header_in message ≡ p.header) × (questions_in message ≡ p.questions)
parsed_parts message p None header is whole = let not : parsed message ≡ None = unread message header is in absurd (cc)
parsed_parts message p (Some end) header is whole =
    let r = reads message end header is in
    let same : r.0 ≡ p = some_inj r.0 p (sym r.1.whole ∙ whole) in
    (sym r.1.head ∙ ap (λ (x : Parsed). x.header) same, ap (filter_map (λ x. x)) r.1.asked ∙ all_some r.0.questions ∙ ap (λ (x : Parsed). x.questions) same)

pub transfer_is_message : TransferIsMessage
transfer_is_message message asked rs header built whole records few =
    let parts = parsed_parts message (parsed_of asked) (message_end message) header refl whole in
    let h = header_in message in
    let id : h.id ≡ asked.header.id = ap (λ (x : Header). x.id) parts.0 in
    let id_small = built.id in
    let P : List Question → Type 0 = λ qs. AllByRecursion IsQuestion qs in
    let Q : List Question → Type 0 = λ qs. length qs < 2 ^ 16 in
    record {
      id = omega (arith, id, id_small);
      flags = word_small (axfr_header h) (lit< tt) (lit< tt);
      questions = subst P (sym parts.1) built.questions;
      answers = records;
      authority = tt;
      additional = tt;
      qdcount = subst Q (sym parts.1) built.qdcount;
      ancount = few;
      nscount = lit< tt;
      arcount = lit< tt;
    }
