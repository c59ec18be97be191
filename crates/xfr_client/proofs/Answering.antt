-- Whether a reply answers the request, and what its records make.
use Rattle.std.proofs.Common.{◌≡◌, ℕ, suc, Bool, true, false, not, ◌&&◌, ◌||◌, ◌==◌, if◌then◌else◌, List, [], ◌∷◌, map, length, refl, sym, ap, ◌∙◌, arith, Option, Some, None, Result, Ok, Err}
use Rattle.std.specs.Prelude.{option_map, unwrap_or}
use Rattle.std.proofs.lemmas.Bool.{eq-eqb, eqb-true, ne_eqb, and_left}
use Rattle.std.proofs.Math.Bool.{and-false}
use Rattle.dns_wire.specs.Wire.{Question, same_question, header_in, qdcount_in}
use Rattle.dns_wire.specs.Parse.{Parsed, parsed, question_at, sole_question_in}
use Rattle.xfr_model.specs.Messages.{ReadMessage, message_of, as_read}
use Rattle.xfr_model.specs.Read.{Fault, NotValid, Malformed, OtherAnswer, is_other, is_transfer_head, asks_transfer, first_record_fault, record_item, message_fault, request_fault}
use Rattle.xfr_model.specs.Machine.{Place, Run, run_items, is_at_end}
use Rattle.xfr_client.specs.Interpreting.{Interpreting, Interprets, Refuses, run_from}
use Rattle.xfr_client.specs.Rest.{Rest, asks_again}
use Rattle.xfr_outcomes.specs.declared.protocol.Error.{Error}
use Rattle.xfr_outcomes.specs.declared.protocol.Error.TheVariants as errors
use Rattle.xfr_course.specs.Client.{IsBetween}
use Rattle.xfr_outcomes.specs.declared.outcome.SyncError.TheVariants as why
use Rattle.xfr_client.specs.Ending.{fault_error}
use Rattle.xfr_outcomes.specs.declared.outcome.SyncError.{SyncError}
use Rattle.xfr_client.specs.Replies.{AnswersRequest, IsAnswerTo, ReadsOn}
use Rattle.xfr_client.proofs.MessageParts.{read_parts}
use Rattle.xfr_client.specs.SoFar.{Asking, asked_id, asked_question, asks_other, message_so_far, header_alone}
use Rattle.xfr_client.proofs.ReplyPlaces.{way_open, mode_run}

-- a sole question was counted
pub sole_counted : (o : List ℕ) (q : Question) → sole_question_in o ≡ Some q → qdcount_in o ≡ 1
sole_counted o q h = by (qdcount_in o == 1) refl h
  where
    by : (b : Bool) → (qdcount_in o == 1) ≡ b → (if b then option_map (λ (x : Question × ℕ). x.0) (question_at o 12) else None) ≡ Some q → qdcount_in o ≡ 1
    by true e k = eqb-true (qdcount_in o) 1 e
    by false e k = absurd (cc k)

-- whether the questions are one that isn't the request's
pub asks_found : (o : List ℕ) (m : ReadMessage) (q found : Question) → message_of o ≡ Some m → sole_question_in o ≡ Some found → asks_other q m.questions ≡ not (same_question q found)
asks_found o m q found h e =
    let s = (read_parts o m h).sole (sole_counted o found e) in
    let same : s.0 ≡ found = cc (s.2, e) in
    ap (asks_other q) s.1 ∙ ap (λ p. not (same_question q p)) same

asks_none : (q : Question) (qs : List Question) → (length qs ≡ 1 → ⊥) → asks_other q qs ≡ false
asks_none q [] h = refl
asks_none q (p ∷ []) h = absurd (h refl)
asks_none q (p ∷ r ∷ more) h = refl

pub asks_nothing : (o : List ℕ) (m : ReadMessage) (q : Question) → message_of o ≡ Some m → sole_question_in o ≡ None → asks_other q m.questions ≡ false
asks_nothing o m q h e =
    let p = read_parts o m h in
    asks_none q m.questions (λ one. let s = p.sole (sym p.questions ∙ one) in absurd (cc (s.2, e)))

-- a message that is read, and one of which only the header is
pub is_read : (o : List ℕ) (m : ReadMessage) → message_of o ≡ Some m → message_so_far o ≡ m
unfolding message_so_far
is_read o m h = ap (λ x. unwrap_or x (header_alone o)) h

pub is_unread : (o : List ℕ) → parsed o ≡ None → message_so_far o ≡ header_alone o
unfolding message_so_far
is_unread o h = ap (λ x. unwrap_or (option_map (as_read o) x) (header_alone o)) h

pub header_is : (o : List ℕ) → (message_so_far o).header ≡ header_in o
unfolding message_so_far
header_is o = by (message_of o) refl
  where
    by : (x : Option ReadMessage) → message_of o ≡ x → (unwrap_or x (header_alone o)).header ≡ header_in o
    by None e = refl
    by (Some m) e = (read_parts o m e).header

-- what is another answer, by its id and its questions
not_one : (n : ℕ) → (suc (suc n) == 1) ≡ false
not_one n = grind arith

by_questions : (id : ℕ) (q : Question) (m : ReadMessage) → (m.header.id == id) ≡ true → (qs : List Question) → is_other id q (record m { questions = qs }) ≡ asks_other q qs
by_questions id q m e [] = rw e refl
by_questions id q m e (p ∷ []) = rw e refl
by_questions id q m e (p ∷ r ∷ more) = rw (e, not_one (length more)) refl

pub other_is : (id : ℕ) (q : Question) (m : ReadMessage) → m.header.id ≡ id → is_other id q m ≡ asks_other q m.questions
other_is id q m e = by_questions id q m (eq-eqb m.header.id id e) m.questions

-- another id is another answer
pub other_id : (id : ℕ) (q : Question) (m : ReadMessage) → (m.header.id == id) ≡ false → is_other id q m ≡ true
other_id id q m e = rw e refl

-- a refusal by that test, and one by the message itself
pub refused_other : (id : ℕ) (q : Question) (first : Bool) (m : ReadMessage) → is_other id q m ≡ true → request_fault id q first m ≡ Some OtherAnswer
refused_other id q first m e = ap (λ b. if b then Some OtherAnswer else message_fault first m) e

pub refused_message : (id : ℕ) (q : Question) (first : Bool) (m : ReadMessage) → is_other id q m ≡ false → request_fault id q first m ≡ message_fault first m
refused_message id q first m e = ap (λ b. if b then Some OtherAnswer else message_fault first m) e

-- a header alone is no transfer's
alone_fault : (first : Bool) (o : List ℕ) → message_fault first (header_alone o) ≡ Some NotValid
alone_fault first o =
    let m : ReadMessage = header_alone o in
    let none : is_transfer_head first m ≡ false = and_left _ (if first then false else true) (and_left _ true (and-false (m.header.qr && (m.header.opcode == 0) && not m.header.tc && (m.header.rcode == 0)))) in
    ap (λ b. if not b then Some NotValid else if not first then None else if not (asks_transfer m.questions) then Some Malformed else first_record_fault m.answers) none

pub alone_refused : (id : ℕ) (q : Question) (first : Bool) (o : List ℕ) → (header_in o).id ≡ id → request_fault id q first (header_alone o) ≡ Some NotValid
alone_refused id q first o e = refused_message id q first (header_alone o) (other_is id q (header_alone o) e) ∙ alone_fault first o

-- ---- the tests of a reply

-- octets that parse are read
pub read_parsed : (o : List ℕ) (p : Parsed) → parsed o ≡ Some p → message_of o ≡ Some (message_so_far o)
read_parsed o p e =
    let h : message_of o ≡ Some (as_read o p) = ap (option_map (as_read o)) e in
    h ∙ ap (λ m. Some m) (sym (is_read o (as_read o p) h))

pub id_refused : (id : ℕ) (q : Question) (o : List ℕ) (first : Bool) → ((header_in o).id ≡ id → ⊥) → request_fault id q first (message_so_far o) ≡ Some OtherAnswer
id_refused id q o first ne =
    let m : ReadMessage = message_so_far o in
    refused_other id q first m (other_id id q m (ap (λ h. h.id == id) (header_is o) ∙ ne_eqb (header_in o).id id ne))

pub unread_refused : (id : ℕ) (q : Question) (o : List ℕ) (first : Bool) → (header_in o).id ≡ id → parsed o ≡ None → request_fault id q first (message_so_far o) ≡ Some NotValid
unread_refused id q o first e none = ap (λ m. request_fault id q first m) (is_unread o none) ∙ alone_refused id q first o e

pub other_found : (id : ℕ) (q : Question) (o : List ℕ) (b : Bool) → (header_in o).id ≡ id → b ≡ asks_other q (message_so_far o).questions → is_other id q (message_so_far o) ≡ b
other_found id q o b e h = other_is id q (message_so_far o) (ap (λ h. h.id) (header_is o) ∙ e) ∙ sym h

-- ---- what an interpreter refuses

pub refuses_fault : (a : Asking) (begun : Bool) (p : Place) (i : Interpreting) (m : ReadMessage) (e : Error) → i ≡ record { begun = begun; place = p; signalled = false } → IsBetween begun p a.mode
    → is_other (asked_id a) (asked_question a) m ≡ false → Refuses i m e
    → (f : Fault) × ((request_fault (asked_id a) (asked_question a) (not begun) m ≡ Some f) × (why.Xfr e ≡ fault_error f))
refuses_fault a begun p i m errors.Finished is w mine r = absurd (cc (sym (ap (λ x. x.signalled || is_at_end x.place) is ∙ way_open begun p a.mode w) ∙ r))
refuses_fault a begun p i m errors.NotValidXfrResponse is w mine r =
    (NotValid, (refused_message (asked_id a) (asked_question a) (not begun) m mine ∙ ap (λ x. message_fault (not x.begun) m) (sym is) ∙ r.1, refl))
refuses_fault a begun p i m errors.Malformed is w mine r =
    (Malformed, (refused_message (asked_id a) (asked_question a) (not begun) m mine ∙ ap (λ x. message_fault (not x.begun) m) (sym is) ∙ r.1, refl))
refuses_fault a begun p i m errors.ParseError is w mine r = absurd r

-- .. and what it reads
pub reads_on : (a : Asking) (begun : Bool) (p : Place) (i j : Interpreting) (m : ReadMessage) (rest : Rest) → i ≡ record { begun = begun; place = p; signalled = false } → IsBetween begun p a.mode
    → is_other (asked_id a) (asked_question a) m ≡ false → Interprets i m rest j
    → (request_fault (asked_id a) (asked_question a) (not begun) m ≡ None) × ReadsOn (not begun) (run_items a.mode p (map record_item m.answers)) rest j
reads_on a begun p i j m rest is w mine x =
    let id : ℕ = asked_id a in
    let q : Question = asked_question a in
    let r : Run = run_items a.mode p (map record_item m.answers) in
    let sound : request_fault id q (not begun) m ≡ None = refused_message id q (not begun) m mine ∙ ap (λ y. message_fault (not y.begun) m) (sym is) ∙ x.faultless in
    let run : run_from i m ≡ r = ap (λ y. run_from y m) is ∙ mode_run a.mode id q begun p m refl w sound in
    let again : asks_again (not i.begun) (run_from i m) ≡ asks_again (not begun) r =
    ap (λ y. asks_again (not y.begun) (run_from i m)) is ∙ ap (asks_again (not begun)) run in (
      sound,
      record {
        run = ap (λ y. y.run) x.tells ∙ run;
        retry = ap (λ y. y.retry) x.tells ∙ again;
        stands = x.stands ∙ ap (λ b. record { begun = true; place = (run_from i m).place; signalled = b }) again ∙ ap (λ (y : Run). record { begun = true; place = y.place; signalled = asks_again (not begun) r }) run;
      },
    )

-- a reply that parses answers the request where its questions do
pub parsed_answers : (a : Asking) (o : List ℕ) (p : Parsed) (q : Question) (r : Result (Unit {0}) SyncError) → parsed o ≡ Some p → (header_in o).id ≡ asked_id a → q ≡ asked_question a
    → ((m : ReadMessage) → message_of o ≡ Some m → IsAnswerTo (asks_other q m.questions) r) → AnswersRequest a (message_so_far o) o r
parsed_answers a o p q (Ok u) e i is h =
    let found = read_parsed o p e in
    (other_found (asked_id a) (asked_question a) o false i (sym (ap (λ x. asks_other x (message_so_far o).questions) (sym is) ∙ h (message_so_far o) found)), found)
parsed_answers a o p q (Err x) e i is h =
    let found = read_parsed o p e in
    let other = h (message_so_far o) found in
    let is_so : is_other (asked_id a) (asked_question a) (message_so_far o) ≡ true =
    other_found (asked_id a) (asked_question a) o true i (sym (ap (λ y. asks_other y (message_so_far o).questions) (sym is) ∙ other.0)) in
    (OtherAnswer, (λ first. refused_other (asked_id a) (asked_question a) first (message_so_far o) is_so, other.1))
