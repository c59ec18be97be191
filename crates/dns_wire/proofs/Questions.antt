-- Questions added one after another.
use Rattle.std.proofs.Common.{◌≡◌, ℕ, ◌+◌, ◌-◌, ◌<◌, ◌≤◌, ◌^◌, true, false, List, [], ◌∷◌, ◌++◌, length, take, drop, refl, sym, ap, ◌∙◌, arith, subst}
use Rattle.std.specs.Prelude.{slice_range, nat_le, min, flat_map, Option, None, Some, Ok, Err, filter_map, replicate}
use Rattle.std.specs.Int.{w16, from_be_bytes}
use Rattle.std.proofs.lemmas.Bool.Decides.{nat_tests}
use Rattle.std.proofs.lemmas.List.{append_assoc, append-nil, drop_at, take_at, length-take-le, length-append, length-take, length-drop}
use Rattle.std.proofs.lemmas.Nat.{from_be_bytes-to_be_bytes_2}
use Rattle.dns_name.specs.Octets.{u16_octets}
use Rattle.dns_rdata.specs.Records.{record_wire}
use Rattle.dns_wire.specs.Wire.{Building, Header, Message, Question, question_wire, header_in, header_wire, counts_wire, counts_of, message_wire, in_answer, header_number, with_item, with_question, fits}
use Rattle.dns_wire.specs.Builds.{with_questions, Adds, AddsQuestions, Builds, building}
use Rattle.dns_wire.specs.Parse.{questions_in}
use Rattle.dns_wire.specs.Reply.{answer_header, answer_with, empty_answer}
use Rattle.dns_wire.proofs.Pushing.{message_wire-more_questions}
use Rattle.dns_wire.specs.declared.builder.PushError.{PushError}
use Rattle.dns_wire.specs.declared.builder.PushError.TheVariants.{ShortBuf, CountOverflow, Memory}

-- an item makes no message shorter
pub item_longer : (k : ℕ) (message item : List ℕ) → length message ≤ length (with_item k message item)
item_longer k message item =
    omega (
      arith,
      length-append (take k message ++ u16_octets (header_number k message + 1) ++ drop (k + 2) message) item,
      length-append (take k message ++ u16_octets (header_number k message + 1)) (drop (k + 2) message),
      length-append (take k message) (u16_octets (header_number k message + 1)),
      length-take k message,
      length-drop (k + 2) message,
    )

-- its octets are so many more
pub item_length : (k : ℕ) (message item : List ℕ) → k + 2 ≤ length message → length (with_item k message item) ≡ length message + length item
item_length k message item header =
    let n = u16_octets (header_number k message + 1) in
    omega (
      arith,
      length-append (take k message ++ n ++ drop (k + 2) message) item,
      length-append (take k message ++ n) (drop (k + 2) message),
      length-append (take k message) n,
      length-take-le k message (omega arith),
      length-drop (k + 2) message,
    )

pub questions_longer : (message : List ℕ) (questions : List Question) → length message ≤ length (with_questions message questions)
questions_longer message [] = omega arith
questions_longer message (q ∷ questions) =
    omega (arith, item_longer 4 message (question_wire q), questions_longer (with_question message q) questions)

-- what doesn't fit still doesn't with more after it
pub not_fitting : (limit : ℕ) (message longer : List ℕ) → length message ≤ length longer → fits limit message ≡ false → fits limit longer ≡ false
not_fitting limit message longer more out = grind (arith, nat_tests)

-- the item is counted
pub number_counted : (k : ℕ) (message item : List ℕ) → k ≤ length message → header_number k message + 1 < 2 ^ 16
    → header_number k (with_item k message item) ≡ header_number k message + 1
number_counted k message item header small =
    let n = header_number k message + 1 in
    let front = take k message in
    let long : length front ≡ k = length-take-le k message header in
    let whole : with_item k message item ≡ front ++ (u16_octets n ++ (drop (k + 2) message ++ item)) =
    append_assoc (front ++ u16_octets n) (drop (k + 2) message) item ∙ append_assoc front (u16_octets n) (drop (k + 2) message ++ item) in
    let two : k + 2 - k ≡ 2 = omega arith in
    let there : slice_range (with_item k message item) k (k + 2) ≡ u16_octets n =
    ap (λ xs. take (k + 2 - k) (drop k xs)) whole ∙ ap (λ xs. take (k + 2 - k) xs) (drop_at front _ k long) ∙ take_at (u16_octets n) _ (k + 2 - k) (sym two) in
    ap (λ xs. from_be_bytes w16 xs) there ∙ from_be_bytes-to_be_bytes_2 n small

-- a question that isn't added ends the adding, for the same cause
pub questions_refused : (A B : Type 0) (old now new after : Building) (q : Question) (rest all : List Question) (e : PushError)
    → now.limit ≡ old.limit → with_questions now.octets (q ∷ rest) ≡ with_questions old.octets all
    → header_number 4 now.octets + length (q ∷ rest) ≡ header_number 4 old.octets + length all
    → fits old.limit (with_questions old.octets all) ≡ true → header_number 4 old.octets + length all < 2 ^ 16
    → Adds {A = A} 4 (question_wire q) now (Err e) new → AddsQuestions {A = B} all old (Err e) after
questions_refused A B old now new after q rest all ShortBuf limit same count room few refused =
    let longer = questions_longer (with_question now.octets q) rest in
    let out : fits now.limit (with_questions now.octets (q ∷ rest)) ≡ false = not_fitting now.limit (with_question now.octets q) _ longer refused.0 in
    rw (limit, same) at out
questions_refused A B old now new after q rest all CountOverflow limit same count room few refused = omega (arith, refused.1)
questions_refused A B old now new after q rest all Memory limit same count room few refused = (room, omega (arith, few))

-- ---- an answer of questions alone

-- a question pushed onto the octets is one more in the list
pub one_more_question : (request : List ℕ) (rcode : ℕ) (done : List Question) (q : Question) → length done < 2 ^ 16
    → with_question (message_wire (answer_with request rcode done)) q ≡ message_wire (answer_with request rcode (done ++ q ∷ []))
one_more_question request rcode done q small = sym (message_wire-more_questions (answer_header (header_in request) rcode) done q small)

-- the questions pushed one after another are the list
pub all_questions : (questions : List Question) (request : List ℕ) (rcode : ℕ) (done : List Question) → length done + length questions < 2 ^ 16
    → with_questions (message_wire (answer_with request rcode done)) questions ≡ message_wire (answer_with request rcode (done ++ questions))
all_questions [] request rcode done small = ap (λ qs. message_wire (answer_with request rcode qs)) (sym (append-nil done))
all_questions (q ∷ questions) request rcode done small =
    let few : length done < 2 ^ 16 = omega arith in
    let rest : length (done ++ q ∷ []) + length questions < 2 ^ 16 = omega (arith, length-append done (q ∷ [])) in
    ap (λ m. with_questions m questions) (one_more_question request rcode done q few)
    ∙ all_questions questions request rcode (done ++ q ∷ []) rest
    ∙ ap (λ qs. message_wire (answer_with request rcode qs)) (append_assoc done (q ∷ []) questions)

-- the questions are no more than the readings
pub few_questions : (left : List (Option Question)) → length (filter_map (λ q. q) left) ≤ length left
few_questions [] = omega arith
few_questions (None ∷ left) = omega (arith, few_questions left)
few_questions (Some q ∷ left) = omega (arith, few_questions left)

-- the answer to a request, from a header and no item
pub answered : (request : List ℕ) (rcode : ℕ) → length (questions_in request) < 2 ^ 16
    → with_questions (header_wire (answer_header (header_in request) rcode) ++ replicate 8 0) (questions_in request) ≡ message_wire (empty_answer request rcode)
answered request rcode small = all_questions (questions_in request) request rcode [] (omega arith)

-- the octets of a message are its header's and its items'
pub wire_length : (m : Message) → length (message_wire m)
    ≡ 12 + length (flat_map question_wire m.questions) + length (flat_map record_wire m.answers) + length (flat_map record_wire m.authority) + length (flat_map record_wire m.additional)
wire_length m =
    let front = header_wire m.header ++ counts_wire (counts_of m) in
    let asked = front ++ flat_map question_wire m.questions in
    let replied = asked ++ flat_map record_wire m.answers in
    let referred = replied ++ flat_map record_wire m.authority in
    omega (
      arith,
      length-append front (flat_map question_wire m.questions),
      length-append asked (flat_map record_wire m.answers),
      length-append replied (flat_map record_wire m.authority),
      length-append referred (flat_map record_wire m.additional),
    )

-- a header and questions alone
pub begun_length : (h : Header) (qs : List Question) → 12 + length (flat_map question_wire qs) ≡ length (message_wire (in_answer h qs []))
begun_length h qs = omega (arith, wire_length (in_answer h qs []))

-- so the length of the questions tells whether the answer has room
pub answer_room : (request : List ℕ) (rcode limit len : ℕ) (old : Building) → old ≡ building (header_wire (answer_header (header_in request) rcode) ++ replicate 8 0) limit
    → len ≡ length (flat_map question_wire (questions_in request))
    → nat_le (length old.octets + len) (min old.limit 65535) ≡ fits limit (message_wire (empty_answer request rcode))
answer_room request rcode limit len old begun is =
    let long : length old.octets + len ≡ length (message_wire (empty_answer request rcode)) = rw (begun, is) (omega (arith, wire_length (empty_answer request rcode))) in
    ap (λ (b : Building). nat_le (length old.octets + len) (min b.limit 65535)) begun ∙ ap (λ n. nat_le n (min limit 65535)) long

-- and where it has, its questions have
pub asked_fit : (request : List ℕ) (rcode limit : ℕ) (old : Building) (questions : List Question)
    → old ≡ building (header_wire (answer_header (header_in request) rcode) ++ replicate 8 0) limit
    → questions ≡ questions_in request → length questions < 2 ^ 16
    → fits limit (message_wire (empty_answer request rcode)) ≡ true → fits old.limit (with_questions old.octets questions) ≡ true
asked_fit request rcode limit old questions begun asked small room =
    let few : length (questions_in request) < 2 ^ 16 = rw asked at small in
    let P : List ℕ → Type 0 = λ m. fits limit m ≡ true in
    rw (begun, asked) (subst P (sym (answered request rcode few)) room)

-- no question is counted before the first is added
pub none_asked : (header : Header) (limit : ℕ) (old : Building) → old ≡ building (header_wire header ++ replicate 8 0) limit → header_number 4 old.octets ≡ 0
none_asked header limit old begun = rw begun refl

-- a refused question refuses the answer
pub answer_refused : (A : Type 0) (request : List ℕ) (rcode limit : ℕ) (old new : Building) (questions : List Question) (e : PushError)
    → old ≡ record { octets = header_wire (answer_header (header_in request) rcode) ++ replicate 8 0; limit = limit }
    → questions ≡ questions_in request → length questions < 2 ^ 16
    → AddsQuestions {A = A} questions old (Err e) new → Builds (message_wire (empty_answer request rcode)) limit (Err e)
answer_refused A request rcode limit old new questions ShortBuf begun asked small refused =
    let few : length (questions_in request) < 2 ^ 16 = rw asked at small in
    let out = rw (begun, asked) at refused in
    let P : List ℕ → Type 0 = λ m. fits limit m ≡ false in
    subst P (answered request rcode few) out
answer_refused A request rcode limit old new questions CountOverflow begun asked small refused =
    let out = rw begun at refused in
    absurd (omega (arith, out))
answer_refused A request rcode limit old new questions Memory begun asked small refused =
    let few : length (questions_in request) < 2 ^ 16 = rw asked at small in
    let whole = rw (begun, asked) at refused in
    let P : List ℕ → Type 0 = λ m. fits limit m ≡ true in
    subst P (answered request rcode few) whole.0

-- and all questions make it
pub answer_built : (A : Type 0) (a : A) (request : List ℕ) (rcode limit : ℕ) (old new : Building) (questions : List Question)
    → old ≡ record { octets = header_wire (answer_header (header_in request) rcode) ++ replicate 8 0; limit = limit }
    → questions ≡ questions_in request → length questions < 2 ^ 16
    → AddsQuestions questions old (Ok a) new → Builds (message_wire (empty_answer request rcode)) limit (Ok new)
answer_built A a request rcode limit old new questions begun asked small added =
    let few : length (questions_in request) < 2 ^ 16 = rw asked at small in
    let whole = rw (begun, asked) at added in
    let P : List ℕ → Type 0 = λ m. fits limit m ≡ true in
    (subst P (answered request rcode few) whole.0, whole.1 ∙ ap (λ m. building m limit) (answered request rcode few))
