-- Questions added up to the first without room.
use Rattle.std.proofs.Common.{◌≡◌, ℕ, suc, ◌<◌, ◌≤◌, ◌^◌, true, false, Bool, List, [], ◌∷◌, ◌++◌, length, drop, refl, ap, ◌∙◌, arith, subst}
use Rattle.std.specs.Prelude.{Ok, Err, replicate, if◌then◌else◌}
use Rattle.std.proofs.lemmas.Bool.Decides.{nat_tests}
use Rattle.dns_wire.specs.Wire.{Building, Header, Question, header_in, header_wire, message_wire, with_question, fits}
use Rattle.dns_wire.specs.Parse.{questions_in}
use Rattle.dns_wire.specs.Reply.{answer_header, answer_with, fitting, fitting_in, error_answer}
use Rattle.dns_wire.specs.Builds.{with_questions, AddsFitting, Builds, building}
use Rattle.dns_wire.proofs.Questions.{all_questions}
use Rattle.dns_wire.specs.declared.builder.PushError.{PushError}
use Rattle.dns_wire.specs.declared.builder.PushError.TheVariants.{ShortBuf, CountOverflow, Memory}

-- the fitting questions are no more than all
few_here : (here : Bool) (rest : List Question) (q : Question) (n : ℕ) → length rest ≤ n → length (if here then q ∷ rest else []) ≤ suc n
few_here true rest q n few = omega arith
few_here false rest q n few = omega arith

pub fitting_few : (limit : ℕ) (message : List ℕ) (questions : List Question) → length (fitting limit message questions) ≤ length questions
fitting_few limit message [] = omega arith
fitting_few limit message (q ∷ questions) =
    few_here (fits limit (with_question message q)) (fitting limit (with_question message q) questions) q (length questions) (fitting_few limit (with_question message q) questions)

-- and the message has room for them
room_here : (here : Bool) (limit : ℕ) (message : List ℕ) (rest : List Question) (q : Question) → fits limit (with_question message q) ≡ here
    → fits limit message ≡ true → (fits limit (with_question message q) ≡ true → fits limit (with_questions (with_question message q) rest) ≡ true)
    → fits limit (with_questions message (if here then q ∷ rest else [])) ≡ true
room_here true limit message rest q is room more = more is
room_here false limit message rest q is room more = room

pub fitting_fits : (limit : ℕ) (message : List ℕ) (questions : List Question) → fits limit message ≡ true
    → fits limit (with_questions message (fitting limit message questions)) ≡ true
fitting_fits limit message [] room = room
fitting_fits limit message (q ∷ questions) room =
    room_here (fits limit (with_question message q)) limit message (fitting limit (with_question message q) questions) q refl room
    (fitting_fits limit (with_question message q) questions)

-- a request's questions can be counted, so only want of memory refuses an answer that fits
pub error_refused : (octets : List ℕ) (limit : ℕ) (header : Header) (old new : Building) (questions : List Question) (e : PushError)
    → fits limit octets ≡ true → old ≡ building (header_wire header ++ replicate 8 0) limit → length questions < 2 ^ 16
    → AddsFitting questions old (Err e) new → Builds octets limit (Err e)
error_refused octets limit header old new questions ShortBuf room begun small refused = absurd refused
error_refused octets limit header old new questions CountOverflow room begun small refused =
    let out = rw begun at refused in
    absurd (omega (arith, out))
error_refused octets limit header old new questions Memory room begun small refused = room

-- an error answer has room where its header has
pub error_fits : (limit rcode : ℕ) (request : List ℕ) → 12 ≤ limit → length (questions_in request) < 2 ^ 16
    → fits limit (message_wire (error_answer limit request rcode)) ≡ true
error_fits limit rcode request room small =
    let start = message_wire (answer_with request 0 []) in
    let fit = fitting_in limit request in
    let begins : fits limit start ≡ true = grind (arith, nat_tests) in
    let listed : with_questions start fit ≡ message_wire (answer_with request 0 fit) =
    all_questions fit request 0 [] (omega (arith, fitting_few limit start (questions_in request))) in
    let P : List ℕ → Type 0 = λ m. fits limit m ≡ true in
    subst P listed (fitting_fits limit start (questions_in request) begins)

-- the questions that fit, and the rcode after them, are the error answer
pub error_built : (request : List ℕ) (rcode limit : ℕ) (all : Bool) (old now new : Building) (questions : List Question)
    → old ≡ building (header_wire (answer_header (header_in request) 0) ++ replicate 8 0) limit
    → questions ≡ questions_in request → length questions < 2 ^ 16 → length old.octets ≤ old.limit
    → AddsFitting questions old (Ok all) now
    → new ≡ building (header_wire (answer_header (header_in request) (if all then rcode else 2)) ++ drop 4 now.octets) now.limit
    → Builds (message_wire (error_answer limit request rcode)) limit (Ok new)
error_built request rcode limit all old now new questions begun asked small room added headed =
    let start = message_wire (answer_with request 0 []) in
    let fit = fitting_in limit request in
    let few : length (questions_in request) < 2 ^ 16 = rw asked at small in
    let twelve : 12 ≤ limit = rw begun at room in
    let whole = rw (begun, asked) at added in
    let listed : with_questions start fit ≡ message_wire (answer_with request 0 fit) =
    all_questions fit request 0 [] (omega (arith, fitting_few limit start (questions_in request))) in
    let octets : now.octets ≡ message_wire (answer_with request 0 fit) = ap (λ (b : Building). b.octets) whole.0 ∙ listed in (
      error_fits limit rcode request twelve few,
      headed ∙ ap (λ o. building (header_wire (answer_header (header_in request) (if all then rcode else 2)) ++ drop 4 o) now.limit) octets
          ∙ ap (λ (b : Building). building (message_wire (answer_with request (if all then rcode else 2) fit)) b.limit) whole.0
          ∙ ap (λ b. building (message_wire (answer_with request (if b then rcode else 2) fit)) limit) whole.1,
    )
