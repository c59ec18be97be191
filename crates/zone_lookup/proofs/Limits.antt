-- What the chosen message is.
use Rattle.std.proofs.Common.{◌≡◌, ℕ, ◌≤◌, Bool, true, false, List, [], ◌∷◌, refl, ap, ◌∙◌, arith}
use Rattle.std.specs.Prelude.{Option, Some, None, option_map, unwrap_or, filter_map, ◌==◌, if◌then◌else◌}
use Rattle.std.proofs.lemmas.Bool.Decides.{nat_tests}
use Rattle.dns_wire.specs.Wire.{Question, Message, message_wire, fits, qdcount_in}
use Rattle.dns_wire.specs.Parse.{questions_in, sole_question_in, question_at, readings, reading_then}
use Rattle.dns_wire.specs.Reply.{answer_with, error_answer}
use Rattle.zone_lookup.specs.Replies.{Reply}
use Rattle.zone_lookup.specs.Sending.{whole_reply, needed_reply, cut_replies, replies_to, reply_message, reply_for, refusal, first_or_header}
use Rattle.zone_lookup.proofs.Choosing.{chosen, first_is, first_later}

-- ---- within the limit

header_fits : (limit : ℕ) (request : List ℕ) (rcode : ℕ) → 12 ≤ limit → fits limit (message_wire (answer_with request rcode [])) ≡ true
header_fits limit request rcode room = grind (arith, nat_tests)

by_first : (limit : ℕ) (request : List ℕ) (rcode : ℕ) (m : Message) (ms : List Message) → 12 ≤ limit
    → fits limit (message_wire (first_or_header limit request rcode ms)) ≡ true
    → (fit : Bool) → fits limit (message_wire m) ≡ fit → fits limit (message_wire (first_or_header limit request rcode (m ∷ ms))) ≡ true
by_first limit request rcode m ms room rest true fit = ap (λ x. fits limit (message_wire x)) (chosen limit request rcode m ms fit) ∙ fit
by_first limit request rcode m ms room rest false out =
    ap (λ o. fits limit (message_wire (unwrap_or o (answer_with request rcode [])))) (first_later limit m ms out) ∙ rest

chosen_fits : (limit : ℕ) (request : List ℕ) (rcode : ℕ) (messages : List Message) → 12 ≤ limit
    → fits limit (message_wire (first_or_header limit request rcode messages)) ≡ true
chosen_fits limit request rcode [] room = header_fits limit request rcode room
chosen_fits limit request rcode (m ∷ ms) room =
    by_first limit request rcode m ms room (chosen_fits limit request rcode ms room) (fits limit (message_wire m)) refl

reply_fits : (limit : ℕ) (request : List ℕ) (a : Reply) (asked : Option Question) → 12 ≤ limit → fits limit (message_wire (reply_for limit request a asked)) ≡ true
reply_fits limit request a None room = chosen_fits limit request (refusal request) (error_answer limit request (refusal request) ∷ []) room
reply_fits limit request a (Some q) room = chosen_fits limit request a.rcode (replies_to request a q) room

pub within : (limit : ℕ) (request : List ℕ) (a : Reply) → 12 ≤ limit → fits limit (message_wire (reply_message limit request a)) ≡ true
within limit request a room = reply_fits limit request a (sole_question_in request) room

-- ---- the question

one_reading : (found : Option (Question × ℕ)) (q : Question) (rest : ℕ → List (Option Question)) → option_map (λ r. r.0) found ≡ Some q → ((p : ℕ) → rest p ≡ [])
    → filter_map (λ x. x) (reading_then rest found) ≡ q ∷ []
one_reading None q rest is none = cc
one_reading (Some (x, after)) q rest is none =
    let same : x ≡ q = cc in
    ap (λ xs. filter_map (λ y. y) (Some x ∷ xs)) (none after) ∙ ap (λ y. y ∷ []) same

by_count : (request : List ℕ) (q : Question) (n : ℕ) (single : Bool) → (n == 1) ≡ single
    → (if single then option_map (λ r. r.0) (question_at request 12) else None) ≡ Some q
    → filter_map (λ x. x) (readings (question_at request) n 12) ≡ q ∷ []
unfolding readings
by_count request q n true one is =
    let count : n ≡ 1 = grind (arith, nat_tests) in
    ap (λ k. filter_map (λ x. x) (readings (question_at request) k 12)) count ∙ one_reading (question_at request 12) q (readings (question_at request) 0) is (λ p. refl)
by_count request q n false one is = cc

pub asked : (request : List ℕ) (q : Question) → sole_question_in request ≡ Some q → questions_in request ≡ q ∷ []
asked request q is = by_count request q (qdcount_in request) (qdcount_in request == 1) refl is

-- ---- what is left out

pub whole : (limit : ℕ) (request : List ℕ) (a : Reply) (q : Question) → sole_question_in request ≡ Some q → fits limit (message_wire (whole_reply request a q)) ≡ true
    → reply_message limit request a ≡ whole_reply request a q
whole limit request a q is fit =
    ap (reply_for limit request a) is ∙ chosen limit request a.rcode (whole_reply request a q) (needed_reply request a q ∷ cut_replies request a q) fit

needed_by : (limit : ℕ) (request : List ℕ) (a : Reply) (q : Question) → fits limit (message_wire (needed_reply request a q)) ≡ true
    → (fit : Bool) → fits limit (message_wire (whole_reply request a q)) ≡ fit → (reply_for limit request a (Some q)).header.tc ≡ false
needed_by limit request a q has true fit =
    ap (λ (m : Message). m.header.tc) (chosen limit request a.rcode (whole_reply request a q) (needed_reply request a q ∷ cut_replies request a q) fit)
needed_by limit request a q has false out =
    ap (λ o. (unwrap_or o (answer_with request a.rcode [])).header.tc)
    (first_later limit (whole_reply request a q) (needed_reply request a q ∷ cut_replies request a q) out
    ∙ first_is limit (needed_reply request a q) (cut_replies request a q) has)

pub needed : (limit : ℕ) (request : List ℕ) (a : Reply) (q : Question) → sole_question_in request ≡ Some q → fits limit (message_wire (needed_reply request a q)) ≡ true
    → (reply_message limit request a).header.tc ≡ false
needed limit request a q is has =
    ap (λ o. (reply_for limit request a o).header.tc) is ∙ needed_by limit request a q has (fits limit (message_wire (whole_reply request a q))) refl
