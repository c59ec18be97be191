-- A section that is taken back from a message that was built leaves the message without it.
use Rattle.std.proofs.Common.{◌≡◌, ℕ, ◌+◌, List, [], ◌++◌, length, length-append, take, Some, refl, ap, sym, ◌∙◌, Option}
use Rattle.std.specs.Prelude.{flat_map, option_map}
use Rattle.std.proofs.lemmas.List.{append_assoc, append-nil, take_at}
use Rattle.std.proofs.lemmas.Nat.{from_be_bytes-to_be_bytes_2}
use Rattle.dns_name.specs.Octets.{◌>>=◌, u16_octets}
use Rattle.dns_rdata.specs.Records.{Record, record_wire}
use Rattle.dns_rdata.specs.Heads.{RawRecord, raw_record_at}
use Rattle.dns_wire.specs.Wire.{Header, Question, Message, Building, question_wire, header_wire, counts_wire, counts_of, message_wire, in_answer, in_authority, qdcount_in, ancount_in, nscount_in}
use Rattle.dns_wire.specs.Numbers.{with_number}
use Rattle.dns_wire.specs.Parse.{question_at, after_items, answers_start, authority_start, additional_start}
use Rattle.dns_wire.specs.Written.{IsMessage}
use Rattle.dns_wire.specs.Builds.{building, cut_at, rewound}
use Rattle.dns_wire.proofs.ItemWriting.{questions_read, records_read, shifted}

-- the octets of a message with these counts
abbrev counted_items : Header → ℕ → ℕ → ℕ → ℕ → List ℕ → List ℕ
counted_items h qd an ns ar rest = header_wire h ++ u16_octets qd ++ u16_octets an ++ u16_octets ns ++ u16_octets ar ++ rest

module _ (m : Message) where
  abbrev head : List ℕ
  head = header_wire m.header ++ counts_wire (counts_of m)

  abbrev asked : List ℕ
  asked = flat_map question_wire m.questions

  abbrev answered : List ℕ
  answered = flat_map record_wire m.answers

  abbrev authorities : List ℕ
  authorities = flat_map record_wire m.authority

  abbrev others : List ℕ
  others = flat_map record_wire m.additional

  -- the octets before a section and the others
  at_questions : message_wire m ≡ head ++ (asked ++ (answered ++ (authorities ++ others)))
  at_questions = ap (λ x. head ++ x) (append_assoc (asked ++ answered) authorities others ∙ append_assoc asked answered (authorities ++ others))

  at_answers : message_wire m ≡ (head ++ asked) ++ (answered ++ (authorities ++ others))
  at_answers = at_questions ∙ shifted head asked (answered ++ (authorities ++ others))

  at_authority : message_wire m ≡ (head ++ asked ++ answered) ++ (authorities ++ others)
  at_authority = at_answers ∙ shifted (head ++ asked) answered (authorities ++ others)

  at_additional : message_wire m ≡ (head ++ asked ++ answered ++ authorities) ++ others
  at_additional = at_authority ∙ shifted (head ++ asked ++ answered) authorities others

  length_asked : length (head ++ asked) ≡ 12 + length asked
  length_asked = length-append head asked

  length_answered : length (head ++ asked ++ answered) ≡ 12 + length asked + length answered
  length_answered = length-append (head ++ asked) answered ∙ ap (λ k. k + length answered) length_asked

  length_authorities : length (head ++ asked ++ answered ++ authorities) ≡ 12 + length asked + length answered + length authorities
  length_authorities = length-append (head ++ asked ++ answered) authorities ∙ ap (λ k. k + length authorities) length_answered

  -- where its sections begin
  answers_begin : IsMessage m → answers_start (message_wire m) ≡ Some (12 + length asked)
  answers_begin ok =
      let text = message_wire m in
      let counted : qdcount_in text ≡ length m.questions = from_be_bytes-to_be_bytes_2 (length m.questions) ok.qdcount in
      ap (λ n. after_items (question_at text) n 12) counted
      ∙ ap (λ o. option_map {T = List Question × ℕ} (λ r. r.1) o) (questions_read text 12 m.questions head (answered ++ (authorities ++ others)) at_questions refl ok.questions)

  authority_begin : IsMessage m → authority_start (message_wire m) ≡ Some (12 + length asked + length answered)
  authority_begin ok =
      let text = message_wire m in
      let counted : ancount_in text ≡ length m.answers = from_be_bytes-to_be_bytes_2 (length m.answers) ok.ancount in
      ap (λ o. o >>= after_items (raw_record_at text) (ancount_in text)) (answers_begin ok)
      ∙ ap (λ n. after_items (raw_record_at text) n (12 + length asked)) counted
      ∙ ap (λ o. option_map {T = List RawRecord × ℕ} (λ r. r.1) o)
      (records_read text (12 + length asked) m.answers (head ++ asked) (authorities ++ others) at_answers length_asked ok.answers)

  additional_begin : IsMessage m → additional_start (message_wire m) ≡ Some (12 + length asked + length answered + length authorities)
  additional_begin ok =
      let text = message_wire m in
      let counted : nscount_in text ≡ length m.authority = from_be_bytes-to_be_bytes_2 (length m.authority) ok.nscount in
      ap (λ o. o >>= after_items (raw_record_at text) (nscount_in text)) (authority_begin ok)
      ∙ ap (λ n. after_items (raw_record_at text) n (12 + length asked + length answered)) counted
      ∙ ap (λ o. option_map {T = List RawRecord × ℕ} (λ r. r.1) o)
      (records_read text (12 + length asked + length answered) m.authority (head ++ asked ++ answered) others at_authority length_answered ok.authority)

  -- and what stands before them
  before_answers : take (12 + length asked) (message_wire m) ≡ head ++ asked
  before_answers = ap (λ o. take (12 + length asked) o) at_answers ∙ take_at (head ++ asked) _ _ length_asked

  before_authority : take (12 + length asked + length answered) (message_wire m) ≡ head ++ asked ++ answered
  before_authority = ap (λ o. take (12 + length asked + length answered) o) at_authority ∙ take_at (head ++ asked ++ answered) _ _ length_answered

  before_additional : take (12 + length asked + length answered + length authorities) (message_wire m) ≡ head ++ asked ++ answered ++ authorities
  before_additional =
      ap (λ o. take (12 + length asked + length answered + length authorities) o) at_additional
      ∙ take_at (head ++ asked ++ answered ++ authorities) _ _ length_authorities

  -- a section cut off where it begins
  cut_off : (k start : ℕ) (begin : Option ℕ) (front : List ℕ) (old new : Building) → old.octets ≡ message_wire m
      → begin ≡ Some start → take start (message_wire m) ≡ front
      → new ≡ rewound k begin old → new ≡ building (with_number k front 0) old.limit
  cut_off k start begin front old new whole begins before is =
      is ∙ ap (λ b. rewound k b old) begins
      ∙ ap (λ o. building (with_number k (take start o) 0) old.limit) whole
      ∙ ap (λ f. building (with_number k f 0) old.limit) before

-- ---- the sections

pub questions_rewound : (old new : Building) → new ≡ cut_at 4 12 old → (header : Header) (questions : List Question)
    → old.octets ≡ message_wire (in_answer header questions []) → new ≡ building (message_wire (in_answer header [] [])) old.limit
questions_rewound old new is header questions whole = is ∙ ap (λ o. building (with_number 4 (take 12 o) 0) old.limit) whole

pub answers_rewound : (old new : Building) → new ≡ rewound 6 (answers_start old.octets) old → (header : Header) (questions : List Question) (answers : List Record)
    → IsMessage (in_answer header questions answers) → old.octets ≡ message_wire (in_answer header questions answers)
    → new ≡ building (message_wire (in_answer header questions [])) old.limit
answers_rewound old new is header questions answers ok whole =
    let m = in_answer header questions answers in
    let q = flat_map question_wire questions in
    let nils : q ++ [] ++ [] ++ [] ≡ q = append-nil (q ++ [] ++ []) ∙ append-nil (q ++ []) ∙ append-nil q in
    cut_off m 6 _ _ _ old new whole (ap (λ o. answers_start o) whole ∙ answers_begin m ok) (before_answers m) is
    ∙ ap (λ rest. building (counted_items header (length questions) 0 0 0 rest) old.limit) (sym nils)

pub authority_rewound : (old new : Building) → new ≡ rewound 8 (authority_start old.octets) old
    → (header : Header) (questions : List Question) (answers authority : List Record)
    → IsMessage (in_authority header questions answers authority) → old.octets ≡ message_wire (in_authority header questions answers authority)
    → new ≡ building (message_wire (in_answer header questions answers)) old.limit
authority_rewound old new is header questions answers authority ok whole =
    let m = in_authority header questions answers authority in
    let front = flat_map question_wire questions ++ flat_map record_wire answers in
    let nils : front ++ [] ++ [] ≡ front = append-nil (front ++ []) ∙ append-nil front in
    cut_off m 8 _ _ _ old new whole (ap (λ o. authority_start o) whole ∙ authority_begin m ok) (before_authority m) is
    ∙ ap (λ rest. building (counted_items header (length questions) (length answers) 0 0 rest) old.limit) (sym nils)

pub additional_rewound : (old new : Building) → new ≡ rewound 10 (additional_start old.octets) old → (m : Message)
    → IsMessage m → old.octets ≡ message_wire m → new ≡ building (message_wire (record m { additional = [] })) old.limit
additional_rewound old new is m ok whole =
    let front = flat_map question_wire m.questions ++ flat_map record_wire m.answers ++ flat_map record_wire m.authority in
    cut_off m 10 _ _ _ old new whole (ap (λ o. additional_start o) whole ∙ additional_begin m ok) (before_additional m) is
    ∙ ap (λ rest. building (counted_items m.header (length m.questions) (length m.answers) (length m.authority) 0 rest) old.limit) (sym (append-nil front))
