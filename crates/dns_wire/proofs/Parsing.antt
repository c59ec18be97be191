-- A message parses exactly where its last counted item can be reached, and its sections are then read whole.
use Rattle.std.proofs.Common.{◌≡◌, ℕ, zero, suc, ◌+◌, ◌≤◌, true, List, [], ◌∷◌, length, map, Some, None, refl, sym, ap, ◌∙◌, arith, nat_le, le-leb}
use Rattle.std.specs.Prelude.{Option, option_map}
use Rattle.std.specs.Option.{option_map_or}
use Rattle.dns_name.specs.Octets.{◌>>=◌, u16_at}
use Rattle.dns_rdata.specs.Heads.{RawRecord, raw_record_at}
use Rattle.dns_wire.specs.Wire.{Question, header_in, header_number, qdcount_in, ancount_in, nscount_in, arcount_in}
use Rattle.dns_wire.specs.Parse.{Parsed, parsed, question_at, items_at, after_items, readings, reading_then, section_readings, answers_start, authority_start, additional_start, message_end}
use Rattle.dns_wire.specs.Reads.{ReadsAs}

-- a number of the header is there
number_at_head : (k : ℕ) (message : List ℕ) → k + 2 ≤ length message → u16_at message k ≡ Some (header_number k message, k + 2)
number_at_head k message inside =
    let there : nat_le (k + 2) (length message) ≡ true = le-leb _ _ inside in
    rw there refl

-- ---- the readings of items that are all there

-- the parts of a reading
abbrev found_items : {X : Type 0} → Option (List X × ℕ) → List X
found_items {X} found = option_map_or {T = List X × ℕ} (λ r. r.0) found []

abbrev found_end : {X : Type 0} → Option (List X × ℕ) → ℕ
found_end {X} found = option_map_or {T = List X × ℕ} (λ r. r.1) found 0

-- one more item in front
abbrev with_first : {X : Type 0} → X → List X × ℕ → Option (List X × ℕ)
with_first x r = Some (x ∷ r.0, r.1)

record Rest {X : Type 0} (x : X) (rest : Option (List X × ℕ)) (xs : List X) (q : ℕ) : Type 0 where
  others : List X
  is : rest ≡ Some (others, q)
  all : xs ≡ x ∷ others

rest_read : {X : Type 0} (x : X) (rest : Option (List X × ℕ)) (xs : List X) (q : ℕ) → rest >>= with_first x ≡ Some (xs, q) → Rest x rest xs q
rest_read x None xs q e = absurd (cc)
rest_read x (Some r) xs q e =
    record { others = r.0; is = ap (λ k. Some (r.0, k)) (ap found_end e); all = sym (ap found_items e) }

read_then : {X : Type 0} (item : ℕ → Option (X × ℕ)) (n : ℕ) (first : Option (X × ℕ)) (xs : List X) (q : ℕ)
    → ((p : ℕ) (ys : List X) (q : ℕ) → items_at item n p ≡ Some (ys, q) → readings item n p ≡ map (λ y. Some y) ys)
    → first >>= (λ r. items_at item n r.1 >>= with_first r.0) ≡ Some (xs, q)
    → reading_then (readings item n) first ≡ map (λ x. Some x) xs
read_then item n None xs q rest e = absurd (cc)
read_then item n (Some r) xs q rest e =
    let h = rest_read r.0 (items_at item n r.1) xs q e in
    ap (λ ys. Some r.0 ∷ ys) (rest r.1 h.others q h.is) ∙ sym (ap (λ ys. map (λ y. Some y) ys) h.all)

pub all_read : {X : Type 0} (item : ℕ → Option (X × ℕ)) (n p : ℕ) (xs : List X) (q : ℕ) → items_at item n p ≡ Some (xs, q)
    → readings item n p ≡ map (λ x. Some x) xs
unfolding items_at readings
all_read item zero p xs q e = ap (λ ys. map (λ y. Some y) ys) (ap found_items e)
all_read item (suc n) p xs q e = read_then item n (item p) xs q (all_read item n) e

-- ---- one section after the other

regroup : (found : Option ℕ) (next last : ℕ → Option ℕ) → (found >>= next) >>= last ≡ found >>= (λ p. next p >>= last)
regroup None next last = refl
regroup (Some p) next last = refl

-- where a section's items end
abbrev end_of : {X : Type 0} → Option (List X × ℕ) → Option ℕ
end_of {X} found = option_map {T = List X × ℕ} (λ r. r.1) found

-- a section that has no end isn't read, nor is one that has none after it
without : {X Y : Type 0} (found : Option (List X × ℕ)) (next : ℕ → Option ℕ) (result : List X × ℕ → Option Y)
    → ((r : List X × ℕ) → next r.1 ≡ None → result r ≡ None) → end_of found >>= next ≡ None → found >>= result ≡ None
without None next result rest e = refl
without (Some r) next result rest e = rest r e

without_last : {X Y : Type 0} (found : Option (List X × ℕ)) (result : List X × ℕ → Option Y) → end_of found ≡ None → found >>= result ≡ None
without_last None result e = refl
without_last (Some r) result e = absurd (cc)

-- a section after which an end was reached was read
record Ends {X : Type 0} (found : Option (List X × ℕ)) (next : ℕ → Option ℕ) (end : ℕ) : Type 0 where
  items : List X
  after : ℕ
  is : found ≡ Some (items, after)
  goes : next after ≡ Some end

ends : {X : Type 0} (found : Option (List X × ℕ)) (next : ℕ → Option ℕ) (end : ℕ) → end_of found >>= next ≡ Some end → Ends found next end
ends None next end e = absurd (cc)
ends (Some r) next end e = record { items = r.0; after = r.1; is = refl; goes = e }

ends_last : {X : Type 0} (found : Option (List X × ℕ)) (end : ℕ) → end_of found ≡ Some end → (items : List X) × (found ≡ Some (items, end))
ends_last None end e = absurd (cc)
ends_last (Some r) end e = (r.0, ap (λ k. Some (r.0, k)) (ap (λ o. option_map_or (λ k. k) o 0) e))

-- ---- the whole message

module _ (message : List ℕ) where
  abbrev asked : Option (List Question × ℕ)
  asked = items_at (question_at message) (qdcount_in message) 12

  abbrev records : ℕ → ℕ → Option (List RawRecord × ℕ)
  records n p = items_at (raw_record_at message) n p

  -- where the message ends, its sections from a place on being left
  abbrev from_additional : ℕ → Option ℕ
  from_additional p = end_of (records (arcount_in message) p)

  abbrev from_authority : ℕ → Option ℕ
  from_authority p = end_of (records (nscount_in message) p) >>= from_additional

  abbrev from_answers : ℕ → Option ℕ
  from_answers p = end_of (records (ancount_in message) p) >>= from_authority

  end_is : message_end message ≡ end_of asked >>= from_answers
  end_is =
      regroup (answers_start message >>= after_items (raw_record_at message) (ancount_in message)) (after_items (raw_record_at message) (nscount_in message)) from_additional
      ∙ regroup (answers_start message) (after_items (raw_record_at message) (ancount_in message)) from_authority

  -- the message of these items
  abbrev with_all : List Question → List RawRecord → List RawRecord → List RawRecord → Parsed
  with_all questions answers authority additional =
      record { header = header_in message; questions = questions; answers = answers; authority = authority; additional = additional }

  abbrev read_additional : List Question → List RawRecord → List RawRecord → List RawRecord × ℕ → Option Parsed
  read_additional questions answers authority r = Some (with_all questions answers authority r.0)

  abbrev read_authority : List Question → List RawRecord → List RawRecord × ℕ → Option Parsed
  read_authority questions answers r = records (arcount_in message) r.1 >>= read_additional questions answers r.0

  abbrev read_answers : List Question → List RawRecord × ℕ → Option Parsed
  read_answers questions r = records (nscount_in message) r.1 >>= read_authority questions r.0

  abbrev read_questions : List Question × ℕ → Option Parsed
  read_questions r = records (ancount_in message) r.1 >>= read_answers r.0

  parsed_is : 12 ≤ length message → parsed message ≡ asked >>= read_questions
  unfolding parsed
  parsed_is header =
      rw (
        number_at_head 0 message (omega arith),
        number_at_head 2 message (omega arith),
        number_at_head 4 message (omega arith),
        number_at_head 6 message (omega arith),
        number_at_head 8 message (omega arith),
        number_at_head 10 message (omega arith),
      ) refl

  -- without an end it doesn't parse
  pub unread : 12 ≤ length message → message_end message ≡ None → parsed message ≡ None
  unread header e =
      parsed_is header
      ∙ without asked from_answers read_questions
      (λ q. without (records (ancount_in message) q.1) from_authority (read_answers q.0)
      (λ a. without (records (nscount_in message) a.1) from_additional (read_authority q.0 a.0)
      (λ u. without_last (records (arcount_in message) u.1) (read_additional q.0 a.0 u.0))))
      (sym end_is ∙ e)

  -- with one it does, and is read so
  pub reads : (end : ℕ) → 12 ≤ length message → message_end message ≡ Some end → (p : Parsed) × ReadsAs message p
  reads end header e =
      let q = ends asked from_answers end (sym end_is ∙ e) in
      let a = ends (records (ancount_in message) q.after) from_authority end q.goes in
      let u = ends (records (nscount_in message) a.after) from_additional end a.goes in
      let d = ends_last (records (arcount_in message) u.after) end u.goes in
      let start : answers_start message ≡ Some q.after = ap end_of q.is in
      let behind_answers : authority_start message ≡ Some a.after =
      ap (λ s. s >>= after_items (raw_record_at message) (ancount_in message)) start ∙ ap end_of a.is in
      let behind_authority : additional_start message ≡ Some u.after =
      ap (λ s. s >>= after_items (raw_record_at message) (nscount_in message)) behind_answers ∙ ap end_of u.is in (
        with_all q.items a.items u.items d.0,
        record {
          whole = parsed_is header ∙ ap (λ o. o >>= read_questions) q.is ∙ ap (λ o. o >>= read_answers q.items) a.is
              ∙ ap (λ o. o >>= read_authority q.items a.items) u.is ∙ ap (λ o. o >>= read_additional q.items a.items u.items) d.1;
          head = refl;
          asked = all_read (question_at message) (qdcount_in message) 12 q.items q.after q.is;
          answered = ap (λ s. section_readings message 6 s) start ∙ (all_read (raw_record_at message) (ancount_in message) q.after a.items a.after a.is);
          authorities = ap (λ s. section_readings message 8 s) behind_answers ∙ (all_read (raw_record_at message) (nscount_in message) a.after u.items u.after u.is);
          others = ap (λ s. section_readings message 10 s) behind_authority ∙ (all_read (raw_record_at message) (arcount_in message) u.after d.0 end d.1);
        },
      )
