-- What octets that parse say of their counts and sections.
use Rattle.std.proofs.Common.{subst, ◌≡◌, ℕ, zero, suc, ◌+◌, Bool, true, false, List, [], ◌∷◌, Option, Some, None, length, map, refl, ap, ◌∙◌, sym, arith}
use Rattle.std.specs.Prelude.{option_map, filter_map, ◌==◌, nat_le, slice_range, if◌then◌else◌}
use Rattle.std.proofs.lemmas.Bool.{eqb-true}
use Rattle.std.specs.Int.{w16, from_be_bytes}
use Rattle.dns_name.specs.Octets.{◌>>=◌, u16_at, octets_at}
use Rattle.dns_wire.specs.Wire.{Header, Counts, header_of, id_in, header_in, header_number, qdcount_in, ancount_in, nscount_in, Question}
use Rattle.dns_wire.specs.Parse.{items_at, readings, reading_then, questions_in, Parsed, parsed, question_at, header_at, counts_at, answer_readings, answers_start, sole_question_in, section_readings}
use Rattle.dns_rdata.specs.Heads.{raw_record_at, RawRecord, readable}
use Rattle.xfr_model.specs.Messages.{ReadMessage, message_of, as_read}
use Rattle.xfr_model.specs.Read.{record_item, is_transfer_head, asks_transfer}
use Rattle.xfr_model.specs.Interpreter.{mode_asked}
use Rattle.zone_model.specs.TransferText.{Axfr, Ixfr}
use Rattle.xfr_client.specs.Items.{item_in}
use Rattle.xfr_client.specs.Interpreting.{IsReadAs, answer_here, sections_here, good_header, good_counts}

-- both readings of a pair of readings succeed
pub record Bound {A B : Type 0} (o : Option A) (f : A → Option B) (y : B) : Type 0 where
  pub found : A
  pub first : o ≡ Some found
  pub then_so : f found ≡ Some y

pub bind_some : {A B : Type 0} (o : Option A) (f : A → Option B) (y : B) → (o >>= f) ≡ Some y → Bound o f y
bind_some (Some x) f y e = record { found = x; first = refl; then_so = e }
bind_some None f y e = absurd (cc)

-- the first of items, and those after it
pub record Items {X : Type 0} (item : ℕ → Option (X × ℕ)) (n p : ℕ) (xs : List X) (q : ℕ) : Type 0 where
  pub head : X
  pub place : ℕ
  pub others : List X
  pub head_read : item p ≡ Some (head, place)
  pub others_read : items_at item n place ≡ Some (others, q)
  pub are : xs ≡ head ∷ others

pub items_split : {X : Type 0} (item : ℕ → Option (X × ℕ)) (n p : ℕ) (xs : List X) (q : ℕ) → items_at item (suc n) p ≡ Some (xs, q) → Items item n p xs q
unfolding items_at
items_split {X = X} item n p xs q e =
    let a = bind_some (item p) _ _ e in
    let b = bind_some (items_at item n a.found.1) _ _ a.then_so in
    let same : ◌≡◌ {A = List X × ℕ} (a.found.0 ∷ b.found.0, b.found.1) (xs, q) = cc b.then_so in
    record {
      head = a.found.0;
      place = a.found.1;
      others = b.found.0;
      head_read = a.first;
      others_read = b.first ∙ ap (λ k. Some (b.found.0, k)) (ap (λ r. r.1) same);
      are = sym (ap (λ r. r.0) same);
    }

-- as many items as were counted
pub items_counted : {X : Type 0} (item : ℕ → Option (X × ℕ)) (n p : ℕ) (xs : List X) (q : ℕ) → items_at item n p ≡ Some (xs, q) → length xs ≡ n
unfolding items_at
items_counted {X = X} item zero p xs q e = let same : ◌≡◌ {A = List X × ℕ} ([], p) (xs, q) = cc e in ap (λ r. length r.0) (sym same)
items_counted {X = X} item (suc n) p xs q e =
    let s = items_split item n p xs q e in
    ap length s.are ∙ ap suc (items_counted item n s.place s.others q s.others_read)

reads_behind : {X : Type 0} (item : ℕ → Option (X × ℕ)) (n p : ℕ) (x : X) (q : ℕ) → item p ≡ Some (x, q) → readings item (suc n) p ≡ Some x ∷ readings item n q
unfolding readings
reads_behind item n p x q e = rw e refl

-- items that all parse are what an iterator answers
pub items_read : {X : Type 0} (item : ℕ → Option (X × ℕ)) (n p : ℕ) (xs : List X) (q : ℕ) → items_at item n p ≡ Some (xs, q) → readings item n p ≡ map Some xs
unfolding items_at readings
items_read {X = X} item zero p xs q e = let same : ◌≡◌ {A = List X × ℕ} ([], p) (xs, q) = cc e in ap (λ r. map Some r.0) same
items_read {X = X} item (suc n) p xs q e =
    let s = items_split item n p xs q e in
    reads_behind item n p s.head s.place s.head_read ∙ ap (λ l. Some s.head ∷ l) (items_read item n s.place s.others q s.others_read) ∙ ap (map Some) (sym s.are)

if_some : {A : Type 0} (b : Bool) (x y : A) → (if b then Some x else None) ≡ Some y → x ≡ y
if_some true x y e = cc e
if_some false x y e = absurd (cc e)

-- a number of two octets, and the place after it
pub number_read : (m : List ℕ) (p n q : ℕ) → u16_at m p ≡ Some (n, q) → (n ≡ header_number p m) × (q ≡ p + 2)
number_read m p n q e =
    let a = bind_some (octets_at 2 m p) _ _ e in
    let found : ◌≡◌ {A = List ℕ × ℕ} (slice_range m p (p + 2), p + 2) a.found = if_some (nat_le (p + 2) (length m)) _ _ a.first in
    let same : ◌≡◌ {A = ℕ × ℕ} (from_be_bytes w16 a.found.0, a.found.1) (n, q) = cc a.then_so in
    (sym (ap (λ x. x.0) same) ∙ ap (λ x. from_be_bytes w16 x.0) (sym found), sym (ap (λ x. x.1) same) ∙ ap (λ x. x.1) (sym found))

-- the parts of octets that parse
pub record Parts (m : List ℕ) (r : Parsed) : Type 0 where
  pub header : r.header ≡ header_in m
  pub answers_from : ℕ
  pub authority_from : ℕ
  pub additional_from : ℕ
  pub questions : items_at (question_at m) (qdcount_in m) 12 ≡ Some (r.questions, answers_from)
  pub answers : items_at (raw_record_at m) (ancount_in m) answers_from ≡ Some (r.answers, authority_from)
  pub authority : items_at (raw_record_at m) (nscount_in m) authority_from ≡ Some (r.authority, additional_from)

-- id and flags, which are the first four octets
pub header_read : (m : List ℕ) (h : Header) (q : ℕ) → header_at m 0 ≡ Some (h, q) → (h ≡ header_in m) × (q ≡ 4)
header_read m h q e =
    let a = bind_some (u16_at m 0) _ _ e in
    let i = number_read m 0 a.found.0 a.found.1 a.first in
    let b = bind_some (u16_at m a.found.1) _ _ a.then_so in
    let w = number_read m a.found.1 b.found.0 b.found.1 b.first in
    let same : ◌≡◌ {A = Header × ℕ} (header_of a.found.0 b.found.0, b.found.1) (h, q) = cc b.then_so in
    let second : b.found.0 ≡ header_number 2 m = w.0 ∙ ap (λ k. header_number k m) i.1 in (
      sym (ap (λ x. x.0) same) ∙ ap (λ k. header_of k b.found.0) i.0 ∙ ap (header_of (id_in m)) second,
      sym (ap (λ x. x.1) same) ∙ w.1 ∙ ap (λ k. k + 2) i.1,
    )

-- the counts, which are the next eight
pub counts_read : (m : List ℕ) (c : Counts) (q : ℕ) → counts_at m 4 ≡ Some (c, q)
    → (c.qdcount ≡ qdcount_in m) × (c.ancount ≡ ancount_in m) × (c.nscount ≡ nscount_in m) × (q ≡ 12)
counts_read m c q e =
    let a = bind_some (u16_at m 4) _ _ e in
    let i = number_read m 4 a.found.0 a.found.1 a.first in
    let b = bind_some (u16_at m a.found.1) _ _ a.then_so in
    let j = number_read m a.found.1 b.found.0 b.found.1 b.first in
    let d = bind_some (u16_at m b.found.1) _ _ b.then_so in
    let k = number_read m b.found.1 d.found.0 d.found.1 d.first in
    let f = bind_some (u16_at m d.found.1) _ _ d.then_so in
    let l = number_read m d.found.1 f.found.0 f.found.1 f.first in
    let six : a.found.1 ≡ 6 = i.1 in
    let eight : b.found.1 ≡ 8 = j.1 ∙ ap (λ n. n + 2) six in
    let ten : d.found.1 ≡ 10 = k.1 ∙ ap (λ n. n + 2) eight in
    let same : ◌≡◌ {A = Counts × ℕ} (record { qdcount = a.found.0; ancount = b.found.0; nscount = d.found.0; arcount = f.found.0 }, f.found.1) (c, q) = cc f.then_so in (
      sym (ap (λ x. x.0.qdcount) same) ∙ i.0,
      sym (ap (λ x. x.0.ancount) same) ∙ j.0 ∙ ap (λ n. header_number n m) six,
      sym (ap (λ x. x.0.nscount) same) ∙ k.0 ∙ ap (λ n. header_number n m) eight,
      sym (ap (λ x. x.1) same) ∙ l.1 ∙ ap (λ n. n + 2) ten,
    )

pub parts_read : (m : List ℕ) (r : Parsed) → parsed m ≡ Some r → Parts m r
unfolding parsed
parts_read m r e =
    let a = bind_some (header_at m 0) _ _ e in
    let h = header_read m a.found.0 a.found.1 a.first in
    let b = bind_some (counts_at m a.found.1) _ _ a.then_so in
    let first : counts_at m 4 ≡ Some b.found = ap (counts_at m) (sym h.1) ∙ b.first in
    let n = counts_read m b.found.0 b.found.1 first in
    let d = bind_some (items_at (question_at m) b.found.0.qdcount b.found.1) _ _ b.then_so in
    let f = bind_some (items_at (raw_record_at m) b.found.0.ancount d.found.1) _ _ d.then_so in
    let g = bind_some (items_at (raw_record_at m) b.found.0.nscount f.found.1) _ _ f.then_so in
    let k = bind_some (items_at (raw_record_at m) b.found.0.arcount g.found.1) _ _ g.then_so in
    let same : record { header = a.found.0; questions = d.found.0; answers = f.found.0; authority = g.found.0; additional = k.found.0 } ≡ r = cc k.then_so in
    record {
      header = sym (ap (λ x. x.header) same) ∙ h.0;
      answers_from = d.found.1;
      authority_from = f.found.1;
      additional_from = g.found.1;
      questions = ap (λ c. items_at (question_at m) c 12) (sym n.0) ∙ ap (items_at (question_at m) b.found.0.qdcount) (sym n.3) ∙ d.first ∙ ap (λ x. Some (x.questions, d.found.1)) same;
      answers = ap (λ c. items_at (raw_record_at m) c d.found.1) (sym n.1) ∙ f.first ∙ ap (λ x. Some (x.answers, f.found.1)) same;
      authority = ap (λ c. items_at (raw_record_at m) c f.found.1) (sym n.2) ∙ g.first ∙ ap (λ x. Some (x.authority, g.found.1)) same;
    }

-- so the answer section begins somewhere
pub begins_answers : (m : List ℕ) (r : Parsed) (p : Parts m r) → answers_start m ≡ Some p.answers_from
begins_answers m r p = ap (option_map (λ x. x.1)) p.questions

-- .. and has these readings
pub reads_answers : (m : List ℕ) (r : Parsed) → Parts m r → answer_readings m ≡ map Some r.answers
reads_answers m r p = ap (section_readings m 6) (begins_answers m r p) ∙ items_read (raw_record_at m) (ancount_in m) p.answers_from r.answers p.authority_from p.answers

-- the one question
pub record Sole (m : List ℕ) (qs : List Question) : Type 0 where
  pub question : Question
  pub alone : qs ≡ question ∷ []
  pub found : sole_question_in m ≡ Some question

empty_list : {X : Type 0} (xs : List X) → length xs ≡ 0 → xs ≡ []
empty_list [] e = refl
empty_list (x ∷ xs) e = absurd (omega arith)

sole_found : (m : List ℕ) (q : Question) (p : ℕ) → qdcount_in m ≡ 1 → question_at m 12 ≡ Some (q, p) → sole_question_in m ≡ Some q
sole_found m q p one e = rw one (ap (option_map (λ r. r.0)) e)

pub reads_question : (m : List ℕ) (qs : List Question) (p : ℕ) → items_at (question_at m) (qdcount_in m) 12 ≡ Some (qs, p) → qdcount_in m ≡ 1 → Sole m qs
reads_question m qs p h one =
    let e : items_at (question_at m) (suc zero) 12 ≡ Some (qs, p) = ap (λ n. items_at (question_at m) n 12) (sym one) ∙ h in
    let s = items_split (question_at m) zero 12 qs p e in
    let none : s.others ≡ [] = empty_list s.others (items_counted (question_at m) zero s.place s.others p s.others_read) in
    record {
      question = s.head;
      alone = s.are ∙ ap (λ l. s.head ∷ l) none;
      found = sole_found m s.head s.place one s.head_read;
    }

-- a message read from octets
mapped_length : {A B : Type 0} (f : A → B) (xs : List A) → length (map f xs) ≡ length xs
mapped_length f [] = refl
mapped_length f (x ∷ xs) = ap suc (mapped_length f xs)

same_items : (o : List ℕ) (rs : List RawRecord) → map (item_in o) (map Some rs) ≡ map record_item (map (readable o) rs)
same_items o [] = refl
same_items o (r ∷ rs) = ap (λ l. record_item (readable o r) ∷ l) (same_items o rs)

parts_here : (o : List ℕ) (r : Parsed) → Parts o r → IsReadAs o (as_read o r)
parts_here o r p = record {
  header = p.header;
  questions = items_counted (question_at o) (qdcount_in o) 12 r.questions p.answers_from p.questions;
  answers = ap (λ n. n == 0) (mapped_length (readable o) r.answers ∙ items_counted (raw_record_at o) (ancount_in o) p.answers_from r.answers p.authority_from p.answers);
  authority = items_counted (raw_record_at o) (nscount_in o) p.authority_from r.authority p.additional_from p.authority;
  begins = λ none. absurd (cc (none, begins_answers o r p));
  items = ap (map (item_in o)) (reads_answers o r p) ∙ same_items o r.answers;
  sole = λ one. let s = reads_question o r.questions p.answers_from p.questions one in (s.question, s.alone, s.found);
}

read_from : (o : List ℕ) (m : ReadMessage) (found : Option Parsed) → parsed o ≡ found → option_map (as_read o) found ≡ Some m → IsReadAs o m
read_from o m None e h = absurd (cc h)
read_from o m (Some r) e h =
    let same : as_read o r ≡ m = cc h in
    subst (IsReadAs o) same (parts_here o r (parts_read o r e))

pub read_parts : (o : List ℕ) (m : ReadMessage) → message_of o ≡ Some m → IsReadAs o m
read_parts o m h = read_from o m (parsed o) refl h

-- what octets say whose answer section can be reached
some_kept : {X : Type 0} (xs : List X) → filter_map (λ q. q) (map Some xs) ≡ xs
some_kept [] = refl
some_kept (x ∷ xs) = ap (λ l. x ∷ l) (some_kept xs)

not_empty : {X : Type 0} (x : X) (xs : List X) → (length (x ∷ xs) == 0) ≡ false
not_empty x xs = grind arith

reading_stands : {X : Type 0} (item : ℕ → Option (X × ℕ)) (n : ℕ) (o : Option (X × ℕ)) → (length (reading_then (readings item n) o) == 0) ≡ false
reading_stands item n None = refl
reading_stands item n (Some (x, after)) = not_empty (Some x) (readings item n after)

some_readings : {X : Type 0} (item : ℕ → Option (X × ℕ)) (n p : ℕ) → (length (readings item n p) == 0) ≡ (n == 0)
unfolding readings
some_readings item zero p = refl
some_readings item (suc n) p = reading_stands item n (item p) ∙ sym (not_zero n)
  where
    not_zero : (n : ℕ) → (suc n == 0) ≡ false
    not_zero n = grind arith

answer_items : (o : List ℕ) (xs : List (Option RawRecord)) → map (item_in o) xs ≡ map record_item (map (answer_here o) xs)
answer_items o [] = refl
answer_items o (None ∷ xs) = ap (λ l. item_in o None ∷ l) (answer_items o xs)
answer_items o (Some r ∷ xs) = ap (λ l. item_in o (Some r) ∷ l) (answer_items o xs)

answers_counted : (o : List ℕ) (p : ℕ) → answers_start o ≡ Some p → (length (sections_here o).answers == 0) ≡ (ancount_in o == 0)
answers_counted o p e =
    ap (λ n. n == 0) (mapped_length (answer_here o) (answer_readings o))
    ∙ ap (λ s. length (section_readings o 6 s) == 0) e
    ∙ some_readings (raw_record_at o) (ancount_in o) p

sections_from : (o : List ℕ) (found : Option (List Question × ℕ)) → items_at (question_at o) (qdcount_in o) 12 ≡ found → (answers_start o ≡ None → ⊥) → IsReadAs o (sections_here o)
sections_from o None e h = absurd (h (ap (option_map (λ x. x.1)) e))
sections_from o (Some (qs, p)) e h =
    let start : answers_start o ≡ Some p = ap (option_map (λ x. x.1)) e in
    let asked : questions_in o ≡ qs = ap (filter_map (λ q. q)) (items_read (question_at o) (qdcount_in o) 12 qs p e) ∙ some_kept qs in
    record {
      header = refl;
      questions = ap length asked ∙ items_counted (question_at o) (qdcount_in o) 12 qs p e;
      answers = answers_counted o p start;
      authority = refl;
      begins = h;
      items = answer_items o (answer_readings o);
      sole = λ one. let s = reads_question o qs p e one in (s.question, asked ∙ s.alone, s.found);
    }

pub sections_read : (o : List ℕ) → (answers_start o ≡ None → ⊥) → IsReadAs o (sections_here o)
sections_read o h = sections_from o (items_at (question_at o) (qdcount_in o) 12) refl h

-- header and counts of a message whose header isn't good
pub head_refused : (o : List ℕ) (m : ReadMessage) (first : Bool) → IsReadAs o m → good_header (header_in o) ≡ false → is_transfer_head first m ≡ false
head_refused o m first p e = rw (p.header, e) refl

-- .. and of one whose header is
pub head_counted : (o : List ℕ) (m : ReadMessage) (first : Bool) → IsReadAs o m → good_header (header_in o) ≡ true
    → is_transfer_head first m ≡ good_counts first (qdcount_in o) (ancount_in o) (nscount_in o)
head_counted o m true p e = rw (p.header, e, p.questions, p.answers, p.authority) refl
head_counted o m false p e = rw (p.header, e, p.questions, p.answers, p.authority) refl

-- the first question asked is the one that was found
pub asked : (o : List ℕ) (m : ReadMessage) (q : Question) → IsReadAs o m → (length m.questions == 1) ≡ true → sole_question_in o ≡ Some q → m.questions ≡ q ∷ []
asked o m q p one e =
    let count : qdcount_in o ≡ 1 = sym p.questions ∙ eqb-true _ _ one in
    let s = p.sole count in
    s.1 ∙ ap (λ x. x ∷ []) (let same : s.0 ≡ q = cc (s.2, e) in same)

pub not_asked : (o : List ℕ) (m : ReadMessage) → IsReadAs o m → (length m.questions == 1) ≡ true → sole_question_in o ≡ None → ⊥
not_asked o m p one e =
    let count : qdcount_in o ≡ 1 = sym p.questions ∙ eqb-true _ _ one in
    let s = p.sole count in
    absurd (cc (s.2, e))

-- what the question asks for
pub asks_ixfr : (o : List ℕ) (m : ReadMessage) (q : Question) → IsReadAs o m → (length m.questions == 1) ≡ true → sole_question_in o ≡ Some q → q.qtype ≡ 251
    → (asks_transfer m.questions ≡ true) × (mode_asked m.questions ≡ Ixfr)
asks_ixfr o m q h one e k = let a = asked o m q h one e in rw (a, k) (refl, refl)

pub asks_axfr : (o : List ℕ) (m : ReadMessage) (q : Question) → IsReadAs o m → (length m.questions == 1) ≡ true → sole_question_in o ≡ Some q → q.qtype ≡ 252
    → (asks_transfer m.questions ≡ true) × (mode_asked m.questions ≡ Axfr)
asks_axfr o m q h one e k = let a = asked o m q h one e in rw (a, k) (refl, refl)

pub asks_else : (o : List ℕ) (m : ReadMessage) (q : Question) → IsReadAs o m → (length m.questions == 1) ≡ true → sole_question_in o ≡ Some q
    → (q.qtype == 251) ≡ false → (q.qtype == 252) ≡ false → asks_transfer m.questions ≡ false
asks_else o m q h one e k l = let a = asked o m q h one e in rw (a, k, l) refl
