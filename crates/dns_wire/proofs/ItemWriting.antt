-- Numbers, questions and records that were written are read, wherever they stand.
use Rattle.std.proofs.Common.{◌≡◌, ℕ, ◌+◌, ◌-◌, ◌<◌, ◌^◌, true, List, [], ◌∷◌, ◌++◌, length, length-append, take, drop, refl, sym, ap, ◌∙◌, arith, le-leb, Some, nat_le, add-zero}
use Rattle.std.specs.List.{AllByRecursion}
use Rattle.std.specs.Prelude.{flat_map, slice_range, Option}
use Rattle.std.proofs.lemmas.List.{append_assoc, append-nil, take_at, drop_at}
use Rattle.std.proofs.lemmas.Nat.{from_be_bytes-to_be_bytes_2, from_be_bytes-to_be_bytes_4}
use Rattle.dns_name.specs.Octets.{u16_octets, u32_octets, octets_at, u16_at, u32_at}
use Rattle.dns_name.specs.Names.{Name, is_name, name_wire}
use Rattle.dns_name.specs.Compression.{name_at}
use Rattle.dns_rdata.specs.Records.{Record, record_wire, data_wire}
use Rattle.dns_wire.specs.Wire.{Question, question_wire, Message, message_wire, header_wire, counts_wire, counts_of, flags_word}
use Rattle.dns_wire.specs.Parse.{question_at, items_at, parsed}
use Rattle.dns_rdata.specs.Heads.{RawRecord, raw_record_at}
use Rattle.dns_wire.specs.Written.{IsQuestion, IsRecord, IsMessage, head_at, heads_from, parsed_of}
use Rattle.dns_name.proofs.NameWriting.{name_at-name_wire}

-- octets that stand somewhere are read there
pub octets_read : (m : List ℕ) (p k : ℕ) (before octets after : List ℕ) → m ≡ before ++ (octets ++ after) → length before ≡ p → length octets ≡ k
    → octets_at k m p ≡ Some (octets, p + k)
octets_read m p k before octets after e eb eo =
    let whole = length-append before (octets ++ after) in
    let behind = length-append octets after in
    let fits : nat_le (p + k) (length m) ≡ true = le-leb _ _ (rw e (omega (arith, whole, behind, eb, eo))) in
    let content : slice_range m p (p + k) ≡ octets = rw (e, drop_at before (octets ++ after) p eb) (take_at octets after (p + k - p) (omega (arith, eo))) in
    rw (fits, content) refl

pub u16_read : (m : List ℕ) (p n : ℕ) (before after : List ℕ) → m ≡ before ++ (u16_octets n ++ after) → length before ≡ p → n < 2 ^ 16
    → u16_at m p ≡ Some (n, p + 2)
u16_read m p n before after e eb small = rw (octets_read m p 2 before (u16_octets n) after e eb refl, from_be_bytes-to_be_bytes_2 n small) refl

u32_read : (m : List ℕ) (p n : ℕ) (before after : List ℕ) → m ≡ before ++ (u32_octets n ++ after) → length before ≡ p → n < 2 ^ 32
    → u32_at m p ≡ Some (n, p + 4)
u32_read m p n before after e eb small = rw (octets_read m p 4 before (u32_octets n) after e eb refl, from_be_bytes-to_be_bytes_4 n small) refl

pub name_read : (m : List ℕ) (p : ℕ) (n : Name) (before after : List ℕ) → m ≡ before ++ (name_wire n ++ after) → length before ≡ p → is_name n ≡ true
    → name_at m p ≡ Some (n, p + length (name_wire n))
name_read m p n before after e eb ok = rw (e, ← eb) (name_at-name_wire before n after ok)

pub shifted : (before a rest : List ℕ) → before ++ (a ++ rest) ≡ (before ++ a) ++ rest
shifted before a rest = sym (append_assoc before a rest)

-- a question
pub question_read : (m : List ℕ) (p : ℕ) (q : Question) (before after : List ℕ) → m ≡ before ++ (question_wire q ++ after) → length before ≡ p
    → is_name q.qname ≡ true → q.qtype < 2 ^ 16 → q.qclass < 2 ^ 16
    → question_at m p ≡ Some (q, p + length (question_wire q))
unfolding question_at
question_read m p q before after e eb name qtype qclass =
    let n = name_wire q.qname in
    let t = u16_octets q.qtype in
    let c = u16_octets q.qclass in
    let e1 : m ≡ before ++ (n ++ (t ++ (c ++ after))) = e ∙ ap (λ r. before ++ r) (append_assoc (n ++ t) c after ∙ append_assoc n t (c ++ after)) in
    let e2 : m ≡ (before ++ n) ++ (t ++ (c ++ after)) = e1 ∙ shifted before n (t ++ (c ++ after)) in
    let e3 : m ≡ ((before ++ n) ++ t) ++ (c ++ after) = e2 ∙ shifted (before ++ n) t (c ++ after) in
    let l2 : length (before ++ n) ≡ p + length n = length-append before n ∙ ap (λ k. k + length n) eb in
    let l3 : length ((before ++ n) ++ t) ≡ p + length n + 2 = length-append (before ++ n) t ∙ ap (λ k. k + 2) l2 in
    let whole : p + length n + 2 + 2 ≡ p + length (question_wire q) = omega (arith, length-append (n ++ t) c, length-append n t) in
    rw (
      name_read m p q.qname before (t ++ (c ++ after)) e1 eb name,
      u16_read m (p + length n) q.qtype (before ++ n) (c ++ after) e2 l2 qtype,
      u16_read m (p + length n + 2) q.qclass ((before ++ n) ++ t) after e3 l3 qclass,
    )
    (ap (λ k. Some (q, k)) whole)

-- ---- records

pub record_read : (m : List ℕ) (p : ℕ) (r : Record) (before after : List ℕ) → m ≡ before ++ (record_wire r ++ after) → length before ≡ p
    → IsRecord r → raw_record_at m p ≡ Some (head_at p r, p + length (record_wire r))
unfolding raw_record_at
record_read m p r before after e eb ok =
    let n = name_wire r.owner in
    let t = u16_octets r.rtype in
    let c = u16_octets r.class in
    let l = u32_octets r.ttl in
    let d = data_wire r.fields in
    let s = u16_octets (length d) in
    let r1 : record_wire r ++ after ≡ n ++ (t ++ (c ++ (l ++ (s ++ (d ++ after))))) =
    append_assoc (n ++ t ++ c ++ l ++ s) d after ∙ append_assoc (n ++ t ++ c ++ l) s (d ++ after) ∙ append_assoc (n ++ t ++ c) l (s ++ (d ++ after))
    ∙ append_assoc (n ++ t) c (l ++ (s ++ (d ++ after))) ∙ append_assoc n t (c ++ (l ++ (s ++ (d ++ after)))) in
    let e1 : m ≡ before ++ (n ++ (t ++ (c ++ (l ++ (s ++ (d ++ after)))))) = e ∙ ap (λ x. before ++ x) r1 in
    let e2 = e1 ∙ shifted before n (t ++ (c ++ (l ++ (s ++ (d ++ after))))) in
    let e3 = e2 ∙ shifted (before ++ n) t (c ++ (l ++ (s ++ (d ++ after)))) in
    let e4 = e3 ∙ shifted (before ++ n ++ t) c (l ++ (s ++ (d ++ after))) in
    let e5 = e4 ∙ shifted (before ++ n ++ t ++ c) l (s ++ (d ++ after)) in
    let e6 = e5 ∙ shifted (before ++ n ++ t ++ c ++ l) s (d ++ after) in
    let l2 : length (before ++ n) ≡ p + length n = length-append before n ∙ ap (λ k. k + length n) eb in
    let l3 : length (before ++ n ++ t) ≡ p + length n + 2 = length-append (before ++ n) t ∙ ap (λ k. k + 2) l2 in
    let l4 : length (before ++ n ++ t ++ c) ≡ p + length n + 2 + 2 = length-append (before ++ n ++ t) c ∙ ap (λ k. k + 2) l3 in
    let l5 : length (before ++ n ++ t ++ c ++ l) ≡ p + length n + 2 + 2 + 4 = length-append (before ++ n ++ t ++ c) l ∙ ap (λ k. k + 4) l4 in
    let l6 : length (before ++ n ++ t ++ c ++ l ++ s) ≡ p + length n + 2 + 2 + 4 + 2 = length-append (before ++ n ++ t ++ c ++ l) s ∙ ap (λ k. k + 2) l5 in
    let w1 = length-append (n ++ t ++ c ++ l ++ s) d in
    let w2 = length-append (n ++ t ++ c ++ l) s in
    let w3 = length-append (n ++ t ++ c) l in
    let w4 = length-append (n ++ t) c in
    let w5 = length-append n t in
    let whole : p + length n + 2 + 2 + 4 + 2 + length d ≡ p + length (record_wire r) = omega (arith, w1, w2, w3, w4, w5) in
    rw (
      name_read m p r.owner before _ e1 eb ok.owner,
      u16_read m (p + length n) r.rtype (before ++ n) _ e2 l2 ok.rtype,
      u16_read m (p + length n + 2) r.class (before ++ n ++ t) _ e3 l3 ok.class,
      u32_read m (p + length n + 2 + 2) r.ttl (before ++ n ++ t ++ c) _ e4 l4 ok.ttl,
      u16_read m (p + length n + 2 + 2 + 4) (length d) (before ++ n ++ t ++ c ++ l) _ e5 l5 ok.len,
      octets_read m (p + length n + 2 + 2 + 4 + 2) (length d) (before ++ n ++ t ++ c ++ l ++ s) d after e6 l6 refl,
    )
    (ap (λ k. Some (head_at p r, k)) whole)

-- ---- lists of items

pub questions_read : (m : List ℕ) (p : ℕ) (qs : List Question) (before after : List ℕ) → m ≡ before ++ (flat_map question_wire qs ++ after) → length before ≡ p
    → AllByRecursion IsQuestion qs → items_at (question_at m) (length qs) p ≡ Some (qs, p + length (flat_map question_wire qs))
unfolding items_at
questions_read m p [] before after e eb ok = ap {B = Option (List Question × ℕ)} (λ k. Some ([], k)) (sym (add-zero p))
questions_read m p (q ∷ qs) before after e eb ok =
    let e1 = e ∙ ap (λ x. before ++ x) (append_assoc (question_wire q) (flat_map question_wire qs) after) in
    let e2 = e1 ∙ shifted before (question_wire q) (flat_map question_wire qs ++ after) in
    let l2 : length (before ++ question_wire q) ≡ p + length (question_wire q) = length-append before (question_wire q) ∙ ap (λ k. k + length (question_wire q)) eb in
    let w = length-append (question_wire q) (flat_map question_wire qs) in
    let whole : p + length (question_wire q) + length (flat_map question_wire qs) ≡ p + length (flat_map question_wire (q ∷ qs)) = omega (arith, w) in
    rw (
      question_read m p q before (flat_map question_wire qs ++ after) e1 eb ok.0.qname ok.0.qtype ok.0.qclass,
      questions_read m (p + length (question_wire q)) qs (before ++ question_wire q) after e2 l2 ok.1,
    )
    (ap (λ k. Some (q ∷ qs, k)) whole)

pub records_read : (m : List ℕ) (p : ℕ) (rs : List Record) (before after : List ℕ) → m ≡ before ++ (flat_map record_wire rs ++ after) → length before ≡ p
    → AllByRecursion IsRecord rs → items_at (raw_record_at m) (length rs) p ≡ Some (heads_from p rs, p + length (flat_map record_wire rs))
unfolding items_at
records_read m p [] before after e eb ok = ap {B = Option (List RawRecord × ℕ)} (λ k. Some ([], k)) (sym (add-zero p))
records_read m p (r ∷ rs) before after e eb ok =
    let e1 = e ∙ ap (λ x. before ++ x) (append_assoc (record_wire r) (flat_map record_wire rs) after) in
    let e2 = e1 ∙ shifted before (record_wire r) (flat_map record_wire rs ++ after) in
    let l2 : length (before ++ record_wire r) ≡ p + length (record_wire r) = length-append before (record_wire r) ∙ ap (λ k. k + length (record_wire r)) eb in
    let w = length-append (record_wire r) (flat_map record_wire rs) in
    let whole : p + length (record_wire r) + length (flat_map record_wire rs) ≡ p + length (flat_map record_wire (r ∷ rs)) = omega (arith, w) in
    rw (
      record_read m p r before (flat_map record_wire rs ++ after) e1 eb ok.0,
      records_read m (p + length (record_wire r)) rs (before ++ record_wire r) after e2 l2 ok.1,
    )
    (ap (λ k. Some (head_at p r ∷ heads_from (p + length (record_wire r)) rs, k)) whole)

-- ---- messages

-- a built message, whatever stands after it, parses to its items
pub parsed-message_wire : (m : Message) (after : List ℕ) → IsMessage m → parsed (message_wire m ++ after) ≡ Some (parsed_of m)
unfolding parsed
parsed-message_wire m after ok =
    let text = message_wire m ++ after in
    let q = flat_map question_wire m.questions in
    let a = flat_map record_wire m.answers in
    let u = flat_map record_wire m.authority in
    let d = flat_map record_wire m.additional in
    let head = header_wire m.header ++ counts_wire (counts_of m) in
    let e : text ≡ head ++ (q ++ (a ++ (u ++ (d ++ after)))) =
    ap (λ x. head ++ x) (append_assoc (q ++ a ++ u) d after ∙ append_assoc (q ++ a) u (d ++ after) ∙ append_assoc q a (u ++ (d ++ after))) in
    let e2 = e ∙ shifted head q (a ++ (u ++ (d ++ after))) in
    let e3 = e2 ∙ shifted (head ++ q) a (u ++ (d ++ after)) in
    let e4 = e3 ∙ shifted (head ++ q ++ a) u (d ++ after) in
    let l2 : length (head ++ q) ≡ 12 + length q = length-append head q in
    let l3 : length (head ++ q ++ a) ≡ 12 + length q + length a = length-append (head ++ q) a ∙ ap (λ k. k + length a) l2 in
    let l4 : length (head ++ q ++ a ++ u) ≡ 12 + length q + length a + length u = length-append (head ++ q ++ a) u ∙ ap (λ k. k + length u) l3 in
    rw (
      u16_read text 0 m.header.id [] (drop 2 text) refl refl ok.id,
      u16_read text 2 (flags_word m.header) (take 2 text) (drop 4 text) refl refl ok.flags,
      u16_read text 4 (length m.questions) (take 4 text) (drop 6 text) refl refl ok.qdcount,
      u16_read text 6 (length m.answers) (take 6 text) (drop 8 text) refl refl ok.ancount,
      u16_read text 8 (length m.authority) (take 8 text) (drop 10 text) refl refl ok.nscount,
      u16_read text 10 (length m.additional) (take 10 text) (drop 12 text) refl refl ok.arcount,
      questions_read text 12 m.questions head _ e refl ok.questions,
      records_read text (12 + length q) m.answers (head ++ q) _ e2 l2 ok.answers,
      records_read text (12 + length q + length a) m.authority (head ++ q ++ a) _ e3 l3 ok.authority,
      records_read text (12 + length q + length a + length u) m.additional (head ++ q ++ a ++ u) after e4 l4 ok.additional,
    )
    refl

-- so octets that are a built message parse to its items
pub written_reads_back : (octets result : List ℕ) (m : Message) → result ≡ octets → IsMessage m → octets ≡ message_wire m → parsed result ≡ Some (parsed_of m)
written_reads_back octets result m same ok whole =
    ap (λ (xs : List ℕ). parsed xs) (same ∙ whole ∙ sym (append-nil (message_wire m))) ∙ parsed-message_wire m [] ok
