-- A TSIG that was put on a built message is read again.
use Rattle.std.proofs.Common.{◌≡◌, ℕ, ◌+◌, ◌<◌, true, false, List, [], ◌∷◌, ◌++◌, length, length-append, refl, sym, ap, ◌∙◌, arith, Some, lt-ltb, add-zero, eq-eqb, ne_eqb, lit<}
use Rattle.std.specs.Prelude.{flat_map}
use Rattle.std.specs.List.{AllByRecursion}
use Rattle.std.proofs.lemmas.List.{append_assoc, append-nil}
use Rattle.dns_name.specs.Octets.{u32_octets, u16_octets, u48_octets}
use Rattle.dns_name.specs.Names.{Name, name_wire, is_name}
use Rattle.dns_rdata.specs.Records.{Record, record_wire, data_wire}
use Rattle.dns_wire.specs.Wire.{Message, message_wire, header_wire, question_wire, counts_wire, counts_of, with_additional}
use Rattle.dns_wire.specs.Parse.{parsed}
use Rattle.dns_rdata.specs.Heads.{RawRecord}
use Rattle.tsig_port.specs.Tsig.{Tsig, tsig_wire, tsig_rest, tsig_at, tsig_record, tsig_of, is_tsig, signature_in, signature_by, signature_of}
use Rattle.tsig_port.specs.Tsig.Signature.{Signed}
use Rattle.dns_wire.specs.Written.{IsRecord, IsMessage, head_at, heads_from, parsed_of}
use Rattle.tsig_port.specs.Signing.{IsTsig, NoTsigs}
use Rattle.dns_wire.proofs.DataWriting.{front_length}
use Rattle.dns_wire.proofs.Pushing.{with_more, additional_more, message_wire-more_additional}
use Rattle.dns_wire.proofs.ItemWriting.{parsed-message_wire, octets_read, name_read, shifted, u16_read}
use Rattle.tsig_rdata.proofs.DataReading.{tsig_read}

-- ---- the last additional record

heads_of : (p : ℕ) (rs : List Record) (r : Record) → (q : ℕ) × (x : Record) × (xs : List Record) × (heads_from p (rs ++ r ∷ []) ≡ head_at q x ∷ heads_from (q + length (record_wire x)) xs)
heads_of p [] r = (p, r, [], refl)
heads_of p (x ∷ rs) r = (p, x, rs ++ r ∷ [], refl)

skip_one : (text : List ℕ) (raw : RawRecord) (x : RawRecord) (xs rest : List RawRecord) → is_tsig raw ≡ false → rest ≡ x ∷ xs
    → signature_in text (raw ∷ rest) ≡ signature_in text rest
skip_one text raw x xs rest plain e = rw (e, plain) refl

last_of : (text : List ℕ) (p : ℕ) (rs : List Record) (owner : Name) (t : Tsig) → NoTsigs rs
    → signature_in text (heads_from p (rs ++ tsig_record owner t ∷ []))
    ≡ signature_by (head_at (p + length (flat_map record_wire rs)) (tsig_record owner t)) (tsig_of text (head_at (p + length (flat_map record_wire rs)) (tsig_record owner t)))
last_of text p [] owner t plains = ap (λ k. signature_by (head_at k (tsig_record owner t)) (tsig_of text (head_at k (tsig_record owner t)))) (sym (add-zero p))
last_of text p (r ∷ rs) owner t plains =
    let (q, x, xs, e) = heads_of (p + length (record_wire r)) rs (tsig_record owner t) in
    let plain : is_tsig (head_at p r) ≡ false = ne_eqb r.rtype 250 plains.0 in
    let w = length-append (record_wire r) (flat_map record_wire rs) in
    let place : p + length (record_wire r) + length (flat_map record_wire rs) ≡ p + length (flat_map record_wire (r ∷ rs)) = omega (arith, w) in
    skip_one text (head_at p r) _ _ (heads_from (p + length (record_wire r)) (rs ++ tsig_record owner t ∷ [])) plain e
    ∙ last_of text (p + length (record_wire r)) rs owner t plains.1
    ∙ ap (λ k. signature_by (head_at k (tsig_record owner t)) (tsig_of text (head_at k (tsig_record owner t)))) place

all_more : (P : Record → Type 0) (rs : List Record) (r : Record) → AllByRecursion P rs → P r → AllByRecursion P (rs ++ r ∷ [])
all_more P [] r all one = (one, tt)
all_more P (x ∷ rs) r all one = (all.0, all_more P rs r all.1 one)

-- the fields of a TSIG's record are its data
fields_of_tsig : (owner : Name) (t : Tsig) → data_wire (tsig_record owner t).fields ≡ tsig_wire t
fields_of_tsig owner t = ap (λ x. name_wire t.algorithm ++ x) (append-nil (tsig_rest t))

pub signature_written : (m : Message) (owner : Name) (t : Tsig) → IsMessage m → NoTsigs m.additional → length m.additional < 65535
    → is_name owner ≡ true → IsTsig t → length (tsig_wire t) < 65536
    → signature_of (with_additional (message_wire m) (tsig_record owner t)) ≡ Signed (length (message_wire m)) owner t
unfolding signature_of tsig_of
signature_written m owner t ok none few name is short =
    let r = tsig_record owner t in
    let m' = with_more m r in
    let wire = fields_of_tsig owner t in
    let same = message_wire-more_additional m r (omega (arith, few)) in
    let counted = length-append m.additional (r ∷ []) in
    let is_record : IsRecord r = record {
      owner = name;
      rtype = lit< tt;
      class = lit< tt;
      ttl = lit< tt;
      len = rw wire (omega (arith, short));
    } in
    let whole : IsMessage m' = record {
      id = ok.id;
      flags = ok.flags;
      questions = ok.questions;
      answers = ok.answers;
      authority = ok.authority;
      additional = all_more IsRecord m.additional r ok.additional is_record;
      qdcount = ok.qdcount;
      ancount = ok.ancount;
      nscount = ok.nscount;
      arcount = omega (arith, few, counted);
    } in
    let text = message_wire m' in
    let read : parsed text ≡ Some (parsed_of m') = ap parsed (sym (append-nil text)) ∙ parsed-message_wire m' [] whole in
    let qs = flat_map question_wire m.questions in
    let a = flat_map record_wire m.answers in
    let u = flat_map record_wire m.authority in
    let d = flat_map record_wire m.additional in
    let head = header_wire m.header ++ counts_wire (counts_of m') in
    let front = head ++ qs ++ a ++ u ++ d in
    let place = 12 + length qs + length a + length u in
    let q = place + length d in
    let g1 = length-append (head ++ qs ++ a ++ u) d in
    let g2 = length-append (head ++ qs ++ a) u in
    let g3 = length-append (head ++ qs) a in
    let g4 = length-append head qs in
    let long : length front ≡ q = omega (arith, g1, g2, g3, g4) in
    let old = header_wire m.header ++ counts_wire (counts_of m) in
    let h1 = length-append (old ++ qs ++ a ++ u) d in
    let h2 = length-append (old ++ qs ++ a) u in
    let h3 = length-append (old ++ qs) a in
    let h4 = length-append old qs in
    let begins : q ≡ length (message_wire m) = omega (arith, h1, h2, h3, h4) in
    let prefix = name_wire owner ++ u16_octets 250 ++ u16_octets 255 ++ u32_octets 0 ++ u16_octets (length (data_wire r.fields)) in
    let e1 : text ≡ front ++ record_wire r = additional_more (head ++ qs ++ a ++ u) m.additional r in
    let data_is : data_wire r.fields ≡ tsig_wire t ++ [] = wire ∙ sym (append-nil (tsig_wire t)) in
    let e2 : text ≡ (front ++ prefix) ++ (tsig_wire t ++ []) =
    e1 ∙ shifted front prefix (data_wire r.fields) ∙ ap (λ x. (front ++ prefix) ++ x) data_is in
    let raw = head_at q r in
    let l2 : length (front ++ prefix) ≡ raw.rdata = front_length front r ∙ ap (λ k. (head_at k r).rdata) long in
    let data_read = tsig_read text raw.rdata t (front ++ prefix) [] e2 l2 is in
    let ends : raw.rdata + length (tsig_wire t) ≡ raw.rdata + raw.rdlength = ap (λ k. raw.rdata + length k) (sym wire) in
    let tsig_is : tsig_of text raw ≡ Some t = rw (data_read, eq-eqb _ _ ends, lt-ltb _ _ short) refl in
    ap signature_of (sym same) ∙ rw read (last_of text place m.additional owner t none ∙ ap (λ o. signature_by raw o) tsig_is ∙ ap (λ k. Signed k owner t) begins)
