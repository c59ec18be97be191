-- The octets of a built message say to a transfer what it was built of.
use Rattle.std.proofs.Common.{◌≡◌, ℕ, suc, ◌+◌, true, List, [], ◌∷◌, ◌++◌, length, length-append, map, refl, sym, ap, ◌∙◌, Some}
use Rattle.std.specs.Prelude.{flat_map, option_map}
use Rattle.std.specs.List.{AllByRecursion}
use Rattle.std.proofs.lemmas.List.{append_assoc}
use Rattle.dns_rdata.specs.Records.{Record, record_wire, is_data}
use Rattle.dns_wire.specs.Wire.{message_wire, header_wire, question_wire, counts_wire, counts_of}
use Rattle.dns_rdata.specs.Heads.{readable}
use Rattle.dns_wire.specs.Written.{IsRecord, head_at, heads_from, parsed_of}
use Rattle.dns_wire.proofs.ItemWriting.{parsed-message_wire, shifted}
use Rattle.dns_wire.proofs.DataWriting.{readable_again}
use Rattle.xfr_model.specs.Messages.{as_read, HaveData, BuiltIsRead}

-- a record at its place
readable_here : (m : List ℕ) (p : ℕ) (r : Record) (before after : List ℕ) → m ≡ before ++ (record_wire r ++ after) → length before ≡ p
    → IsRecord r → is_data r.rtype r.fields ≡ true → readable m (head_at p r) ≡ Some r
readable_here m p r before after e eb ok is =
    ap (λ x. readable x (head_at p r)) e ∙ ap (λ k. readable (before ++ (record_wire r ++ after)) (head_at k r)) (sym eb) ∙ readable_again before r after ok is

-- records one after another
readable_all : (m : List ℕ) (p : ℕ) (rs : List Record) (before after : List ℕ) → m ≡ before ++ (flat_map record_wire rs ++ after) → length before ≡ p
    → AllByRecursion IsRecord rs → HaveData rs → map (readable m) (heads_from p rs) ≡ map Some rs
readable_all m p [] before after e eb ok is = refl
readable_all m p (r ∷ rs) before after e eb ok is =
    let e1 = e ∙ ap (λ x. before ++ x) (append_assoc (record_wire r) (flat_map record_wire rs) after) in
    let e2 = e1 ∙ shifted before (record_wire r) (flat_map record_wire rs ++ after) in
    let l2 : length (before ++ record_wire r) ≡ p + length (record_wire r) = length-append before (record_wire r) ∙ ap (λ k. k + length (record_wire r)) eb in
    let rest = readable_all m (p + length (record_wire r)) rs (before ++ record_wire r) after e2 l2 ok.1 is.1 in
    let first = readable_here m p r before (flat_map record_wire rs ++ after) e1 eb ok.0 is.0 in
    ap (λ o. o ∷ map (readable m) (heads_from (p + length (record_wire r)) rs)) first ∙ ap (λ os. Some r ∷ os) rest

pub built_is_read : BuiltIsRead
built_is_read m after ok is =
    let text = message_wire m ++ after in
    let q = flat_map question_wire m.questions in
    let a = flat_map record_wire m.answers in
    let u = flat_map record_wire m.authority in
    let d = flat_map record_wire m.additional in
    let head = header_wire m.header ++ counts_wire (counts_of m) in
    let e : text ≡ head ++ (q ++ (a ++ (u ++ (d ++ after)))) =
    ap (λ x. head ++ x) (append_assoc (q ++ a ++ u) d after ∙ append_assoc (q ++ a) u (d ++ after) ∙ append_assoc q a (u ++ (d ++ after))) in
    let e2 = e ∙ shifted head q (a ++ (u ++ (d ++ after))) in
    let l2 : length (head ++ q) ≡ 12 + length q = length-append head q in
    let answers = readable_all text (12 + length q) m.answers (head ++ q) _ e2 l2 ok.answers is in
    let authority = counted (12 + length q + length a) m.authority in
    ap (option_map (as_read text)) (parsed-message_wire m after ok)
    ∙ ap (λ os. Some (record { header = (parsed_of m).header; questions = m.questions; answers = os; authority = length (parsed_of m).authority })) answers
    ∙ ap (λ k. Some (record { header = (parsed_of m).header; questions = m.questions; answers = map Some m.answers; authority = k })) authority
  where
    counted : (p : ℕ) (rs : List Record) → length (heads_from p rs) ≡ length rs
    counted p [] = refl
    counted p (r ∷ rs) = ap suc (counted (p + length (record_wire r)) rs)
