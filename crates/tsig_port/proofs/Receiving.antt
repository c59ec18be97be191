-- The signature of a message by the readings of its additional records.
use Rattle.std.proofs.Common.{◌≡◌, ◌≤◌, ℕ, zero, suc, Bool, true, false, List, [], ◌∷◌, length, refl, sym, ap, ◌∙◌, subst, Option, Some, None}
use Rattle.std.specs.Prelude.{map, Result, Ok, Err, OnErr, MatchOption, if◌then◌else◌}
use Rattle.dns_rdata.specs.Heads.{RawRecord, raw_record_at}
use Rattle.dns_wire.specs.Wire.{arcount_in}
use Rattle.dns_wire.proofs.Parsing.{reads, unread}
use Rattle.dns_wire.specs.Parse.{Parsed, parsed, items_at, after_items, readings, reading_then, section_readings, additional_start, additional_readings}
use Rattle.dns_wire.specs.Reads.{ReadsAs}
use Rattle.tsig_port.specs.Tsig.{Signature, is_tsig, signature_in, signature_parsed, signature_of}
use Rattle.tsig_port.specs.Tsig.Signature.{Malformed}
use Rattle.tsig_port.specs.Received.{signature_left}

-- octets that don't parse
pub signature-unread : (m : List ℕ) → parsed m ≡ None → signature_of m ≡ Malformed
unfolding signature_of
signature-unread m none = ap (signature_parsed m) none

left_is : (m : List ℕ) (raws : List RawRecord) → signature_left m (map (λ r. Some r) raws) ≡ signature_in m raws
left_is m [] = refl
left_is m (raw ∷ []) = refl
left_is m (raw ∷ next ∷ rest) = ap (λ (s : Signature). if is_tsig raw then Malformed else s) (left_is m (next ∷ rest))

-- octets that parse
pub signature-left : (m : List ℕ) (p : Parsed) → ReadsAs m p → signature_left m (additional_readings m) ≡ signature_of m
unfolding signature_of
signature-left m p reads = ap (signature_left m) reads.others ∙ left_is m p.additional ∙ sym (ap (signature_parsed m) reads.whole)

-- an error among the readings
by_type : (b : Bool) (s : Signature) → s ≡ Malformed → (if b then Malformed else s) ≡ Malformed
by_type true s e = refl
by_type false s e = e

after_error : (m : List ℕ) (raw : RawRecord) (rest : List (Option RawRecord)) → signature_left m rest ≡ Malformed → signature_left m (Some raw ∷ rest) ≡ Malformed
after_error m raw [] e = absurd (cc e)
after_error m raw (x ∷ rest) e = by_type (is_tsig raw) (signature_left m (x ∷ rest)) e

rest_unread : (m : List ℕ) (n p : ℕ) (r : RawRecord × ℕ) → raw_record_at m p ≡ Some r → after_items (raw_record_at m) (suc n) p ≡ None
    → (o : Option (List RawRecord × ℕ)) → items_at (raw_record_at m) n r.1 ≡ o → after_items (raw_record_at m) n r.1 ≡ None
unfolding items_at
rest_unread m n p r is e None found = rw found refl
rest_unread m n p r is e (Some t) found =
    let there : after_items (raw_record_at m) (suc n) p ≡ Some t.1 = rw (is, found) refl in
    absurd (cc (sym there ∙ e))

first_unread : (m : List ℕ) (n p : ℕ) → after_items (raw_record_at m) (suc n) p ≡ None
    → ((q : ℕ) → after_items (raw_record_at m) n q ≡ None → signature_left m (readings (raw_record_at m) n q) ≡ Malformed)
    → (o : Option (RawRecord × ℕ)) → raw_record_at m p ≡ o → signature_left m (reading_then (readings (raw_record_at m) n) o) ≡ Malformed
first_unread m n p e rest None is = refl
first_unread m n p e rest (Some r) is =
    after_error m r.0 (readings (raw_record_at m) n r.1) (rest r.1 (rest_unread m n p r is e (items_at (raw_record_at m) n r.1) refl))

left_unread : (m : List ℕ) (n p : ℕ) → after_items (raw_record_at m) n p ≡ None → signature_left m (readings (raw_record_at m) n p) ≡ Malformed
unfolding readings items_at
left_unread m zero p e = absurd (cc e)
left_unread m (suc n) p e = first_unread m n p e (left_unread m n) (raw_record_at m p) refl

-- the signature by the readings, where the additional section can be reached
reached_end : (m : List ℕ) → 12 ≤ length m → (p : ℕ) → additional_start m ≡ Some p → (o : Option ℕ) → after_items (raw_record_at m) (arcount_in m) p ≡ o
    → signature_left m (additional_readings m) ≡ signature_of m
reached_end m header p is (Some end) ends =
    let all = reads m end header (rw is ends) in
    signature-left m all.0 all.1
reached_end m header p is None ends =
    ap (λ o. signature_left m (section_readings m 10 o)) is ∙ left_unread m (arcount_in m) p ends ∙ sym (signature-unread m (unread m header (rw is ends)))

reached_start : (m : List ℕ) → 12 ≤ length m → (o : Option ℕ) → additional_start m ≡ o → (additional_start m ≡ None → ⊥) → signature_left m (additional_readings m) ≡ signature_of m
reached_start m header None is begins = absurd (begins is)
reached_start m header (Some p) is begins = reached_end m header p is (after_items (raw_record_at m) (arcount_in m) p) refl

pub signature-reached : (m : List ℕ) → 12 ≤ length m → (additional_start m ≡ None → ⊥) → signature_left m (additional_readings m) ≡ signature_of m
signature-reached m header begins = reached_start m header (additional_start m) refl begins

-- .. and where it can't
pub signature-unreached : (m : List ℕ) → 12 ≤ length m → additional_start m ≡ None → signature_of m ≡ Malformed
signature-unreached m header none = signature-unread m (unread m header (rw none refl))

-- what holds of an option that is there
pub at_some : {A : Type 0} {o : Option A} {x : A} (P : Type 0) (Q : A → Type 0) → o ≡ Some x → MatchOption o P Q → Q x
at_some P Q is h = subst (λ o. MatchOption o P Q) is h

-- what holds, holds at an error
pub at_err : {T E P : Type 0} (r : Result T E) → P → OnErr r P
at_err (Ok x) p = tt
at_err (Err e) p = p
