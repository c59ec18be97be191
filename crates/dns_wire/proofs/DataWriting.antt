-- Record data that were written are read, wherever they stand.
use Rattle.std.proofs.Common.{◌≡◌, ℕ, ◌+◌, ◌-◌, Bool, true, false, List, [], ◌∷◌, ◌++◌, length, length-append, refl, sym, ap, ◌∙◌, arith, le-leb, Some, nat_le, nat_lt, eqb-true, leb-true, add-zero, eq-eqb, ◌==◌}
use Rattle.std.specs.Prelude.{slice_range, if◌then◌else◌}
use Rattle.std.specs.Cmp.Lexicographic.{pointwise}
use Rattle.std.proofs.lemmas.Bool.{and_parts, true≢false}
use Rattle.std.proofs.lemmas.List.{append_assoc, append-nil, take_at, drop_at}
use Rattle.dns_rdata.specs.Records.{Record, Field, Part, part_allows, parts, is_one_name, are_strings, data_wire, fields_at, is_data, record_wire}
use Rattle.dns_rdata.specs.Records.Field.{Octets, DomainName}
use Rattle.dns_rdata.specs.Records.Part.{Exactly, AtLeast, Strings, Named}
use Rattle.dns_name.specs.Names.{name_wire, is_name}
use Rattle.dns_name.specs.Octets.{u16_octets, u32_octets, octets_at}
use Rattle.dns_rdata.specs.Heads.{readable}
use Rattle.dns_wire.specs.Written.{IsRecord, head_at}
use Rattle.dns_wire.proofs.ItemWriting.{octets_read, name_read, shifted}

-- only the last piece may be all that is left
abbrev rest_last : List Part → Bool
rest_last [] = true
rest_last (Exactly n ∷ ps) = rest_last ps
rest_last (Named ∷ ps) = rest_last ps
rest_last (AtLeast n ∷ []) = true
rest_last (AtLeast n ∷ p ∷ ps) = false
rest_last (Strings ∷ []) = true
rest_last (Strings ∷ p ∷ ps) = false

not_so : {P : Type 0} → false ≡ true → P
not_so e = absurd (true≢false (sym e))

-- what is left, read to its end
rest_read : (m : List ℕ) (p end : ℕ) (octets before after : List ℕ) → m ≡ before ++ ((octets ++ []) ++ after) → length before ≡ p → end ≡ p + length (octets ++ [])
    → (nat_le p end ≡ true) × (octets_at (end - p) m p ≡ Some (octets, p + (end - p))) × ((p + (end - p) == end) ≡ true)
rest_read m p end octets before after e eb ee =
    let none = append-nil octets in
    let all : end ≡ p + length octets = ee ∙ ap (λ o. p + length o) none in (
      le-leb p end (omega (arith, all)),
      octets_read m p (end - p) before octets after (e ∙ ap (λ o. before ++ (o ++ after)) none) eb (omega (arith, all)),
      eq-eqb (p + (end - p)) end (omega (arith, all)),
    )

fields_read : (m : List ℕ) (p end : ℕ) (ps : List Part) (fs : List Field) (before after : List ℕ) → rest_last ps ≡ true → pointwise part_allows ps fs ≡ true
    → m ≡ before ++ (data_wire fs ++ after) → length before ≡ p → end ≡ p + length (data_wire fs) → fields_at ps m end p ≡ Some fs
unfolding fields_at
fields_read m p end [] [] before after last ok e eb ee = rw (eq-eqb p end (sym (ee ∙ add-zero p))) refl
fields_read m p end [] (f ∷ fs) before after last ok e eb ee = not_so ok
fields_read m p end (part ∷ ps) [] before after last ok e eb ee = not_so ok
fields_read m p end (Exactly n ∷ ps) (Octets octets ∷ fs) before after last ok e eb ee =
    let both = and_parts (length octets == n) (pointwise part_allows ps fs) ok in
    let long : length octets ≡ n = eqb-true (length octets) n both.0 in
    let e1 = e ∙ ap (λ x. before ++ x) (append_assoc octets (data_wire fs) after) in
    let e2 = e1 ∙ shifted before octets (data_wire fs ++ after) in
    let l2 : length (before ++ octets) ≡ p + n = omega (arith, length-append before octets, eb, long) in
    let w = length-append octets (data_wire fs) in
    rw (
      octets_read m p n before octets (data_wire fs ++ after) e1 eb long,
      fields_read m (p + n) end ps fs (before ++ octets) after last both.1 e2 l2 (omega (arith, ee, w, long)),
    ) refl
fields_read m p end (Exactly n ∷ ps) (DomainName name ∷ fs) before after last ok e eb ee = not_so ok
fields_read m p end (Named ∷ ps) (DomainName name ∷ fs) before after last ok e eb ee =
    let both = and_parts (is_name name) (pointwise part_allows ps fs) ok in
    let e1 = e ∙ ap (λ x. before ++ x) (append_assoc (name_wire name) (data_wire fs) after) in
    let e2 = e1 ∙ shifted before (name_wire name) (data_wire fs ++ after) in
    let l2 : length (before ++ name_wire name) ≡ p + length (name_wire name) = length-append before (name_wire name) ∙ ap (λ k. k + length (name_wire name)) eb in
    let w = length-append (name_wire name) (data_wire fs) in
    let rest : end ≡ p + length (name_wire name) + length (data_wire fs) = omega (arith, ee, w) in
    rw (
      name_read m p name before (data_wire fs ++ after) e1 eb both.0,
      fields_read m (p + length (name_wire name)) end ps fs (before ++ name_wire name) after last both.1 e2 l2 rest,
    ) refl
fields_read m p end (Named ∷ ps) (Octets octets ∷ fs) before after last ok e eb ee = not_so ok
fields_read m p end (AtLeast n ∷ []) (Octets octets ∷ []) before after last ok e eb ee =
    let both = and_parts (nat_le n (length octets)) true ok in
    let (fits, read, at_end) = rest_read m p end octets before after e eb ee in
    rw (fits, read, both.0, at_end) refl
fields_read m p end (AtLeast n ∷ []) (Octets octets ∷ f ∷ fs) before after last ok e eb ee = not_so (and_parts (nat_le n (length octets)) false ok).1
fields_read m p end (AtLeast n ∷ []) (DomainName name ∷ fs) before after last ok e eb ee = not_so ok
fields_read m p end (AtLeast n ∷ q ∷ ps) (f ∷ fs) before after last ok e eb ee = not_so last
fields_read m p end (Strings ∷ []) (Octets octets ∷ []) before after last ok e eb ee =
    let both = and_parts (are_strings octets) true ok in
    let (fits, read, at_end) = rest_read m p end octets before after e eb ee in
    rw (fits, read, both.0, at_end) refl
fields_read m p end (Strings ∷ []) (Octets octets ∷ f ∷ fs) before after last ok e eb ee = not_so (and_parts (are_strings octets) false ok).1
fields_read m p end (Strings ∷ []) (DomainName name ∷ fs) before after last ok e eb ee = not_so ok
fields_read m p end (Strings ∷ q ∷ ps) (f ∷ fs) before after last ok e eb ee = not_so last

-- a fact of both branches is one of the choice
either : (P : List Part → Type 0) (b : Bool) (x y : List Part) → P x → P y → P (if b then x else y)
either P true x y h k = h
either P false x y h k = k

parts_last : (t : ℕ) → rest_last (parts t) ≡ true
parts_last t =
    let P : List Part → Type 0 = λ ps. rest_last ps ≡ true in
    either P (t == 1) _ _ refl (either P (is_one_name t) _ _ refl (either P (t == 6) _ _ refl (either P (t == 14) _ _ refl (either P (t == 15) _ _ refl
    (either P (t == 16) _ _ refl (either P (t == 28) _ _ refl (either P (t == 33) _ _ refl (either P (t == 43) _ _ refl refl))))))))

pub front_length : (before : List ℕ) (r : Record)
    → length (before ++ (name_wire r.owner ++ u16_octets r.rtype ++ u16_octets r.class ++ u32_octets r.ttl ++ u16_octets (length (data_wire r.fields))))
    ≡ (head_at (length before) r).rdata
front_length before r =
    let n = name_wire r.owner in
    let t = u16_octets r.rtype in
    let c = u16_octets r.class in
    let l = u32_octets r.ttl in
    let s = u16_octets (length (data_wire r.fields)) in
    let w0 = length-append before (n ++ t ++ c ++ l ++ s) in
    let w1 = length-append (n ++ t ++ c ++ l) s in
    let w2 = length-append (n ++ t ++ c) l in
    let w3 = length-append (n ++ t) c in
    let w4 = length-append n t in
    omega (arith, w0, w1, w2, w3, w4)

-- a written record is read with its data
pub readable_again : (before : List ℕ) (r : Record) (after : List ℕ) → IsRecord r → is_data r.rtype r.fields ≡ true
    → readable (before ++ (record_wire r ++ after)) (head_at (length before) r) ≡ Some r
readable_again before r after ok is =
    let m = before ++ (record_wire r ++ after) in
    let d = data_wire r.fields in
    let front = name_wire r.owner ++ u16_octets r.rtype ++ u16_octets r.class ++ u32_octets r.ttl ++ u16_octets (length d) in
    let both = and_parts (pointwise part_allows (parts r.rtype) r.fields) (nat_lt (length d) 65536) is in
    let e : m ≡ (before ++ front) ++ (d ++ after) = ap (λ x. before ++ x) (append_assoc front d after) ∙ shifted before front (d ++ after) in
    let place : length (before ++ front) ≡ (head_at (length before) r).rdata = front_length before r in
    rw (fields_read m (head_at (length before) r).rdata ((head_at (length before) r).rdata + length d) (parts r.rtype) r.fields (before ++ front) after
    (parts_last r.rtype) both.0 e place refl) refl
