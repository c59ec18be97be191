-- Records read one by one.
use Rattle.std.proofs.Common.{◌≡◌, ℕ, suc, ◌==◌, ◌<◌, Bool, true, false, if◌then◌else◌, List, [], ◌∷◌, ◌++◌, length, refl, sym, ap, ◌∙◌, true≢false, append_assoc, append-nil, Option, Some, None, Result, Ok, Err, IfOk, IfErr, IfSome, eqb-true, arith}
use Rattle.dns_name.specs.Names.{Name}
use Rattle.dns_name.specs.Records.{Record}
use Rattle.dns_numbers.specs.Codes.{type_soa}
use Rattle.zone_model.specs.Classify.{ZoneFile, Kind, BadRecord, RecordVerdict, Accepted, Rejected}
use Rattle.zone_values.specs.declared.record_errors.RecordError.{RecordError}
use Rattle.zone_records.specs.Parsed.{Parsed, kept, with_record, empty_file}
use Rattle.zone_records.specs.Taking.{verdict_in, taken_in, taken_by, take}
use Rattle.zone_records.specs.Refusals.{Refusals, error_of, read_by, read_one, read_all, opening_file, missing_soa, unless_refused, read_after, file_of}
use Rattle.zone_records.specs.Causes.{errors_in}
use Rattle.zone_records.specs.declared.errors.FileError.{FileError}
use Rattle.zone_records.proofs.KeptFiles.{take_kept}

-- ---- one record

-- an accepted record is put
pub read_taken : (p q : Parsed) (errors : Refusals) (r : Record) (kind : Kind) → Accepted kind ≡ verdict_in p r → q ≡ taken_in p r kind → (q, errors) ≡ read_one (p, errors) r
read_taken p q errors r kind h e = (λ i. (e i, errors)) ∙ ap (λ v. read_by v (p, errors) r) h

-- a refusal is added
pub read_refused : (p : Parsed) (errors after : Refusals) (r : Record) (why : BadRecord) → Rejected why ≡ verdict_in p r → after ≡ errors ++ (r.owner, error_of why r p.class) ∷ [] → (p, after) ≡ read_one (p, errors) r
read_refused p errors after r why h e = (λ i. (p, e i)) ∙ ap (λ v. read_by v (p, errors) r) h

-- ---- a file without refusals is what is held of its records

suc_not : (n : ℕ) → (suc n == 0) ≡ false
suc_not n = by (suc n == 0) refl
  where
    by : (b : Bool) → (suc n == 0) ≡ b → b ≡ false
    by true h = let e : suc n ≡ 0 = eqb-true (suc n) 0 h in absurd (omega arith)
    by false h = refl

pushed_some : (xs : Refusals) (x : Name × RecordError) → (length (xs ++ x ∷ []) == 0) ≡ false
pushed_some [] x = refl
pushed_some (y ∷ xs) x = suc_not (length (xs ++ x ∷ []))

-- a refusal stays
refusals_stay : (rs : List Record) (p : Parsed) (errors : Refusals) → (length errors == 0) ≡ false → (length (read_all (p, errors) rs).1 == 0) ≡ false
refusals_stay [] p errors h = h
refusals_stay (r ∷ rs) p errors h = by (verdict_in p r) (refusals_stay rs)
  where
    by : (v : RecordVerdict) → ((q : Parsed) (es : Refusals) → (length es == 0) ≡ false → (length (read_all (q, es) rs).1 == 0) ≡ false) → (length (read_all (read_by v (p, errors) r) rs).1 == 0) ≡ false
    by (Accepted kind) later = later (taken_in p r kind) errors h
    by (Rejected why) later = later p (errors ++ (r.owner, error_of why r p.class) ∷ []) (pushed_some errors (r.owner, error_of why r p.class))

abbrev with_all : ZoneFile → List Record → ZoneFile
with_all f rs = record f { accepted = f.accepted ++ rs }

read_kept : (rs : List Record) (f : ZoneFile) (p : Parsed) → p ≡ kept f → (length (read_all (p, []) rs).1 == 0) ≡ true → (read_all (p, []) rs).0 ≡ kept (with_all f rs)
read_kept [] f p e h = e ∙ ap (λ (l : List Record). kept (record f { accepted = l })) (sym (append-nil f.accepted))
read_kept (r ∷ rs) f p e h = by (verdict_in p r) refl h (read_kept rs)
  where
    by : (v : RecordVerdict) → verdict_in p r ≡ v → (length (read_all (read_by v (p, []) r) rs).1 == 0) ≡ true
        → ((g : ZoneFile) (q : Parsed) → q ≡ kept g → (length (read_all (q, []) rs).1 == 0) ≡ true → (read_all (q, []) rs).0 ≡ kept (with_all g rs)) → (read_all (read_by v (p, []) r) rs).0 ≡ kept (with_all f (r ∷ rs))
    by (Accepted kind) x g later =
        let taken : taken_in p r kind ≡ kept (with_record f r) = take_kept f r (taken_in p r kind) (ap (λ (q : Parsed). take q r) (sym e) ∙ ap (taken_by p r) x) in
        later (with_record f r) (taken_in p r kind) taken g ∙ ap (λ (l : List Record). kept (record f { accepted = l })) (append_assoc f.accepted (r ∷ []) rs)
    by (Rejected why) x g later = absurd (true≢false (sym g ∙ refusals_stay rs p ((r.owner, error_of why r p.class) ∷ []) refl))

value : (x y : Parsed) → ◌≡◌ {A = Result Parsed Refusals} (Ok x) (Ok y) → x ≡ y
value x y e = ap (λ (t : Result Parsed Refusals). elim t as (λ z. Parsed) [ Ok z ↦ z | Err w ↦ x ]) e

no_value : (errors : Refusals) (y : Parsed) → ◌≡◌ {A = Result Parsed Refusals} (Err errors) (Ok y) → ⊥
no_value errors y e = true≢false (sym (ap (λ (t : Result Parsed Refusals). elim t as (λ z. Bool) [ Ok z ↦ true | Err w ↦ false ]) e))

abbrev as_held : Parsed → List Record → ZoneFile
as_held p rs = record { apex = p.origin; class = p.class; accepted = rs }

pub file_kept : (rs : List Record) (p : Parsed) → file_of rs ≡ Ok p → p ≡ kept (as_held p rs)
file_kept [] p h = absurd (no_value _ p h)
file_kept (first ∷ more) p h = by (first.rtype == type_soa) h
  where
    done : (b : Bool) → (length (read_all (empty_file first.owner first.class, []) (first ∷ more)).1 == 0) ≡ b
        → (if b then Ok (read_all (empty_file first.owner first.class, []) (first ∷ more)).0 else Err (read_all (empty_file first.owner first.class, []) (first ∷ more)).1) ≡ Ok p → p ≡ kept (as_held p (first ∷ more))
    done true x e =
        let held : p ≡ kept (record { apex = first.owner; class = first.class; accepted = first ∷ more })
        = sym (value _ p e) ∙ read_kept (first ∷ more) (record { apex = first.owner; class = first.class; accepted = [] }) (empty_file first.owner first.class) refl x in
        held ∙ ap (λ (q : Parsed). kept (record { apex = q.origin; class = q.class; accepted = first ∷ more })) (sym held)
    done false x e = absurd (no_value _ p e)

    by : (b : Bool) → read_after (if b then Some (empty_file first.owner first.class) else None) (first ∷ more) ≡ Ok p → p ≡ kept (as_held p (first ∷ more))
    by true e = done (length (read_all (empty_file first.owner first.class, []) (first ∷ more)).1 == 0) refl e
    by false e = absurd (no_value _ p e)

-- ---- what calls answer

-- nothing was refused, or something
pub all_taken : (p : Parsed) (errors : Refusals) → errors ≡ [] → unless_refused (p, errors) ≡ Ok p
all_taken p errors n = ap (λ (l : Refusals). unless_refused (p, l)) n

pub some_refused : (p : Parsed) (errors refused : Refusals) → refused ≡ errors → 0 < length errors → unless_refused (p, errors) ≡ Err refused
some_refused p errors refused e n = by (length errors == 0) refl ∙ ap Err (sym e)
  where
    by : (c : Bool) → (length errors == 0) ≡ c → (if c then Ok p else Err errors) ≡ Err errors
    by true g = let none : length errors ≡ 0 = eqb-true (length errors) 0 g in absurd (omega arith)
    by false g = refl

-- of the file that the first record begins
pub begun_ok : {E : Type 0} (result : Result Parsed E) (p : Parsed) (rs : List Record) → Some p ≡ opening_file rs → IfOk result (λ z. unless_refused (read_all (p, []) rs) ≡ Ok z) → IfOk result (λ z. file_of rs ≡ Ok z)
begun_ok (Ok z) p rs h g = ap (λ (o : Option Parsed). read_after o rs) (sym h) ∙ g
begun_ok (Err e) p rs h g = tt

pub begun_refused : (result : Result Parsed (FileError RecordError)) (p : Parsed) (rs : List Record) → Some p ≡ opening_file rs → IfErr result (λ e. IfSome (errors_in e) (λ errors. unless_refused (read_all (p, []) rs) ≡ Err errors))
    → IfErr result (λ e. IfSome (errors_in e) (λ errors. file_of rs ≡ Err errors))
begun_refused (Ok z) p rs h g = tt
begun_refused (Err e) p rs h g = by (errors_in e) g
  where
    by : (o : Option Refusals) → IfSome o (λ errors. unless_refused (read_all (p, []) rs) ≡ Err errors) → IfSome o (λ errors. file_of rs ≡ Err errors)
    by None x = tt
    by (Some errors) x = ap (λ (q : Option Parsed). read_after q rs) (sym h) ∙ x

pub begun_kept : {E : Type 0} (result : Result Parsed E) (rs : List Record) → IfOk result (λ z. file_of rs ≡ Ok z) → IfOk result (λ z. z ≡ kept (record { apex = z.origin; class = z.class; accepted = rs }))
begun_kept (Ok z) rs h = file_kept rs z h
begun_kept (Err e) rs h = tt

-- no file is begun
pub not_begun : (errors : Refusals) (rs : List Record) → ◌≡◌ {A = Option Parsed} None (opening_file rs) → errors ≡ missing_soa rs → file_of rs ≡ Err errors
not_begun errors rs h e = ap (λ (o : Option Parsed). read_after o rs) (sym h) ∙ ap Err (sym e)
