-- What a call answers for a verdict, and for a zone file.
use Rattle.std.proofs.Common.{◌≡◌, ℕ, ◌==◌, true, false, not, if◌then◌else◌, sym, ap, ◌∙◌, Option, Some, None, Ok}
use Rattle.dns_name.specs.Records.{Record}
use Rattle.zone_model.specs.Classify.{ZoneFile, Kind, BadRecord, RecordVerdict, ClassMismatch, Accepted, Rejected, refuse_if, classify}
use Rattle.zone_values.specs.declared.record_errors.RecordError.{RecordError}
use Rattle.zone_values.specs.declared.record_errors.RecordError.TheVariants as errors
use Rattle.zone_records.specs.Parsed.{Parsed, kept, with_record}
use Rattle.zone_records.specs.Taking.{kind_in, verdict_as, verdict_in, taken_in, taken_by, take}
use Rattle.zone_records.specs.Refusals.{error_of, refusal_by, refusal}
use Rattle.zone_records.proofs.KeptFiles.{verdict_kept, take_kept}

pub took : (p q : Parsed) (r : Record) (kind : Kind) → Accepted kind ≡ verdict_in p r → q ≡ taken_in p r kind → take p r ≡ Ok q
took p q r kind h e = ap (taken_by p r) (sym h) ∙ ap Ok (sym e)

pub out_of_memory : (p : Parsed) (r : Record) (kind : Kind) (e : RecordError) → Accepted kind ≡ verdict_in p r → e ≡ errors.Memory → e ≡ refusal p r
out_of_memory p r kind e h m = m ∙ ap (λ v. refusal_by v r p.class) h

pub refused : (p : Parsed) (r : Record) (why : BadRecord) (e : RecordError) → Rejected why ≡ verdict_in p r → e ≡ error_of why r p.class → e ≡ refusal p r
refused p r why e h m = m ∙ ap (λ v. refusal_by v r p.class) h

pub verdict_for : (p : Parsed) (r : Record) (f : ZoneFile) → p ≡ kept f → verdict_in p r ≡ classify f r
verdict_for p r f h = ap (λ (q : Parsed). verdict_in q r) h ∙ verdict_kept f r

pub taken_for : (p q : Parsed) (r : Record) → take p r ≡ Ok q → (f : ZoneFile) → p ≡ kept f → q ≡ kept (with_record f r)
taken_for p q r h f e = take_kept f r q (ap (λ (s : Parsed). take s r) (sym e) ∙ h)

-- the verdict by class, and then by kind
pub other_class : (p : Parsed) (r : Record) → not (r.class == p.class) ≡ true → Rejected ClassMismatch ≡ verdict_in p r
other_class p r h = sym (ap (λ b. if b then Rejected ClassMismatch else verdict_as p r (kind_in p r)) h)

pub verdict_of_kind : (p : Parsed) (r : Record) (kind : Kind) (v : RecordVerdict) → not (r.class == p.class) ≡ false → kind ≡ kind_in p r → v ≡ verdict_as p r kind → v ≡ verdict_in p r
verdict_of_kind p r kind v h k e = e ∙ ap (verdict_as p r) k ∙ sym (ap (λ b. if b then Rejected ClassMismatch else verdict_as p r (kind_in p r)) h)

-- what is in the way, or not
pub in_the_way : (why : ℕ → BadRecord) (o : Option ℕ) (t : ℕ) (v : RecordVerdict) → Some t ≡ o → Rejected (why t) ≡ refuse_if why o v
in_the_way why o t v h = ap (λ x. refuse_if why x v) h

pub free : (why : ℕ → BadRecord) (o : Option ℕ) (v w : RecordVerdict) → ◌≡◌ {A = Option ℕ} None o → w ≡ v → w ≡ refuse_if why o v
free why o v w h e = e ∙ ap (λ x. refuse_if why x v) h
