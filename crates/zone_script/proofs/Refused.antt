-- A record that its zone file refuses is refused at its line.
use Rattle.std.proofs.Common.{◌≡◌, ℕ, refl, sym, subst, Err, IfSome}
use Rattle.dns_rdata.specs.Records.{Record}
use Rattle.zone_model.specs.Classify.{RecordVerdict, Accepted, Rejected, ClassMismatch, IllegalZoneCut, IllegalRecord, IllegalCname, MultipleCnames}
use Rattle.zone_values.specs.declared.record_errors.RecordError.{RecordError}
use Rattle.zone_records.specs.Taking.{verdict_in, taken_by}
use Rattle.zone_records.specs.Refusals.{refusal, refusal_by}
use Rattle.zone_script.specs.Causes.{line_in, cause_of}
use Rattle.zone_script.specs.Keeping.{take_record, with_file}
use Rattle.zone_script.specs.declared.opening.OpeningZone.{OpeningZone}

pub line_refused : (z : OpeningZone) (n : ℕ) (r : Record) (why : RecordError) → why ≡ refusal z.file r → IfSome (line_in (cause_of n why)) (λ m. take_record z n r ≡ Err m)
line_refused z n r why h = subst (λ x. IfSome (line_in (cause_of n x)) (λ m. take_record z n r ≡ Err m)) (sym h) (by (verdict_in z.file r))
  where
    by : (v : RecordVerdict) → IfSome (line_in (cause_of n (refusal_by v r z.file.class))) (λ m. with_file n (taken_by z.file r v) ≡ Err m)
    by (Accepted kind) = tt
    by (Rejected ClassMismatch) = refl
    by (Rejected (IllegalZoneCut t)) = refl
    by (Rejected (IllegalRecord t)) = refl
    by (Rejected (IllegalCname t)) = refl
    by (Rejected MultipleCnames) = refl
