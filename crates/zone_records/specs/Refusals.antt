-- Refusals with the record that is refused, and what is read of a list of records (RFC 1035, 5.2).
use Rattle.std.specs.Prelude.{ℕ, ◌==◌, if◌then◌else◌, List, [], ◌∷◌, ◌++◌, length, fold as fold_list, Option, Some, None, Result, Ok, Err}
use Rattle.dns_name.specs.Names.{Name}
use Rattle.dns_name.specs.Records.{Record}
use Rattle.dns_numbers.specs.Codes.{type_soa}
use Rattle.zone_model.specs.Classify.{BadRecord, ClassMismatch, IllegalZoneCut, IllegalRecord, IllegalCname, MultipleCnames, RecordVerdict, Accepted, Rejected}
use Rattle.zone_values.specs.declared.record_errors.RecordError.{RecordError}
use Rattle.zone_values.specs.declared.record_errors.RecordError.TheVariants as errors
use Rattle.zone_records.specs.Parsed.{Parsed, empty_file}
use Rattle.zone_records.specs.Taking.{verdict_in, taken_in}

-- the refusal of a record by a file of this class
abbrev pub error_of : BadRecord → Record → ℕ → RecordError
error_of ClassMismatch r class = errors.ClassMismatch r class
error_of (IllegalZoneCut rtype) r class = errors.IllegalZoneCut r rtype
error_of (IllegalRecord rtype) r class = errors.IllegalRecord r rtype
error_of (IllegalCname rtype) r class = errors.IllegalCname r rtype
error_of MultipleCnames r class = errors.MultipleCnames r

-- why a record isn't put in, by the verdict on it: for want of memory alone, where it is accepted
abbrev pub refusal_by : RecordVerdict → Record → ℕ → RecordError
refusal_by (Accepted kind) r class = errors.Memory
refusal_by (Rejected why) r class = error_of why r class

abbrev pub refusal : Parsed → Record → RecordError
refusal p r = refusal_by (verdict_in p r) r p.class

-- refusals in order, each under the owner of its record
abbrev pub Refusals : Type 0
Refusals = List (Name × RecordError)

-- what is held after some records, and the refusals of the others
abbrev pub Reading : Type 0
Reading = Parsed × Refusals

abbrev pub read_by : RecordVerdict → Reading → Record → Reading
read_by (Accepted kind) s r = (taken_in s.0 r kind, s.1)
read_by (Rejected why) s r = (s.0, s.1 ++ (r.owner, error_of why r s.0.class) ∷ [])

abbrev pub read_one : Reading → Record → Reading
read_one s r = read_by (verdict_in s.0 r) s r

abbrev pub read_all : Reading → List Record → Reading
read_all s rs = fold_list read_one s rs

-- the file that an SOA record begins: its owner is the origin, and its class the file's
abbrev pub opening_file : List Record → Option Parsed
opening_file [] = None
opening_file (first ∷ more) = if first.rtype == type_soa then Some (empty_file first.owner first.class) else None

-- the refusal of records that don't begin with one
abbrev pub missing_soa : List Record → Refusals
missing_soa [] = ([], errors.MissingSoa None) ∷ []
missing_soa (first ∷ more) = (first.owner, errors.MissingSoa (Some first)) ∷ []

abbrev pub unless_refused : Reading → Result Parsed Refusals
unless_refused s = if length s.1 == 0 then Ok s.0 else Err s.1

abbrev pub read_after : Option Parsed → List Record → Result Parsed Refusals
read_after None rs = Err (missing_soa rs)
read_after (Some p) rs = unless_refused (read_all (p, []) rs)

-- the file that records make, or all that is refused of them
abbrev pub file_of : List Record → Result Parsed Refusals
file_of rs = read_after (opening_file rs) rs
