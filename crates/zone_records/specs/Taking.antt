-- The verdict on a record by the sets that stand at its owner, and what taking it makes of them (RFC 1034, 4.2.1; RFC 2181, 10.1).
use Rattle.std.specs.Prelude.{ℕ, ◌==◌, not, if◌then◌else◌, List, [], map, filter, find, Option, None, Result, Ok, Err}
use Rattle.std.specs.Option.{option_or}
use Rattle.dns_name.specs.Names.{Name, same_name}
use Rattle.dns_name.specs.Records.{Record}
use Rattle.dns_numbers.specs.Codes.{type_ns, type_ds}
use Rattle.zone_model.specs.Version.{RecordSet, Key, Sets}
use Rattle.zone_model.specs.Classify.{ZoneFile, Kind, Normal, Cut, Alias, Outside, BadRecord, ClassMismatch, IllegalZoneCut, IllegalRecord, IllegalCname, MultipleCnames, RecordVerdict, Accepted, Rejected, kind_of, least, is_address, refuse_if, opened_with}
use Rattle.zone_records.specs.Parsed.{Parsed, kept, with_record}

-- the types that an owner has among some sets
abbrev pub types_in : Sets → Name → List ℕ
types_in sets owner = map (λ (e : Key × RecordSet). e.0.1) (filter (λ (e : Key × RecordSet). same_name e.0.0 owner) sets)

-- the least of them, and the least but those of addresses
abbrev pub least_in : Sets → Name → Option ℕ
least_in sets owner = least (types_in sets owner)

abbrev pub no_glue_in : Sets → Name → Option ℕ
no_glue_in sets owner = least (filter (λ t. not (is_address t)) (types_in sets owner))

-- DS before NS
abbrev pub cut_in : Sets → Name → Option ℕ
cut_in sets owner = option_or (find (λ t. t == type_ds) (types_in sets owner)) (find (λ t. t == type_ns) (types_in sets owner))

-- the kind that a record's owner and type give it under the origin
abbrev pub kind_in : Parsed → Record → Kind
kind_in p r = kind_of (record { apex = p.origin; class = p.class; accepted = [] }) r

-- the verdict on a record of one kind
abbrev pub cut_verdict : Parsed → Name → RecordVerdict
cut_verdict p owner = refuse_if IllegalZoneCut (no_glue_in p.normal owner) (refuse_if IllegalZoneCut (least_in p.aliases owner) (Accepted Cut))

abbrev pub alias_verdict : Parsed → Name → RecordVerdict
alias_verdict p owner = refuse_if IllegalCname (least_in p.normal owner) (refuse_if IllegalCname (cut_in p.cuts owner) (refuse_if (λ t. MultipleCnames) (least_in p.aliases owner) (Accepted Alias)))

abbrev pub normal_verdict : Parsed → Name → ℕ → RecordVerdict
normal_verdict p owner rtype = refuse_if IllegalRecord (if is_address rtype then None else cut_in p.cuts owner) (refuse_if IllegalRecord (least_in p.aliases owner) (Accepted Normal))

abbrev pub verdict_as : Parsed → Record → Kind → RecordVerdict
verdict_as p r Outside = Accepted Outside
verdict_as p r Cut = cut_verdict p r.owner
verdict_as p r Alias = alias_verdict p r.owner
verdict_as p r Normal = normal_verdict p r.owner r.rtype

-- the verdict on a record
abbrev pub verdict_in : Parsed → Record → RecordVerdict
verdict_in p r = if not (r.class == p.class) then Rejected ClassMismatch else verdict_as p r (kind_in p r)

-- the sets with a record put to them: the lower TTL stays, and the first of equal data
abbrev pub put_to : Sets → Record → Sets
put_to sets r = (opened_with (record { apex = []; class = r.class; sets = sets }) r).sets

-- what is held with a record that was taken as one of a kind
abbrev pub taken_in : Parsed → Record → Kind → Parsed
taken_in p r Normal = record p { normal = put_to p.normal r }
taken_in p r Cut = record p { cuts = put_to p.cuts r }
taken_in p r Alias = record p { aliases = put_to p.aliases r }
taken_in p r Outside = record p { outside = put_to p.outside r }

abbrev pub taken_by : Parsed → Record → RecordVerdict → Result Parsed BadRecord
taken_by p r (Accepted kind) = Ok (taken_in p r kind)
taken_by p r (Rejected why) = Err why

-- what is held with a record, or why the record is refused
abbrev pub take : Parsed → Record → Result Parsed BadRecord
take p r = taken_by p r (verdict_in p r)

-- the same of a file of accepted records
abbrev pub taken_as : ZoneFile → Record → RecordVerdict → Result Parsed BadRecord
taken_as f r (Accepted kind) = Ok (kept (with_record f r))
taken_as f r (Rejected why) = Err why
