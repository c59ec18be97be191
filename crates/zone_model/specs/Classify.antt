-- The records of a zone file by kind, and what refuses one (RFC 1034, 4.2.1; RFC 2181, 10.1).
use Rattle.std.specs.Prelude.{ℕ, Bool, true, false, ◌&&◌, ◌||◌, not, ◌==◌, min, if◌then◌else◌, List, [], ◌∷◌, ◌++◌, map, filter, find, fold as fold_list, Option, Some, None}
use Rattle.std.specs.Option.{option_map_or, option_or}
use Rattle.dns_name.specs.Names.{Name, same_name, under}
use Rattle.dns_name.specs.Records.{Record}
use Rattle.dns_numbers.specs.Codes.{type_a, type_ns, type_cname, type_aaaa, type_ds}
use Rattle.zone_model.specs.Version.{RecordSet, Version, set_at, data_at}
use Rattle.zone_model.specs.Edits.{put_set, distinct}

-- where an accepted record goes
pub data Kind : Type 0 where
  Normal : Kind
  Cut : Kind
  Alias : Kind
  Outside : Kind

-- why a record is refused; with the type that is in its way
pub data BadRecord : Type 0 where
  ClassMismatch : BadRecord
  IllegalZoneCut : (rtype : ℕ) → BadRecord
  IllegalRecord : (rtype : ℕ) → BadRecord
  IllegalCname : (rtype : ℕ) → BadRecord
  MultipleCnames : BadRecord

pub data RecordVerdict : Type 0 where
  Accepted : (kind : Kind) → RecordVerdict
  Rejected : (why : BadRecord) → RecordVerdict

-- a zone file: its apex and class, and the records accepted so far, in order
pub record ZoneFile : Type 0 where
  pub apex : Name
  pub class : ℕ
  pub accepted : List Record

-- the kind that a record's owner and type give it (RFC 1034, 4.2.1)
abbrev pub kind_of : ZoneFile → Record → Kind
kind_of f r =
    if not (under r.owner f.apex) then Outside
    else if ((r.rtype == type_ns) || (r.rtype == type_ds)) && not (same_name r.owner f.apex) then Cut
    else if r.rtype == type_cname then Alias
    else Normal

abbrev pub same_kind : Kind → Kind → Bool
same_kind Normal Normal = true
same_kind Cut Cut = true
same_kind Alias Alias = true
same_kind Outside Outside = true
same_kind _ _ = false

-- the types of one kind that an owner has
abbrev pub types_at : ZoneFile → Name → Kind → List ℕ
types_at f owner kind = map (λ (r : Record). r.rtype) (filter (λ r. same_name r.owner owner && same_kind (kind_of f r) kind) f.accepted)

-- the least of some numbers
abbrev pub least : List ℕ → Option ℕ
least [] = None
least (n ∷ more) = Some (option_map_or (min n) (least more) n)

abbrev pub is_address : ℕ → Bool
is_address rtype = (rtype == type_a) || (rtype == type_aaaa)

-- what stands in the way at an owner: the least normal type, or the least but addresses; DS before NS; a CNAME
abbrev pub normal_at : ZoneFile → Name → Option ℕ
normal_at f owner = least (types_at f owner Normal)

abbrev pub no_glue_at : ZoneFile → Name → Option ℕ
no_glue_at f owner = least (filter (λ t. not (is_address t)) (types_at f owner Normal))

abbrev pub cut_at : ZoneFile → Name → Option ℕ
cut_at f owner = option_or (find (λ t. t == type_ds) (types_at f owner Cut)) (find (λ t. t == type_ns) (types_at f owner Cut))

abbrev pub alias_at : ZoneFile → Name → Option ℕ
alias_at f owner = least (types_at f owner Alias)

abbrev pub refuse_if : (ℕ → BadRecord) → Option ℕ → RecordVerdict → RecordVerdict
refuse_if why None otherwise = otherwise
refuse_if why (Some t) otherwise = Rejected (why t)

abbrev pub classify_as : ZoneFile → Record → Kind → RecordVerdict
classify_as f r Outside = Accepted Outside
classify_as f r Cut = refuse_if IllegalZoneCut (no_glue_at f r.owner) (refuse_if IllegalZoneCut (alias_at f r.owner) (Accepted Cut))
classify_as f r Alias = refuse_if IllegalCname (normal_at f r.owner) (refuse_if IllegalCname (cut_at f r.owner) (refuse_if (λ t. MultipleCnames) (alias_at f r.owner) (Accepted Alias)))
classify_as f r Normal = refuse_if IllegalRecord (if is_address r.rtype then None else cut_at f r.owner) (refuse_if IllegalRecord (alias_at f r.owner) (Accepted Normal))

-- the verdict on a record, after those accepted so far
abbrev pub classify : ZoneFile → Record → RecordVerdict
classify f r = if not (r.class == f.class) then Rejected ClassMismatch else classify_as f r (kind_of f r)

-- a record put to a zone: first of equal data, the lowest TTL of all records of the set (RFC 2181, 5.2)
abbrev pub lowest_ttl : Record → Option RecordSet → ℕ
lowest_ttl r s = option_map_or (λ (t : RecordSet). min t.ttl r.ttl) s r.ttl

abbrev pub opened_with : Version → Record → Version
opened_with v r = put_set v r.owner r.rtype (record { ttl = lowest_ttl r (set_at v r.owner r.rtype); items = distinct (data_at v r.owner r.rtype ++ r.fields ∷ []) })

-- the version that a zone file opens with, before DS without NS go
abbrev pub opened : ZoneFile → Version
opened f = fold_list opened_with (record { apex = f.apex; class = f.class; sets = [] }) (filter (λ r. under r.owner f.apex) f.accepted)
