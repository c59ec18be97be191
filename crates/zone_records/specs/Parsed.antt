-- What a zone file holds: the sets of the records that were taken, by kind (RFC 1034, 4.2.1; RFC 2181, 5 and 10.1).
use Rattle.std.specs.Prelude.{ℕ, Bool, ◌==◌, ◌&&◌, not, ◌++◌, ◌∷◌, [], filter, length, nat_le, IsTrue, fold as fold_list}
use Rattle.std.specs.List.{list_all}
use Rattle.std.specs.List.Sorted.{IsStrictlySortedBy}
use Rattle.std.specs.Map.{keys_of}
use Rattle.dns_name.specs.Names.{Name, fold, labels_eq}
use Rattle.dns_name.specs.Records.{Record}
use Rattle.dns_numbers.specs.Codes.{type_cname}
use Rattle.zone_model.specs.Version.{RecordSet, Key, Sets, Version, key_cmp, all_differ}
use Rattle.zone_values.specs.SetEdits.{put_all}
use Rattle.zone_model.specs.Classify.{ZoneFile, Kind, Normal, Cut, Alias, Outside, kind_of, same_kind, opened_with}

-- an origin, a class, and sets of records by kind: normal ones, those of zone cuts, CNAMEs, and those outside the origin
pub record Parsed : Type 0 where
  pub origin : Name
  pub class : ℕ
  pub normal : Sets
  pub cuts : Sets
  pub aliases : Sets
  pub outside : Sets

-- the sets of one kind
abbrev pub sets_for : Parsed → Kind → Sets
sets_for p Normal = p.normal
sets_for p Cut = p.cuts
sets_for p Alias = p.aliases
sets_for p Outside = p.outside

-- no records
abbrev pub empty_file : Name → ℕ → Parsed
empty_file origin class = record { origin = origin; class = class; normal = []; cuts = []; aliases = []; outside = [] }

-- the sets of the records of one kind among those accepted: a set has the lowest TTL of its records and the first of equal data
abbrev pub sets_of : ZoneFile → Kind → Sets
sets_of f kind = (fold_list opened_with (record { apex = f.apex; class = f.class; sets = [] }) (filter (λ r. same_kind (kind_of f r) kind) f.accepted)).sets

-- what is held of a zone file
abbrev pub kept : ZoneFile → Parsed
kept f = record { origin = f.apex; class = f.class; normal = sets_of f Normal; cuts = sets_of f Cut; aliases = sets_of f Alias; outside = sets_of f Outside }

-- the file with one more accepted record
abbrev pub with_record : ZoneFile → Record → ZoneFile
with_record f r = record f { accepted = f.accepted ++ r ∷ [] }

-- the sets of cuts and aliases put among the normal ones
abbrev pub joined : Parsed → Sets
joined p = put_all (put_all p.normal p.cuts) p.aliases

-- the version that they make
abbrev pub version_of : Parsed → Version
version_of p = record { apex = p.origin; class = p.class; sets = joined p }

-- what sets keep whatever is put to them: owners in lower case and in order, and in each set data, of which no two are equal
abbrev pub is_tidy_at : Key × RecordSet → Bool
is_tidy_at e = labels_eq e.0.0 (fold e.0.0) && nat_le 1 (length e.1.items) && all_differ e.1.items

pub record IsTidy (sets : Sets) : Type 0 where
  pub ordered : IsStrictlySortedBy key_cmp (keys_of sets)
  pub each : IsTrue (list_all is_tidy_at sets)

-- CNAMEs are the aliases, each of one record, and no others (RFC 2181, 10.1)
abbrev pub is_no_alias : Key × RecordSet → Bool
is_no_alias e = not (e.0.1 == type_cname)

abbrev pub is_one_alias : Key × RecordSet → Bool
is_one_alias e = (e.0.1 == type_cname) && (length e.1.items == 1)

abbrev pub IsByKind : Sets → Sets → Sets → Type 0
IsByKind normal cuts aliases = IsTrue (list_all is_no_alias normal) × IsTrue (list_all is_no_alias cuts) × IsTrue (list_all is_one_alias aliases)
