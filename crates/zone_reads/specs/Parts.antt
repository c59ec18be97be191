-- The parts of one version: a name that is in the zone, with its sets, what it is by them, and the names one label below (RFC 1034, 3.1 and 4.2.1).
use Rattle.std.specs.Prelude.{◌≡◌, ℕ, true, ◌&&◌, if◌then◌else◌, List, [], ◌∷◌, map, Option, Some, None, option_map, option_copied, unwrap_or, flat_map}
use Rattle.dns_name.specs.Names.{Name, fold, under, is_name}
use Rattle.dns_numbers.specs.Codes.{type_ns, type_cname, type_ds}
use Rattle.dns_rdata.specs.Records.{Record}
use Rattle.zone_model.specs.Version.{RecordSet, Key, Version, IsValid, set_at, exists, is_cut}
use Rattle.zone_model.specs.Answer.{sets_of, alias_at, addresses_of}
use Rattle.zone_values.specs.TypedSets.{TypedSet}
use Rattle.zone_values.specs.TypedEntries.{typed}
use Rattle.zone_values.specs.declared.zone_cut.ZoneCut.{ZoneCut}
use Rattle.zone_reads.specs.declared.special.Special.{Special}
use Rattle.zone_reads.specs.declared.special.Special.TheVariants.{Cut, Cname}

-- a name of a version
pub record Part : Type 0 where
  pub version : Version
  pub name : Name

abbrev pub part : Version → Name → Part
part v n = record { version = v; name = n }

-- .. of one that may be published, the apex or below it
abbrev pub IsPart : Part → Type 0
IsPart p = IsValid p.version × (under p.name p.version.apex ≡ true)

-- .. that exists (RFC 4592, 2.2.2)
abbrev pub IsNode : Part → Type 0
IsNode p = IsPart p × (exists p.version p.name ≡ true)

-- the sets of the name with their types, which ascend
abbrev pub sets_with_types : List (Key × RecordSet) → List TypedSet
sets_with_types es = map (λ (e : Key × RecordSet). typed e.0.1 e.1) es

abbrev pub sets_here : Part → List TypedSet
sets_here p = sets_with_types (sets_of p.version p.name)

-- the node of a name, where it is one and exists (RFC 1035, 2.3.4; RFC 4592, 2.2.2)
abbrev pub node_named : Version → Name → Option Part
node_named v n = if is_name n && exists v n then Some (part v n) else None

-- the node of a label below a name
abbrev pub child_of : Part → List ℕ → Option Part
child_of p label = node_named p.version (label ∷ p.name)

-- what a name below the apex is by its sets: a zone cut with its NS and DS sets (RFC 1034, 4.2.1), or else an alias with its CNAME set
pub data SpecialAt : Type 0 where
  CutAt : (ns : TypedSet) (ds : Option TypedSet) → SpecialAt
  CnameAt : (target : TypedSet) → SpecialAt

abbrev pub special_at : Version → Name → Option SpecialAt
special_at v n =
    if is_cut v n then Some (CutAt (typed type_ns (unwrap_or (set_at v n type_ns) (record { ttl = 0; items = [] }))) (option_map (typed type_ds) (set_at v n type_ds)))
    else option_map (λ (s : RecordSet). CnameAt (typed type_cname s)) (alias_at v n)

-- .. as its sets are lent
abbrev pub special_of : Special → SpecialAt
special_of (Cut ns ds) = CutAt ns.now (option_copied ds)
special_of (Cname target) = CnameAt target.now

-- a zone cut: its name, its NS and DS sets, and the addresses of its servers
pub record CutParts : Type 0 where
  pub name : Name
  pub ns : TypedSet
  pub ds : Option TypedSet
  pub glue : List Record

abbrev pub parts_of_cut : ZoneCut → CutParts
parts_of_cut c = record { name = c.name; ns = c.ns; ds = c.ds; glue = c.glue.items }

-- the zone cut of these sets, its name in lower case, its glue the addresses in the zone (RFC 1034, 4.2.1)
abbrev pub cut_of_sets : Version → Name → TypedSet → Option TypedSet → CutParts
cut_of_sets v n ns ds = record { name = fold n; ns = ns; ds = ds; glue = flat_map (addresses_of v) ns.contents.items }

abbrev pub cut_in : Version → Name → Option SpecialAt → Option CutParts
cut_in v n (Some (CutAt ns ds)) = Some (cut_of_sets v n ns ds)
cut_in v n (Some (CnameAt target)) = None
cut_in v n None = None

-- the zone cut that stands at a name
abbrev pub cut_at : Version → Name → Option CutParts
cut_at v n =
    if is_cut v n then Some (cut_of_sets v n (typed type_ns (unwrap_or (set_at v n type_ns) (record { ttl = 0; items = [] }))) (option_map (typed type_ds) (set_at v n type_ds)))
    else None
