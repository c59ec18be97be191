-- What keeps the records that are held from making a zone (RFC 1034, 3.6.2 and 4.2.1; RFC 4035, 2.4).
use Rattle.std.specs.Prelude.{◌==◌, Bool, ◌&&◌, ◌||◌, [], ◌∷◌, ◌++◌, not, if◌then◌else◌, List, length, Option, Some, None, is_some, option_map, filter_map}
use Rattle.std.specs.List.{list_all}
use Rattle.std.specs.Map.{keys_of}
use Rattle.dns_name.specs.Names.{Name, fold, same_name, under}
use Rattle.dns_name.specs.Records.{Record}
use Rattle.dns_numbers.specs.Codes.{type_ns, type_cname, type_ds}
use Rattle.zone_model.specs.Version.{Key, set_in, below_apex, is_cut}
use Rattle.zone_model.specs.Classify.{ZoneFile, Kind, Normal, Cut, Alias, Outside, opened}
use Rattle.zone_values.specs.declared.record_errors.ContextError.{ContextError}
use Rattle.zone_values.specs.declared.record_errors.ContextError.TheVariants.{MissingNs, InvalidZonecut, InvalidCname, OutOfZone}
use Rattle.zone_values.specs.declared.errors.ZoneCutError.TheVariants as no_cut
use Rattle.zone_values.specs.declared.errors.CnameError.TheVariants as no_alias
use Rattle.zone_records.specs.Parsed.{Parsed, sets_for}

-- at the sets of a cut: DS without NS, or else, once, a name that can be no cut
abbrev pub cut_fault : Parsed → Key → Option ContextError
cut_fault p k =
    if not (is_some (set_in p.cuts (fold k.0, type_ns))) then Some MissingNs
    else if k.1 == type_ds then None
    else if not (under k.0 p.origin) then Some (InvalidZonecut no_cut.OutOfZone)
    else if same_name k.0 p.origin then Some (InvalidZonecut no_cut.ZoneCutAtApex)
    else None

-- at a CNAME: a name that can hold none
abbrev pub alias_fault : Parsed → Key → Option ContextError
alias_fault p k =
    if not (under k.0 p.origin) then Some (InvalidCname no_alias.OutOfZone)
    else if same_name k.0 p.origin then Some (InvalidCname no_alias.CnameAtApex)
    else None

-- at a normal set: an owner that is outside now
abbrev pub normal_fault : Parsed → Key → Option ContextError
normal_fault p k = if not (under k.0 p.origin) then Some (OutOfZone k.1) else None

-- what is outside stays so, whatever the origin is now
abbrev pub fault_at : Parsed → Kind → Key → Option ContextError
fault_at p Cut k = cut_fault p k
fault_at p Alias k = alias_fault p k
fault_at p Normal k = normal_fault p k
fault_at p Outside k = Some (OutOfZone k.1)

-- the faults at some keys, each under its owner
abbrev pub faults_at : Parsed → Kind → List Key → List (Name × ContextError)
faults_at p kind ks = filter_map (λ (k : Key). option_map (λ (why : ContextError). (k.0, why)) (fault_at p kind k)) ks

-- those of one kind, in canonical order of their owners and then by type
abbrev pub faults_of : Parsed → Kind → List (Name × ContextError)
faults_of p kind = faults_at p kind (keys_of (sets_for p kind))

-- all of them: at cuts, at CNAMEs, at normal sets, and at sets outside
abbrev pub faults : Parsed → List (Name × ContextError)
faults p = faults_of p Cut ++ faults_of p Alias ++ faults_of p Normal ++ faults_of p Outside

-- a list with the fault at a key, if there is one
abbrev pub with_fault : List (Name × ContextError) → Key → Option ContextError → List (Name × ContextError)
with_fault found k None = found
with_fault found k (Some why) = found ++ (k.0, why) ∷ []

-- whether the records make a zone
abbrev pub is_whole : Parsed → Bool
is_whole p = length (faults p) == 0

-- whether those of a file do: none is outside, none a CNAME at the apex, and DS records below it have NS records beside them
-- (RFC 1034, 3.6.2 and 4.2.1; RFC 4035, 2.4)
abbrev pub makes_zone : ZoneFile → Bool
makes_zone f =
    let v = opened f in
    list_all (λ (r : Record). under r.owner f.apex && not ((r.rtype == type_cname) && same_name r.owner f.apex) && (not ((r.rtype == type_ds) && below_apex v r.owner) || is_cut v r.owner)) f.accepted
