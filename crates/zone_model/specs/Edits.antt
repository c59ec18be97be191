-- Edits of a version, and what refuses them (RFC 2136, 3.4.2, in this project's profile).
use Rattle.std.specs.Prelude.{ℕ, ◌+◌, ◌^◌, ◌%◌, Bool, false, ◌&&◌, ◌||◌, not, ◌==◌, if◌then◌else◌, List, [], ◌∷◌, ◌++◌, length, min, filter, fold as fold_list, unwrap_or, Option, Some, None, is_some, Result, Ok, Err}
use Rattle.std.specs.Option.{option_map_or}
use Rattle.std.specs.List.{list_any}
use Rattle.std.specs.BTreeMap.{insert_entry}
use Rattle.std.specs.Map.{remove_entry}
use Rattle.dns_name.specs.Names.{Name, fold, under}
use Rattle.dns_name.specs.Records.{Field, Record, same_data}
use Rattle.dns_name.specs.Soa.{serial_of, with_serial}
use Rattle.dns_numbers.specs.Codes.{type_a, type_ns, type_cname, type_soa, type_aaaa, type_ds}
use Rattle.zone_model.specs.Version.{RecordSet, Key, Sets, Version, key_cmp, has_key, set_at, data_at, below_apex, first_or_none}

-- why an edit is refused, tested in this order
pub data Refusal : Type 0 where
  OutOfZone : Refusal
  Incompatible : Refusal
  InvalidData : Refusal

-- the version with these sets
abbrev pub with_sets : Version → Sets → Version
with_sets v sets = record v { sets = sets }

-- the version without the set of an owner and type
abbrev pub remove_set : Version → Name → ℕ → Version
remove_set v owner rtype = with_sets v (remove_entry (has_key (fold owner, rtype)) v.sets)

-- the version with a set in place of the one of that owner and type; an empty one removes
abbrev pub put_set : Version → Name → ℕ → RecordSet → Version
put_set v owner rtype s = if length s.items == 0 then remove_set v owner rtype else with_sets v (insert_entry key_cmp v.sets (fold owner, rtype) s)

-- the first of equal data
abbrev pub distinct : List (List Field) → List (List Field)
distinct [] = []
distinct (d ∷ more) = d ∷ filter (λ x. not (same_data d x)) (distinct more)

-- whether a record's data stand in its set
abbrev pub has_data : Version → Record → Bool
has_data v r = list_any (same_data r.fields) (data_at v r.owner r.rtype)

-- a second CNAME below the apex (RFC 2181, 10.1)
abbrev pub second_alias : Version → Record → Bool
second_alias v r = below_apex v r.owner && (r.rtype == type_cname) && is_some (set_at v r.owner type_cname)

-- Add: the data last, the set's TTL the record's
abbrev pub add : Version → Record → Result Version Refusal
add v r =
    if not (under r.owner v.apex) then Err OutOfZone
    else if has_data v r then Err Incompatible
    else if second_alias v r then Err InvalidData
    else Ok (put_set v r.owner r.rtype (record { ttl = r.ttl; items = data_at v r.owner r.rtype ++ r.fields ∷ [] }))

-- Del: by data alone; what is left takes the record's TTL
abbrev pub delete : Version → Record → Result Version Refusal
delete v r =
    if not (under r.owner v.apex) then Err OutOfZone
    else if not (has_data v r) then Err Incompatible
    else Ok (put_set v r.owner r.rtype (record { ttl = r.ttl; items = filter (λ d. not (same_data r.fields d)) (data_at v r.owner r.rtype) }))

-- SetSoa: the apex SOA set is this one record, whatever its owner and class
abbrev pub set_soa : Version → Record → Version
set_soa v r = put_set v v.apex type_soa (record { ttl = r.ttl; items = r.fields ∷ [] })

-- whether a set of a node is refused: below the apex, a CNAME set that has not exactly one value
abbrev pub is_bad_alias : Version → Name → ℕ → RecordSet → Bool
is_bad_alias v owner rtype s = below_apex v owner && (rtype == type_cname) && not (length (distinct s.items) == 1)

-- Put: the set in place of the old one, the first of equal data kept
abbrev pub replace_set : Version → Name → ℕ → RecordSet → Result Version Refusal
replace_set v owner rtype s = if is_bad_alias v owner rtype s then Err InvalidData else Ok (put_set v owner rtype (record s { items = distinct s.items }))

-- Clear: nothing at or below a name
abbrev pub clear : Version → Name → Version
clear v n = with_sets v (filter (λ (e : Key × RecordSet). not (under e.0.0 n)) v.sets)

-- a node as a plain one, as an alias, or as a cut: what it loses and gets (RFC 1034, 3.6.2 and 4.2.1); the apex is plain as it is
abbrev pub make_plain : Version → Name → Version
make_plain v n = if below_apex v n then remove_set (remove_set (remove_set v n type_ns) n type_ds) n type_cname else v

abbrev pub make_alias : Version → Name → ℕ → List Field → Version
make_alias v n ttl target = put_set v n type_cname (record { ttl = ttl; items = target ∷ [] })

-- glue: an address in the zone is put where the set lacks its data, and the lower TTL stays (RFC 1034, 4.2.1)
abbrev pub add_glue : Version → Record → Version
add_glue v r =
    if not (under r.owner v.apex && ((r.rtype == type_a) || (r.rtype == type_aaaa))) || has_data v r then v
    else put_set v r.owner r.rtype (record { ttl = option_map_or (λ (s : RecordSet). min s.ttl r.ttl) (set_at v r.owner r.rtype) r.ttl; items = data_at v r.owner r.rtype ++ r.fields ∷ [] })

-- the set with the first of equal data
abbrev pub distinct_set : RecordSet → RecordSet
distinct_set s = record s { items = distinct s.items }

abbrev pub make_cut : Version → Name → RecordSet → Option RecordSet → List Record → Version
make_cut v n servers signer glue =
    fold_list add_glue (put_set (put_set v n type_ns (distinct_set servers)) n type_ds (distinct_set (unwrap_or signer (record { ttl = 0; items = [] })))) glue

-- Close: no DS below the apex without NS (RFC 4035, 2.4)
abbrev pub is_stray : Version → Key × RecordSet → Bool
is_stray v e = below_apex v e.0.0 && (e.0.1 == type_ds) && not (is_some (set_at v e.0.0 type_ns))

abbrev pub close : Version → Version
close v = with_sets v (filter (λ e. not (is_stray v e)) v.sets)

-- the first record of the apex SOA set: its TTL and data
abbrev pub first_record : RecordSet → Option (ℕ × List Field)
first_record s = option_map_or (λ d. Some (s.ttl, d)) (first_or_none s.items) None

abbrev pub first_soa : Version → Option (ℕ × List Field)
first_soa v = option_map_or first_record (set_at v v.apex type_soa) None

-- whether the pending SOA stays: its first record differs from the published one
abbrev pub is_news : Option (ℕ × List Field) → ℕ × List Field → Bool
is_news None old = false
is_news (Some p) old = not ((p.0 == old.0) && same_data p.1 old.1)

-- Bump: a pending SOA that is absent or as published becomes the published one with the next serial (RFC 1982, 3.1)
abbrev pub bump_from : Version → Option (ℕ × List Field) → Version
bump_from pending None = pending
bump_from pending (Some old) =
    if is_news (first_soa pending) old then pending
    else put_set pending pending.apex type_soa (record { ttl = old.0; items = with_serial ((serial_of old.1 + 1) % 2 ^ 32) old.1 ∷ [] })

abbrev pub bump : Version → Version → Version
bump published pending = bump_from pending (first_soa published)

-- edits in turn, up to the first refusal
abbrev pub and_then : Result Version Refusal → (Version → Result Version Refusal) → Result Version Refusal
and_then (Ok v) next = next v
and_then (Err e) next = Err e

abbrev pub add_all : Version → List Record → Result Version Refusal
add_all v [] = Ok v
add_all v (r ∷ rs) = and_then (add v r) (λ w. add_all w rs)

abbrev pub delete_all : Version → List Record → Result Version Refusal
delete_all v [] = Ok v
delete_all v (r ∷ rs) = and_then (delete v r) (λ w. delete_all w rs)
