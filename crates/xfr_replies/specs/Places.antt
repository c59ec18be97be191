-- The places of a transfer's text, and the text from a place on (RFC 5936, 2.2; RFC 1995, 4).
use Rattle.std.specs.Prelude.{◌≡◌, ℕ, ◌++◌, ◌<◌, List, [], flat_map, drop, length, Option, Some, None, IfSome, option_map}
use Rattle.dns_name.specs.Names.{Name, fold}
use Rattle.dns_name.specs.Records.{Record}
use Rattle.zone_model.specs.Version.{RecordSet, Sets, Version, set_in, set_at}
use Rattle.zone_model.specs.Answer.{first_only, records_of_option, apex_soa_record}
use Rattle.zone_model.specs.Commits.{Commit}
use Rattle.zone_model.specs.Difference.{Difference}
use Rattle.zone_model.specs.Offer.{side_records}
use Rattle.zone_values.specs.TypedEntries.{typed}
use Rattle.xfr_replies.specs.Sides.{behind, middle_of, side_text, sides_of, sides_from, first_side}
use Rattle.xfr_replies.specs.declared.place.Part.{Part}
use Rattle.xfr_replies.specs.declared.place.Part.TheVariants.{BeforeZone, Zone, BeforeChanges, SideSoas, SideSets, Last}
use Rattle.xfr_replies.specs.declared.place.Place.{Place}

-- what a transfer's text is at: the version that it tells of, and the records that are left of it
pub record TextLeft : Type 0 where
  pub zone : Commit
  pub records : List Record

-- the set at an owner and type in a part of the text: of the zone's SOA set the first record alone
abbrev pub set_in_part : Version → List Difference → Part → Name → ℕ → Option RecordSet
set_in_part v ds BeforeZone owner rtype = option_map first_only (set_at v owner rtype)
set_in_part v ds Zone owner rtype = set_at v owner rtype
set_in_part v ds BeforeChanges owner rtype = option_map first_only (set_at v owner rtype)
set_in_part v ds (SideSoas side) owner rtype = set_in (first_side (sides_from ds side)) (fold owner, rtype)
set_in_part v ds (SideSets side) owner rtype = set_in (first_side (sides_from ds side)) (fold owner, rtype)
set_in_part v ds Last owner rtype = option_map first_only (set_at v owner rtype)

-- a set that is kept with a place is the one there
abbrev pub KeepsItsSet : Version → List Difference → Place → Type 0
KeepsItsSet v ds p = IfSome p.set (λ s. Some s ≡ option_map (typed p.rtype) (set_in_part v ds p.part p.owner p.rtype))

-- the text of sides and what ends it
abbrev pub sides_text : Version → List Sets → List Record
sides_text v sides = flat_map (side_text v) sides ++ apex_soa_record v

-- what stands behind the set at an owner and type in a part of the text
abbrev pub text_behind : Version → List Difference → Part → Name → ℕ → List Record
text_behind v ds BeforeZone owner rtype = middle_of v v.sets ++ apex_soa_record v
text_behind v ds Zone owner rtype = middle_of v (behind (fold owner, rtype) v.sets) ++ apex_soa_record v
text_behind v ds BeforeChanges owner rtype = sides_text v (sides_of ds)
text_behind v ds (SideSoas side) owner rtype = side_records v (first_side (sides_from ds side)) ++ sides_text v (drop 1 (sides_from ds side))
text_behind v ds (SideSets side) owner rtype = side_records v (behind (fold owner, rtype) (first_side (sides_from ds side))) ++ sides_text v (drop 1 (sides_from ds side))
text_behind v ds Last owner rtype = []

-- the records of a place's set
abbrev pub place_records : Version → List Difference → Place → List Record
place_records v ds p = records_of_option p.owner p.rtype v.class (set_in_part v ds p.part p.owner p.rtype)

-- the text from a place on: the records of its set from its index on, then what stands behind the set
abbrev pub text_from : Version → List Difference → Place → List Record
text_from v ds p = drop p.index (place_records v ds p) ++ text_behind v ds p.part p.owner p.rtype

-- .. where nothing is left there is no place
abbrev pub text_left : Version → List Difference → Option Place → List Record
text_left v ds None = []
text_left v ds (Some p) = text_from v ds p

-- a place of a text is at a record: its set is there, the index is one of the set's, and a set that is kept is that one
abbrev pub IsPlace : Version → List Difference → Option Place → Type 0
IsPlace v ds None = Unit {0}
IsPlace v ds (Some p) = (p.index < length (place_records v ds p)) × KeepsItsSet v ds p

-- a place from which on a text is this one
pub record Begins (v : Version) (ds : List Difference) (text : List Record) (p : Option Place) : Type 0 where
  pub is_place : IsPlace v ds p
  pub left : text_left v ds p ≡ text
