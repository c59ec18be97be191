-- Sets of a version or a difference as a transfer tells them, and the sides of differences in order (RFC 5936, 2.2; RFC 1995, 4).
use Rattle.std.specs.Prelude.{◌++◌, Bool, true, false, not, List, [], ◌∷◌, filter, flat_map, drop}
use Rattle.std.specs.Ordering.{is_lt}
use Rattle.dns_name.specs.Records.{Record}
use Rattle.zone_model.specs.Version.{RecordSet, Key, Sets, Version, key_cmp}
use Rattle.zone_model.specs.Answer.{records_of}
use Rattle.zone_model.specs.Walk.{shown_owner}
use Rattle.zone_model.specs.Difference.{Difference}
use Rattle.zone_model.specs.Offer.{side_soas, side_records, is_apex_soa}
use Rattle.xfr_replies.specs.declared.place.Side.{Side}

-- the sets behind a key, in order
abbrev pub behind : Key → Sets → Sets
behind k sets = filter (λ (e : Key × RecordSet). is_lt (key_cmp k e.0)) sets

-- the records of some sets in order, the apex as it was given
abbrev pub shown_records : Version → Sets → List Record
shown_records v sets = flat_map (λ (e : Key × RecordSet). records_of (shown_owner v e.0.0) e.0.1 v.class e.1) sets

-- .. without the apex SOA
abbrev pub middle_of : Version → Sets → List Record
middle_of v sets = filter (λ r. not (is_apex_soa v r)) (shown_records v sets)

-- one side of a difference: its apex SOA records, then all records but SOA (RFC 1995, 4)
abbrev pub side_text : Version → Sets → List Record
side_text v sets = side_soas v sets ++ side_records v sets

-- the sides of differences in the order in which they are told: of each what goes, then what comes
abbrev pub sides_of : List Difference → List Sets
sides_of [] = []
sides_of (d ∷ more) = d.removed ∷ d.added ∷ sides_of more

-- .. from one side on
abbrev pub without_removed : List Difference → List Sets
without_removed [] = []
without_removed (d ∷ more) = d.added ∷ sides_of more

abbrev pub sides_by : (adds : Bool) → List Difference → List Sets
sides_by false ds = sides_of ds
sides_by true ds = without_removed ds

abbrev pub sides_from : List Difference → Side → List Sets
sides_from ds side = sides_by side.adds (drop side.number ds)

-- the first of some sides, and those behind it
abbrev pub first_side : List Sets → Sets
first_side [] = []
first_side (s ∷ more) = s
