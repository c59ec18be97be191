-- What a primary offers, and the text that it sends of it (RFC 5936, 2.2 and 3; RFC 1995, 4).
use Rattle.std.specs.Prelude.{◌≡◌, ℕ, ◌+◌, Bool, true, false, ◌&&◌, not, ◌==◌, nat_eq, nat_le, if◌then◌else◌, List, [], ◌∷◌, ◌++◌, map, flat_map, filter, length, sum_by, Option, Some, None, IsTrue, Result, Ok, Err}
use Rattle.std.specs.Option.{option_map_or}
use Rattle.std.specs.List.{list_all, list_any, last_or}
use Rattle.dns_name.specs.Names.{Name, fold, same_name}
use Rattle.dns_name.specs.Records.{Record, record_wire}
use Rattle.dns_numbers.specs.Serial.{serial_upto}
use Rattle.dns_numbers.specs.Codes.{type_soa}
use Rattle.zone_model.specs.Version.{RecordSet, Key, Sets, Version, set_in, same_version}
use Rattle.zone_model.specs.Answer.{records_of, apex_soa_record}
use Rattle.zone_model.specs.Walk.{records_of_version, shown_owner}
use Rattle.zone_model.specs.Difference.{Difference, difference, diffable, zone_serial}
use Rattle.zone_model.specs.TransferText.{Mode, Axfr, Ixfr, is_soa, is_plain}

-- why a provider offers nothing
pub data Denial : Type 0 where
  UnknownZone : Denial
  NotGranted : Denial

-- an offer: a version, the differences that lead to it from the asked serial, oldest first, and whether messages hold one record each
pub record Offer : Type 0 where
  pub version : Version
  pub differences : List Difference
  pub compatibility : Bool

-- the differences of versions in a row
abbrev pub successive : List Version → List Difference
successive [] = []
successive (v ∷ []) = []
successive (v ∷ w ∷ more) = difference v w ∷ successive (w ∷ more)

-- whether each two in a row have a difference to tell
abbrev pub all_diffable : List Version → Bool
all_diffable [] = true
all_diffable (v ∷ []) = true
all_diffable (v ∷ w ∷ more) = diffable v w && all_diffable (w ∷ more)

abbrev pub all_distinct : List ℕ → Bool
all_distinct [] = true
all_distinct (n ∷ more) = not (list_any (nat_eq n) more) && all_distinct more

-- an offer's differences are those of a history that ends in the version offered, and no two of its serials are one
pub record IsHistory (offer : Offer) (history : List Version) : Type 0 where
  pub ends : last_or None history ≡ Some offer.version
  pub tells : offer.differences ≡ successive history
  pub newer : IsTrue (all_diffable history)
  pub distinct : IsTrue (all_distinct (map zone_serial history))

-- the kept version, with the differences that lead to it, oldest first; a push adds one, or begins anew (RFC 1995, 5)
abbrev pub after_serial : ℕ → List Difference → List Difference
after_serial n [] = []
after_serial n (d ∷ more) = if d.start_serial == n then more else after_serial n more

abbrev pub has_start : ℕ → List Difference → Bool
has_start n ds = list_any (λ (d : Difference). d.start_serial == n) ds

abbrev pub pushed : List Difference → Option Difference → List Difference
pushed kept None = []
pushed kept (Some d) = (if has_start d.end_serial kept then after_serial d.end_serial kept else kept) ++ d ∷ []

-- the differences from the one that starts at a serial on; none where none does
abbrev pub from_serial : ℕ → List Difference → List Difference
from_serial asked [] = []
from_serial asked (d ∷ more) = if d.start_serial == asked then d ∷ more else from_serial asked more

-- what a provider keeps of a history that is pushed to it version by version: a difference where there is one to tell
abbrev pub difference_if : Version → Version → Option Difference
difference_if v w = if diffable v w then Some (difference v w) else None

abbrev pub kept_differences : List Difference → List Version → List Difference
kept_differences kept [] = kept
kept_differences kept (v ∷ []) = kept
kept_differences kept (v ∷ w ∷ more) = kept_differences (pushed kept (difference_if v w)) (w ∷ more)

-- the offer of a provider in answer to a serial (RFC 1995, 2)
abbrev pub offer_of : Version → List Difference → Bool → ℕ → Offer
offer_of kept differences compatibility asked = record { version = kept; differences = from_serial asked differences; compatibility = compatibility }

-- the apex SOA data of one side of a difference
abbrev pub side_soas : Version → Sets → List Record
side_soas v sets = option_map_or (records_of v.apex type_soa v.class) (set_in sets (fold v.apex, type_soa)) []

-- whether one SOA of the apex goes and one comes in each difference
abbrev pub is_sendable : Version → Difference → Bool
is_sendable v d = (length (side_soas v d.removed) == 1) && (length (side_soas v d.added) == 1)

-- the records of one side but SOA, in canonical order
abbrev pub side_records : Version → Sets → List Record
side_records v sets = filter is_plain (flat_map (λ (e : Key × RecordSet). records_of (shown_owner v e.0.0) e.0.1 v.class e.1) sets)

-- old SOA, what goes, new SOA, what comes (RFC 1995, 4)
abbrev pub difference_text : Version → Difference → List Record
difference_text v d = side_soas v d.removed ++ side_records v d.removed ++ side_soas v d.added ++ side_records v d.added

-- whether a record is the apex SOA
abbrev pub is_apex_soa : Version → Record → Bool
is_apex_soa v r = is_soa r && same_name r.owner v.apex

-- the whole text: the SOA, the walk without it, the SOA (RFC 5936, 2.2)
abbrev pub whole_text : Version → List Record
whole_text v = apex_soa_record v ++ filter (λ r. not (is_apex_soa v r)) (records_of_version v) ++ apex_soa_record v

-- the text of changes (RFC 1995, 4)
abbrev pub changes_text : Version → List Difference → List Record
changes_text v ds = apex_soa_record v ++ flat_map (difference_text v) ds ++ apex_soa_record v

-- the text in answer to a question of a mode for what is newer than a serial (RFC 1995, 2 and 4)
abbrev pub changes_or_whole : Version → List Difference → List Record
changes_or_whole v [] = whole_text v
changes_or_whole v (d ∷ more) = if list_all (is_sendable v) (d ∷ more) then changes_text v (d ∷ more) else whole_text v

abbrev pub text_of : Offer → Mode → ℕ → List Record
text_of offer Axfr asked = whole_text offer.version
text_of offer Ixfr asked = if serial_upto (zone_serial offer.version) asked then apex_soa_record offer.version else changes_or_whole offer.version offer.differences

-- a text cut into messages with room for so many octets of records: each is filled before the next begins
abbrev pub room_of : List Record → ℕ
room_of rs = sum_by (λ r. length (record_wire r)) rs

abbrev pub is_filled : ℕ → List Record → List (List Record) → Bool
is_filled room page [] = true
is_filled room page ([] ∷ more) = false
is_filled room page ((r ∷ rest) ∷ more) = not (nat_le (room_of page + length (record_wire r)) room)

abbrev pub are_pages : ℕ → List (List Record) → Bool
are_pages room [] = true
are_pages room (page ∷ more) = not (length page == 0) && nat_le (room_of page) room && is_filled room page more && are_pages room more

abbrev pub are_single : ℕ → List (List Record) → Bool
are_single room pages = list_all (λ page. (length page == 1) && nat_le (room_of page) room) pages

pub record IsCutInto (room : ℕ) (singles : Bool) (text : List Record) (pages : List (List Record)) : Type 0 where
  pub joined : flat_map (λ page. page) pages ≡ text
  pub filled : IsTrue (if singles then are_single room pages else are_pages room pages)

-- a provider that keeps a history: the kept version, the differences that lead to it, who may ask, and the mode of its messages
pub record Provider : Type 0 where
  pub kept : Version
  pub differences : List Difference
  pub grants : List (Name × ℕ)
  pub compatibility : Bool

-- whether a key, as its name and algorithm, is granted; without a key nothing is
abbrev pub is_granted : List (Name × ℕ) → Option (Name × ℕ) → Bool
is_granted grants None = false
is_granted grants (Some k) = list_any (λ (g : Name × ℕ). same_name g.0 k.0 && (g.1 == k.1)) grants

-- what it answers to a question for a name and class, with a serial
abbrev pub offered : Provider → Name → ℕ → Option (Name × ℕ) → ℕ → Result Offer Denial
offered p name class key asked =
    if not (same_name name p.kept.apex && (class == p.kept.class)) then Err UnknownZone
    else if not (is_granted p.grants key) then Err NotGranted
    else Ok (offer_of p.kept p.differences p.compatibility asked)

-- after a push of a version, with its difference from the kept one or without
abbrev pub after_push : Provider → Version → Option Difference → Provider
after_push p v d = record p { kept = v; differences = pushed p.differences d }

-- a difference that is pushed leads from the kept version to the new one
abbrev pub MayPush : Version → Version → Option Difference → Type 0
MayPush kept v None = Unit {0}
MayPush kept v (Some d) = (d ≡ difference kept v) × IsTrue (diffable kept v)

-- the base is where the offer begins: the offered version itself, or the first of its history
abbrev pub first_is : Version → List Version → Bool
first_is v [] = true
first_is v (w ∷ []) = true
first_is v (w ∷ x ∷ more) = same_version v w
