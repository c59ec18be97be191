-- Laws of what a primary sends: its texts spell the versions that they were made of (RFC 5936, 3; RFC 1995, 4).
use Rattle.std.specs.Prelude.{◌≡◌, true, not, ◌==◌, List, [], ◌∷◌, ◌++◌, nat_le, length, flat_map, Some, None, IsTrue, Result, Ok}
use Rattle.std.specs.List.{AllByRecursion, last_or}
use Rattle.std.specs.Cmp.Lexicographic.{pointwise}
use Rattle.dns_name.specs.Names.{Name, same_name}
use Rattle.dns_name.specs.Records.{Record}
use Rattle.dns_numbers.specs.Codes.{type_soa}
use Rattle.zone_model.specs.Version.{Sets, Version, IsValid, Same, same_version, set_at, has_one_soa}
use Rattle.zone_model.specs.Edits.{Refusal, with_sets, close}
use Rattle.zone_model.specs.Difference.{Difference, difference, apply_difference}
use Rattle.zone_model.specs.TransferText.{Mode, Ixfr, Batch, batch_records, Whole, Changes, read_text, is_text, OnIxfr}
use Rattle.zone_model.specs.Offer.{Offer, IsHistory, side_records, whole_text, changes_text, changes_or_whole}
use Rattle.zone_model.specs.Spells.{Spelling, no_versions, version_then, apply_batch, spelling}

-- a whole text with nothing after it: an SOA, other records, and the same SOA
pub record IsWhole (mode : Mode) (records : List Record) : Type 0 where
  pub soa : Record
  pub middle : List Record
  pub joined : records ≡ soa ∷ middle ++ soa ∷ []
  pub reads : read_text mode soa (middle ++ soa ∷ []) ≡ Whole soa middle (Some (record { last = soa; rest = [] }))
  pub text : is_text mode (Whole soa middle (Some (record { last = soa; rest = [] }))) ≡ true

-- a record stands between the two SOA records, without which an incremental question isn't answered so (RFC 1995, 4)
abbrev pub HasMiddle : Version → Type 0
HasMiddle v = IsTrue (not (length (whole_text v) == 2))

-- one does where the version has a set besides its SOA
abbrev pub SetsMakeMiddle : Type 0
SetsMakeMiddle = (v : Version) → IsValid v → IsTrue (has_one_soa v) → IsTrue (nat_le 2 (length v.sets)) → HasMiddle v

-- the law of whole texts: that of a valid version with one SOA record is a whole text, with an end and no rest
abbrev pub WholeIsText : Type 0
WholeIsText = (mode : Mode) (v : Version) → IsValid v → IsTrue (has_one_soa v) → OnIxfr mode (HasMiddle v) → IsWhole mode (whole_text v)

-- .. and on any base whose apex is the same name it spells one version, with the very sets that it was made of
abbrev pub WholeSpells : Type 0
WholeSpells = (mode : Mode) (v base : Version) → IsValid v → IsTrue (has_one_soa v) → IsTrue (same_name base.apex v.apex) → OnIxfr mode (HasMiddle v)
    → (spelling mode (whole_text v) base ≡ version_then (with_sets base v.sets) no_versions) × Same (with_sets base v.sets) v

-- edits of a base that make a version which is the same as w; closing it changes nothing
pub record LeadsTo (result : Result Version Refusal) (base w : Version) : Type 0 where
  pub sets : Sets
  pub makes : result ≡ Ok (with_sets base sets)
  pub same : Same (with_sets base sets) w
  pub closed : close (with_sets base sets) ≡ with_sets base sets

-- the law of differences: from each version that is the same as v, the difference from v to w leads to w; no premise on SOA records
abbrev pub DifferenceApplies : Type 0
DifferenceApplies = (v w base : Version) → IsValid v → IsValid w → IsTrue (same_name v.apex w.apex) → IsTrue (same_name base.apex v.apex) → Same base v → LeadsTo (apply_difference base (difference v w)) base w

-- a difference as the batch of a text that shows the apex as u does: its records but SOA, between an old and a new SOA
abbrev pub batch_of : Version → Difference → Record → Record → Batch
batch_of u d old new = record { old = old; deletes = side_records u d.removed; new = Some new; adds = side_records u d.added }

-- whether a record's TTL and data are those of the one SOA record of a version
abbrev pub IsSoaOf : Version → Record → Type 0
IsSoaOf w r = set_at w w.apex type_soa ≡ Some (record { ttl = r.ttl; items = r.fields ∷ [] })

-- .. and so it does as a transfer applies it: deletes, the SOA in place of the old one, adds
abbrev pub DifferenceLeads : Type 0
DifferenceLeads = (u v w base : Version) (old new : Record) → IsValid v → IsValid w → IsTrue (has_one_soa v) → IsTrue (has_one_soa w) → IsTrue (same_name v.apex w.apex) → IsTrue (same_name base.apex v.apex) → Same base v
    → IsSoaOf w new → LeadsTo (apply_batch base (batch_of u (difference v w) old new)) base w

-- a version of a zone that may stand in a history whose texts are sent: valid, with one SOA record, and of this apex
pub record IsPublished (apex : Name) (v : Version) : Type 0 where
  pub valid : IsValid v
  pub one_soa : IsTrue (has_one_soa v)
  pub same_apex : IsTrue (same_name v.apex apex)

-- what a text spells: versions that are the same as these, and no fault
pub record SpellsAll (spelt : Spelling) (history : List Version) : Type 0 where
  pub same : IsTrue (pointwise same_version spelt.versions history)
  pub whole : spelt.fault ≡ None

-- the law of changes: on a base that is the same as a history's first version, the text of its changes spells the history
abbrev pub ChangesSpell : Type 0
ChangesSpell = (offer : Offer) (v : Version) (more : List Version) (base : Version) → IsHistory offer (v ∷ more) → AllByRecursion (IsPublished base.apex) (v ∷ more) → Same base v
    → SpellsAll (spelling Ixfr (changes_text offer.version offer.differences) base) (v ∷ more)

-- a text of changes with nothing after it
pub record IsChanges (records : List Record) : Type 0 where
  pub soa : Record
  pub batches : List Batch
  pub joined : records ≡ soa ∷ flat_map batch_records batches ++ soa ∷ []
  pub reads : read_text Ixfr soa (flat_map batch_records batches ++ soa ∷ []) ≡ Changes soa batches (Some (record { last = soa; rest = [] }))
  pub text : is_text Ixfr (Changes soa batches (Some (record { last = soa; rest = [] }))) ≡ true

-- .. which is a text of the grammar, and is sent wherever there is a difference to tell
abbrev pub ChangesIsText : Type 0
ChangesIsText = (offer : Offer) (apex : Name) (v w : Version) (more : List Version) → IsHistory offer (v ∷ w ∷ more) → AllByRecursion (IsPublished apex) (v ∷ w ∷ more)
    → IsChanges (changes_text offer.version offer.differences) × (changes_or_whole offer.version offer.differences ≡ changes_text offer.version offer.differences)

-- what is spelt on a base leaves a version that is the same as w, the base itself where nothing is spelt
pub record EndsIn (spelt : Spelling) (base w : Version) : Type 0 where
  pub last : Version
  pub stands : last_or (Some base) spelt.versions ≡ Some last
  pub same : Same last w
  pub whole : spelt.fault ≡ None
