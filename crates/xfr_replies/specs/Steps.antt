-- What the steps from place to place find.
use Rattle.std.specs.Prelude.{◌≡◌, ◌++◌, ◌<◌, Bool, false, ◌&&◌, ◌==◌, if◌then◌else◌, List, [], ◌∷◌, length, Option, Some, None}
use Rattle.dns_name.specs.Names.{fold, same_name}
use Rattle.dns_numbers.specs.Codes.{type_soa}
use Rattle.dns_name.specs.Records.{Record}
use Rattle.zone_model.specs.Version.{RecordSet, Key, Sets, Version, set_at, set_in}
use Rattle.zone_model.specs.Answer.{apex_soa_record}
use Rattle.zone_model.specs.Walk.{Stop, shown_owner}
use Rattle.zone_model.specs.Difference.{Difference}
use Rattle.zone_model.specs.Offer.{side_records}
use Rattle.xfr_replies.specs.Sides.{behind, middle_of}
use Rattle.xfr_replies.specs.Places.{Begins}
use Rattle.xfr_replies.specs.declared.place.Part.{Part}
use Rattle.xfr_replies.specs.declared.place.Place.{Place}

-- the place of the apex SOA record in a part, where there is such a record
abbrev pub soa_place : Version → Part → Option Place
soa_place v part = if length (apex_soa_record v) == 0 then None else Some (record { part = part; owner = v.apex; rtype = type_soa; index = 0; set = None })

-- whether a stop is the apex SOA
abbrev pub is_soa_stop : Version → Stop → Bool
is_soa_stop v s = (s.rtype == type_soa) && same_name s.owner v.apex

-- the key is that of the first of the rest of some sets, which has data; without a key nothing is left
abbrev pub Heads : Sets → Sets → Option Key → Type 0
Heads sets rest None = rest ≡ []
Heads sets rest (Some k) = (s : RecordSet) × (rest ≡ (k, s) ∷ behind k sets) × (set_in sets k ≡ Some s) × (0 < length s.items)

-- the same of a stop of a version, which has that set
abbrev pub HeadsAt : Version → Sets → Option Stop → Type 0
HeadsAt v rest None = rest ≡ []
HeadsAt v rest (Some s) = Heads v.sets rest (Some (fold s.owner, s.rtype)) × (shown_owner v (fold s.owner) ≡ s.owner) × (set_at v s.owner s.rtype ≡ Some s.contents)

-- the first set of the rest that isn't of SOA records, where there is one
abbrev pub IsPlainKey : Option Key → Type 0
IsPlainKey None = Unit {0}
IsPlainKey (Some k) = (k.1 == type_soa) ≡ false

pub record SkipsSoas (sets rest : Sets) (found : Option Key) : Type 0 where
  pub left : Sets
  pub heads : Heads sets left found
  pub plain : IsPlainKey found
  pub same : (v : Version) → side_records v left ≡ side_records v rest

-- the first stop of the rest that isn't the apex SOA's
abbrev pub IsOther : Version → Option Stop → Type 0
IsOther v None = Unit {0}
IsOther v (Some s) = is_soa_stop v s ≡ false

pub record SkipsApexSoa (v : Version) (rest : Sets) (found : Option Stop) : Type 0 where
  pub left : Sets
  pub heads : HeadsAt v left found
  pub other : IsOther v found
  pub same : middle_of v left ≡ middle_of v rest

-- a place is found where there is a record of this text, which the rest stands behind
abbrev pub FindsFrom : Version → List Difference → List Record → List Record → Option Place → Type 0
FindsFrom v ds text rest None = text ≡ []
FindsFrom v ds text rest (Some p) = Begins v ds (text ++ rest) (Some p)
