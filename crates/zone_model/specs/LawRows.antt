-- Versions that show what the laws of a transfer's texts need.
use Rattle.std.specs.Prelude.{ℕ, Bool, true, ◌&&◌, List, [], ◌∷◌, codes, IsTrue}
use Rattle.std.specs.List.{list_all}
use Rattle.std.specs.Ordering.{is_lt}
use Rattle.dns_name.specs.Names.{Name, same_name}
use Rattle.dns_name.specs.Records.{Field}
use Rattle.dns_numbers.specs.Codes.{type_soa}
use Rattle.zone_model.specs.Version.{Sets, Version, key_cmp, is_kept, has_one_soa}
use Rattle.zone_model.specs.Edits.{add_all}
use Rattle.zone_model.specs.TransferLaws.{IsPublished}
use Rattle.zone_model.specs.ZoneRows as rows

-- an SOA below the apex with the data of the apex's
abbrev pub soa_below : Version
soa_below = rows.zone (rows.soa 1 ∷ rows.rr rows.sub type_soa (rows.soa 1).fields ∷ rows.address rows.t 1 ∷ [])

-- two SOA records at the apex
abbrev pub two_soas : Version
two_soas = rows.zone (rows.soa 1 ∷ rows.soa 2 ∷ rows.address rows.t 1 ∷ [])

-- a DS without NS: a version that no commit publishes
abbrev pub stray_signer : Version
stray_signer = rows.zone (rows.soa 1 ∷ rows.ds rows.sub ∷ [])

-- the same sets under another spelling of the apex, in another class, with something to lose
abbrev pub loud : Version
loud = record { apex = codes "EXAMPLE" ∷ []; class = 3; sets = rows.history_1.sets }

-- a version of another zone
abbrev pub moved : Version
moved = rows.zone_or (add_all (record { apex = rows.www; class = 1; sets = [] }) (rows.rr rows.www type_soa (rows.soa 2).fields ∷ []))

-- the apex SOA set and one more, as they are given
abbrev pub beside_soa : Name → ℕ → List (List Field) → Version
beside_soa owner rtype items = record { apex = rows.e; class = 1; sets = ((rows.e, type_soa), record { ttl = 3600; items = (rows.soa 1).fields ∷ [] }) ∷ ((owner, rtype), record { ttl = 3600; items = items }) ∷ [] }

-- whether each key is below the next: the test of an order, which computes on examples
abbrev pub in_order : Sets → Bool
in_order [] = true
in_order (e ∷ []) = true
in_order (e ∷ f ∷ es) = is_lt (key_cmp e.0 f.0) && in_order (f ∷ es)

abbrev pub is_published : Name → Version → Bool
is_published apex v = in_order v.sets && list_all (is_kept v) v.sets && has_one_soa v && same_name v.apex apex

-- a version that passes the test may be published
abbrev pub PublishedByTest : Type 0
PublishedByTest = (apex : Name) (v : Version) → IsTrue (is_published apex v) → IsPublished apex v
