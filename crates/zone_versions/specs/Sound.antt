-- What a version keeps while it is edited: all that a published one keeps, but NS beside DS (RFC 2181, 5 and 10.1).
use Rattle.std.specs.Prelude.{Bool, ◌&&◌, ◌||◌, not, ◌==◌, nat_le, length, IsTrue, bytes_eq}
use Rattle.std.specs.List.{list_all}
use Rattle.std.specs.Cmp.Lexicographic.{pointwise}
use Rattle.std.specs.Map.{keys_of}
use Rattle.std.specs.List.Sorted.{IsStrictlySortedBy}
use Rattle.dns_name.specs.Names.{fold}
use Rattle.dns_numbers.specs.Codes.{type_cname}
use Rattle.zone_model.specs.Version.{RecordSet, Key, Version, key_cmp, in_zone, below_apex, all_differ}

-- at one entry
abbrev pub is_sound_at : Version → Key × RecordSet → Bool
is_sound_at v e =
    let owner = e.0.0 in
    in_zone v owner && pointwise bytes_eq owner (fold owner) && nat_le 1 (length e.1.items) && all_differ e.1.items
    && (not (below_apex v owner && (e.0.1 == type_cname)) || (length e.1.items == 1))

pub record IsSound (v : Version) : Type 0 where
  pub ordered : IsStrictlySortedBy key_cmp (keys_of v.sets)
  pub kept : IsTrue (list_all (is_sound_at v) v.sets)
