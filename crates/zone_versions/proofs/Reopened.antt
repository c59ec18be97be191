-- A sound version with its apex in another case.
use Rattle.std.proofs.Common.{◌≡◌, ℕ, ◌==◌, Bool, true, ◌&&◌, ◌||◌, not, nat_le, length, ◌∙◌, bytes_eq}
use Rattle.std.specs.Cmp.Lexicographic.{pointwise}
use Rattle.std.specs.List.{list_all, ends_with}
use Rattle.dns_name.specs.Names.{Name, fold, same_name}
use Rattle.dns_numbers.specs.Codes.{type_cname}
use Rattle.zone_model.specs.Version.{RecordSet, Key, Version, all_differ}
use Rattle.zone_model.proofs.Folded.{same_name-Decides}
use Rattle.zone_versions.specs.Sound.{IsSound}

-- what is kept at an entry, by the apex in lower case
abbrev sound_with : Name → Key × RecordSet → Bool
sound_with apex e =
    let owner = e.0.0 in
    let zone : Bool = ends_with bytes_eq (fold owner) apex in
    let below : Bool = zone && not (pointwise bytes_eq (fold owner) apex) in
    zone && pointwise bytes_eq owner (fold owner) && nat_le 1 (length e.1.items) && all_differ e.1.items
    && (not (below && (e.0.1 == type_cname)) || (length e.1.items == 1))

pub reopened_sound : (apex : Name) (class : ℕ) (v : Version) → same_name apex v.apex ≡ true → IsSound v → IsSound (record { apex = apex; class = class; sets = v.sets })
reopened_sound apex class v h sound =
    let alike : fold apex ≡ fold v.apex = (same_name-Decides apex v.apex).0 h in
    record { ordered = sound.ordered; kept = (λ i. list_all (sound_with (alike i)) v.sets) ∙ sound.kept }
