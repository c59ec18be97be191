-- A version with its apex in another case.
use Rattle.std.proofs.Common.{◌≡◌, ℕ, ◌==◌, Bool, true, ◌&&◌, ◌||◌, not, nat_le, length, sym, subst, ◌∙◌, bytes_eq, is_some}
use Rattle.std.specs.Cmp.Lexicographic.{pointwise}
use Rattle.std.specs.List.{list_all, ends_with}
use Rattle.dns_name.specs.Names.{Name, fold, same_name, under}
use Rattle.dns_numbers.specs.Codes.{type_cname, type_ds, type_ns}
use Rattle.zone_model.specs.Version.{RecordSet, Key, Sets, Version, IsValid, set_in, all_differ}
use Rattle.zone_model.proofs.Folded.{same_name-Decides}
use Rattle.zone_reads.proofs.NodeNames.{under_itself}

-- what is kept at an entry, by the apex in lower case
abbrev kept_with : Name → Sets → Key × RecordSet → Bool
kept_with apex sets e =
    let owner = e.0.0 in
    let zone : Bool = ends_with bytes_eq (fold owner) apex in
    let below : Bool = zone && not (pointwise bytes_eq (fold owner) apex) in
    zone && pointwise bytes_eq owner (fold owner) && nat_le 1 (length e.1.items) && all_differ e.1.items
    && (not (below && (e.0.1 == type_cname)) || (length e.1.items == 1))
    && (not (below && (e.0.1 == type_ds)) || is_some (set_in sets (fold owner, type_ns)))

pub valid_alike : (v : Version) (apex : Name) (class : ℕ) → same_name apex v.apex ≡ true → IsValid v → IsValid (record { apex = apex; class = class; sets = v.sets })
valid_alike v apex class h valid =
    let alike : fold apex ≡ fold v.apex = (same_name-Decides apex v.apex).0 h in
    record { ordered = valid.ordered; kept = (λ i. list_all (kept_with (alike i) v.sets) v.sets) ∙ valid.kept }

pub valid_again : (w u v : Version) (apex : Name) (class : ℕ) → w ≡ record { apex = apex; class = class; sets = u.sets } → u ≡ v → same_name apex v.apex ≡ true → IsValid v → IsValid w
valid_again w u v apex class e is h valid =
    subst (λ (x : Version). IsValid x) (sym e) (subst (λ (x : Version). IsValid (record { apex = apex; class = class; sets = x.sets })) (sym is) (valid_alike v apex class h valid))

-- the apex is in its zone
pub apex_inside : (n a : Name) (v w : Version) → n ≡ a → a ≡ w.apex → v ≡ w → under n v.apex ≡ true
apex_inside n a v w e f g = (λ i. under (e i) ((g i).apex)) ∙ (λ i. under (f i) w.apex) ∙ under_itself w.apex
