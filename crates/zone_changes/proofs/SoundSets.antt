-- The sets of a version that is sound.
use Rattle.std.proofs.Common.{◌≡◌, Bool, true, cond, ◌&&◌, ◌||◌, ◌==◌, not, nat_le, List, [], ◌∷◌, length, filter, refl, sym, ap, ◌∙◌, subst}
use Rattle.std.specs.List.{AllByRecursion, list_all}
use Rattle.std.specs.Cmp.{first_so, second_so}
use Rattle.std.specs.Cmp.Lexicographic.{pointwise_decides, bytes_decides}
use Rattle.std.specs.Map.{keys_of}
use Rattle.dns_name.specs.Names.{fold, under}
use Rattle.dns_numbers.specs.Codes.{type_cname}
use Rattle.zone_model.specs.Version.{RecordSet, Key, Sets, Version, in_zone, below_apex, all_differ}
use Rattle.zone_model.proofs.Folded.{IsFolded}
use Rattle.zone_model.proofs.Steps.{Good}
use Rattle.zone_versions.specs.Sound.{IsSound, is_sound_at}
use Rattle.zone_changes.specs.Touched.{noted_all, keys_below, Covers}
use Rattle.zone_changes.proofs.Covering.{covers_itself, covers_noted_all, covers_clear}

-- an entry's owner is in the zone, and folded
pub zoned_folded : (v : Version) (e : Key × RecordSet) → is_sound_at v e ≡ true → (under e.0.0 v.apex ≡ true) × IsFolded e.0
zoned_folded v e h =
    let alias : Bool = not (below_apex v e.0.0 && (e.0.1 == type_cname)) || (length e.1.items == 1) in
    let two = first_so _ (nat_le 1 (length e.1.items)) (first_so _ (all_differ e.1.items) (first_so _ alias h)) in
    (first_so (in_zone v e.0.0) _ two, sym ((pointwise_decides bytes_decides e.0.0 (fold e.0.0)).0 (second_so (in_zone v e.0.0) _ two)))

all_folded : (v : Version) (es : Sets) → list_all (is_sound_at v) es ≡ true → AllByRecursion IsFolded (keys_of es)
all_folded v [] h = tt
all_folded v (e ∷ es) h = ((zoned_folded v e (first_so (is_sound_at v e) _ h)).1, all_folded v es (second_so (is_sound_at v e) _ h))

pub sound_good : (v : Version) → IsSound v → Good v.sets
sound_good v h = record { sorted = h.ordered; folded = all_folded v v.sets h.kept }

-- nothing stands outside the zone
none_left : (v : Version) (es : Sets) → list_all (is_sound_at v) es ≡ true → filter (λ (e : Key × RecordSet). not (under e.0.0 v.apex)) es ≡ []
none_left v [] h = refl
none_left v (e ∷ es) h =
    let rest : Sets = filter (λ (x : Key × RecordSet). not (under x.0.0 v.apex)) es in
    ap (λ b. cond (not b) (e ∷ rest) rest) (zoned_folded v e (first_so (is_sound_at v e) _ h)).0 ∙ none_left v es (second_so (is_sound_at v e) _ h)

-- every set removed
pub covers_emptied : (keys : List Key) (a : Sets) (v : Version) → IsSound v → Covers keys a v.sets → Covers (noted_all keys (keys_below v v.apex)) a []
covers_emptied keys a v s h = subst (λ (es : Sets). Covers (noted_all keys (keys_below v v.apex)) a es) (none_left v v.sets s.kept) (covers_clear keys a v v.apex h)

-- the keys of two versions are all at which they may differ
pub covers_all_keys : (v w : Version) → IsSound v → IsSound w → Covers (noted_all (noted_all [] (keys_below v v.apex)) (keys_below w w.apex)) v.sets w.sets
covers_all_keys v w s t =
    let ones : List Key = noted_all [] (keys_below v v.apex) in
    let all : List Key = noted_all ones (keys_below w w.apex) in
    let old : Covers all v.sets [] = covers_noted_all ones (keys_below w w.apex) v.sets [] (covers_emptied [] v.sets v s (covers_itself [] v.sets)) in
    let new : Covers all w.sets [] = covers_emptied ones w.sets w t (covers_itself ones w.sets) in
    record { same = λ k n. old.same k n ∙ sym (new.same k n) }
