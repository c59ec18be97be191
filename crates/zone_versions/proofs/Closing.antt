-- A version that a commit leaves as it is.
use Rattle.std.proofs.Common.{◌≡◌, Bool, true, false, cond, ◌||◌, not, List, [], ◌∷◌, refl, sym, ap, ◌∙◌, true≢false}
use Rattle.std.specs.List.{list_any, filter}
use Rattle.zone_model.specs.Version.{RecordSet, Key, Version}
use Rattle.std.specs.Map.{keys_of}
use Rattle.zone_versions.specs.Strays.{is_stray_at}
use Rattle.zone_values.proofs.Equality.{list_any_map}
use Rattle.zone_model.specs.Edits.{is_stray, close, with_sets}

first_of_or : (a b : Bool) → (a || b) ≡ false → (a ≡ false) × (b ≡ false)
first_of_or true b h = absurd (true≢false h)
first_of_or false b h = (refl, h)

-- what no test finds, nothing leaves
pub filter_none : {X : Type 0} (p : X → Bool) (xs : List X) → list_any p xs ≡ false → filter (λ x. not (p x)) xs ≡ xs
filter_none p [] h = refl
filter_none p (x ∷ xs) h =
    let both = first_of_or (p x) (list_any p xs) h in
    ap (λ b. cond (not b) (x ∷ filter (λ y. not (p y)) xs) (filter (λ y. not (p y)) xs)) both.0 ∙ ap (λ l. x ∷ l) (filter_none p xs both.1)

-- without stray sets, a version is closed
pub closed_is : (v : Version) → list_any (is_stray_at v) (keys_of v.sets) ≡ false → v ≡ close v
closed_is v h = sym (ap (with_sets v) (filter_none (is_stray v) v.sets (sym (list_any_map (is_stray_at v) (λ (e : Key × RecordSet). e.0) v.sets) ∙ h)))
