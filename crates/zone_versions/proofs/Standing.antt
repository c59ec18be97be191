-- Names that no set stands at.
use Rattle.std.proofs.Common.{◌≡◌, ℕ, Bool, true, false, cond, ◌∷◌, [], refl, sym, ap, ◌∙◌, true≢false, is_eq}
use Rattle.std.specs.List.{list_all}
use Rattle.std.specs.Map.{remove_entry}
use Rattle.std.specs.Cmp.{first_so, second_so, Equal-is}
use Rattle.dns_name.specs.Names.{Name, fold, under}
use Rattle.zone_model.specs.Version.{Key, Sets, Version, key_cmp, has_key}
use Rattle.zone_model.specs.Edits.{with_sets, remove_set}
use Rattle.zone_model.proofs.Folded.{key_from_tie, fold-fold, under_alike}
use Rattle.zone_versions.specs.Sound.{is_sound_at, IsSound}
use Rattle.zone_versions.proofs.Sound.{taken_apart}

nothing_at : (v : Version) (k : Key) (es : Sets) → under k.0 v.apex ≡ false → list_all (is_sound_at v) es ≡ true → remove_entry (has_key k) es ≡ es
nothing_at v k [] u h = refl
nothing_at v k (e ∷ es) u h = by (is_eq (key_cmp k e.0)) refl (nothing_at v k es u (second_so (is_sound_at v e) _ h))
  where
    by : (b : Bool) → is_eq (key_cmp k e.0) ≡ b → remove_entry (has_key k) es ≡ es → cond b es (e ∷ remove_entry (has_key k) es) ≡ e ∷ es
    by true q later =
        let tied = key_from_tie k e.0 ((Equal-is (key_cmp k e.0)).0 q) in
        absurd (true≢false (sym (taken_apart v e (first_so (is_sound_at v e) _ h)).zone ∙ under_alike e.0.0 k.0 v.apex v.apex (sym tied.0) refl ∙ u))
    by false q later = ap (λ l. e ∷ l) later

pub none_outside : (v : Version) (owner : Name) (rtype : ℕ) → IsSound v → under owner v.apex ≡ false → v ≡ remove_set v owner rtype
none_outside v owner rtype h u = sym (ap (with_sets v) (nothing_at v (fold owner, rtype) v.sets (under_alike (fold owner) owner v.apex v.apex (fold-fold owner) refl ∙ u) h.kept))
