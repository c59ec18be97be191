-- Data taken out where no set stands.
use Rattle.std.proofs.Common.{◌≡◌, ℕ, ◌<◌, ◌^◌, Bool, true, false, cond, arith, refl, sym, ap, ◌∙◌, true≢false, List, [], ◌∷◌, Option, Some, None, option_map, is_some}
use Rattle.std.specs.Option.{option_map_or}
use Rattle.std.specs.Map.{lookup, remove_entry}
use Rattle.dns_name.specs.Names.{Name, fold}
use Rattle.dns_rdata.specs.Records.{Field}
use Rattle.zone_model.specs.Version.{RecordSet, Key, Sets, Version, has_key, set_at, data_at}
use Rattle.zone_model.specs.Edits.{with_sets, put_set}
use Rattle.zone_values.specs.TypedSets.{TypedSet}
use Rattle.zone_values.specs.TypedEntries.{typed, untyped}
use Rattle.zone_versions.specs.Held.{counted}
use Rattle.zone_versions.specs.Trees.{built}
use Rattle.zone_versions.proofs.Counted.{built_nothing}

untyped_typed : (t : ℕ) (o : Option RecordSet) → untyped (option_map (typed t) o) ≡ o
untyped_typed t None = refl
untyped_typed t (Some s) = refl

remove_absent : (test : Key → Bool) (es : Sets) → lookup test es ≡ None → remove_entry test es ≡ es
remove_absent test [] h = refl
remove_absent test (e ∷ es) h = by (test e.0) h (λ g. remove_absent test es g)
  where
    by : (b : Bool) → cond b (Some e.1) (lookup test es) ≡ None → (lookup test es ≡ None → remove_entry test es ≡ es) → cond b es (e ∷ remove_entry test es) ≡ e ∷ es
    by true g later = absurd (true≢false (ap is_some g))
    by false g later = ap (λ l. e ∷ l) (later g)

module _ (v : Version) (n : Name) (t u : ℕ) (e : t ≡ u) (none : ◌≡◌ {A = Option TypedSet} None (option_map (typed t) (set_at v n t))) where
  absent : set_at v n u ≡ None
  absent = sym (ap untyped none ∙ untyped_typed t (set_at v n t) ∙ ap (set_at v n) e)

  -- the version is as it was
  pub nothing_left : (thin : List (List Field) → List (List Field)) (ttl : ℕ) → thin [] ≡ [] → v ≡ put_set v n u (record { ttl = ttl; items = thin (data_at v n u) })
  nothing_left thin ttl h =
      sym (ap (with_sets v) (remove_absent (has_key (fold n, u)) v.sets absent))
      ∙ (λ i. put_set v n u (record { ttl = ttl; items = sym (ap (λ o. thin (option_map_or (λ (s : RecordSet). s.items) o [])) absent ∙ h) i }))

  -- .. and no node is built
  pub nothing_counted : (count : ℕ) → count < 2 ^ 64 → count ≡ counted count (built v v n u)
  nothing_counted count h = grind (arith, h) ∙ ap (counted count) (sym (built_nothing v n u absent))
