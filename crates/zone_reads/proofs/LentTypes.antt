-- Lent sets with their type and without it.
use Rattle.std.proofs.Common.{◌≡◌, ℕ, ap, ◌∙◌, true≢false, Option, Some, None, option_map, is_some, IfSome}
use denote.Ref.{Bor}
use Rattle.std.specs.Option.{option_copied}
use Rattle.zone_model.specs.Version.{RecordSet}
use Rattle.zone_values.specs.TypedSets.{TypedSet}
use Rattle.zone_versions.proofs.TypedStops.{untyped_typed}
use Rattle.zone_values.specs.TypedEntries.{typed, untyped}

-- what a look-up lends
pub lent_set : (rtype : ℕ) (r : Option (Bor TypedSet)) (o : Option RecordSet) → option_copied r ≡ option_map (typed rtype) o → untyped (option_copied r) ≡ o
lent_set rtype r o e = ap untyped e ∙ untyped_typed rtype o

pub lent_type : (rtype : ℕ) (r : Option (Bor TypedSet)) (o : Option RecordSet) → option_copied r ≡ option_map (typed rtype) o → IfSome r (λ s. s.now.rtype ≡ rtype)
lent_type rtype None o e = tt
lent_type rtype (Some s) o e = by o e
  where
    by : (p : Option RecordSet) → Some s.now ≡ option_map (typed rtype) p → s.now.rtype ≡ rtype
    by None g = absurd (true≢false (ap is_some g))
    by (Some t) g = ap (λ (x : Option TypedSet). elim x as (λ y. ℕ) [ Some y ↦ y.rtype | None ↦ s.now.rtype ]) g
