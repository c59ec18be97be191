-- Sets that a look-up gives, with their type and without it.
use Rattle.std.proofs.Common.{◌≡◌, ℕ, refl, Option, Some, None, option_map, is_some}
use Rattle.zone_model.specs.Version.{RecordSet}
use Rattle.zone_values.specs.TypedEntries.{typed, untyped}

pub untyped_typed : (rtype : ℕ) (o : Option RecordSet) → untyped (option_map (typed rtype) o) ≡ o
untyped_typed rtype None = refl
untyped_typed rtype (Some s) = refl

pub is_some_typed : (rtype : ℕ) (o : Option RecordSet) → is_some (option_map (typed rtype) o) ≡ is_some o
is_some_typed rtype None = refl
is_some_typed rtype (Some s) = refl
