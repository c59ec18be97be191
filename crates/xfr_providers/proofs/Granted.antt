-- What holds of a grant holds of it as it is seen, and what is granted is offered.
use Rattle.std.proofs.Common.{◌≡◌, Bool, List, [], ◌∷◌, map, ◌||◌, refl, ap}
use Rattle.std.specs.List.{list_any}
use Rattle.xfr_providers.specs.Offers.{HistoryGrants}

pub any_map : {X Y : Type 0} (f : X → Y) (test : Y → Bool) (xs : List X) → list_any test (map f xs) ≡ list_any (λ x. test (f x)) xs
any_map f test [] = refl
any_map f test (x ∷ xs) = ap (λ b. test (f x) || b) (any_map f test xs)

pub history_grants : HistoryGrants
history_grants p q key asked here granted = rw (here, granted) refl
