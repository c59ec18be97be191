-- What is told of data that are put, or not put.
use Rattle.std.proofs.Common.{◌≡◌, Bool, true, false, List, [], ◌∷◌, ◌++◌, All, refl, sym, subst, Result, Ok, Err}
use Rattle.std.proofs.lemmas.List.Elements.{All-push}

-- what holds of all data holds of them after one was put or not
pub pushed_or_not : {X E : Type 0} (P : X → Type 0) (old new : List X) (x : X) (b : Bool) → (◌≡◌ {A = Result Bool E} (Ok b) (Ok true) → new ≡ old ++ x ∷ []) → (◌≡◌ {A = Result Bool E} (Ok b) (Ok false) → new ≡ old) → All P old → P x
    → All P new
pushed_or_not P old new x true put same h p = subst (All P) (sym (put refl)) (All-push P old x h p)
pushed_or_not P old new x false put same h p = subst (All P) (sym (same refl)) h
