-- What is said of an edit beforehand is what is made of it.
use Rattle.std.proofs.Common.{◌≡◌, Bool, true, false, if◌then◌else◌, refl, sym, ap, true≢false, Option, Some, None, Result, Ok, Err, IsOk, IsErr, is_ok, is_err}
use Rattle.std.specs.Prelude.{IsSomeAnd}
use Rattle.zone_model.specs.Version.{Version}
use Rattle.zone_model.specs.Edits.{Refusal}

pub refused_is_err : (o : Option Refusal) (r : Result Version Refusal) → IsSomeAnd o (λ why. r ≡ Err why) → IsErr r
refused_is_err None r h = absurd h
refused_is_err (Some why) r h = ap is_err h

pub taken_is_ok : (r : Result Version Refusal) (v : Version) → r ≡ Ok v → IsOk r
taken_is_ok r v h = ap is_ok h

-- .. where one test refuses it
pub bad_is_err : (bad : Bool) (why : Refusal) (v : Version) → bad ≡ true → IsErr (if bad then Err why else Ok v)
bad_is_err true why v h = refl
bad_is_err false why v h = absurd (true≢false (sym h))

pub good_is_ok : (bad : Bool) (why : Refusal) (v : Version) → bad ≡ false → IsOk (if bad then Err why else Ok v)
good_is_ok true why v h = absurd (true≢false h)
good_is_ok false why v h = refl
