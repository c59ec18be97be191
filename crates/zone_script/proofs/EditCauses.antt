-- What an edit of a script's session answers, and the difference that a commit tells.
use Rattle.std.proofs.Common.{◌≡◌, ℕ, Bool, true, false, ◌||◌, if◌then◌else◌, refl, ap, Option, Some, None, Result, Ok, Err, IfSome}
use Rattle.std.specs.Result.{result_ok}
use Rattle.dns_rdata.specs.Records.{Record}
use Rattle.zone_model.specs.Version.{Version}
use Rattle.zone_model.specs.Edits.{Refusal, add, delete}
use Rattle.zone_model.specs.Difference.{Difference, difference, diffable}
use Rattle.zone_model.specs.Offer.{difference_if}
use Rattle.zone_versions.specs.Causes.{refusal_of}
use Rattle.zone_versions.specs.declared.errors.EditError.{EditError}
use Rattle.zone_versions.specs.declared.errors.EditError.TheVariants.{OutOfZone, Incompatible, InvalidData, Memory}
use Rattle.zone_script.specs.Causes.{line_in, edit_cause}
use Rattle.zone_script.specs.Keeping.{Edited, with_pending}

-- an edit that is refused is refused at its line
refused : (e : Edited) (n : ℕ) (r : Result Version Refusal) (error : EditError) → IfSome (refusal_of error) (λ why. r ≡ Err why) → IfSome (line_in (edit_cause n error)) (λ m. with_pending e n (result_ok r) ≡ Err m)
refused e n r OutOfZone h = ap (λ x. with_pending e n (result_ok x)) h
refused e n r Incompatible h = ap (λ x. with_pending e n (result_ok x)) h
refused e n r InvalidData h = ap (λ x. with_pending e n (result_ok x)) h
refused e n r Memory h = tt

pub add_refused : (e : Edited) (n : ℕ) (r : Record) (error : EditError) → IfSome (refusal_of error) (λ why. add e.pending r ≡ Err why) → IfSome (line_in (edit_cause n error)) (λ m. with_pending e n (result_ok (add e.pending r)) ≡ Err m)
add_refused e n r error h = refused e n (add e.pending r) error h

pub delete_refused : (e : Edited) (n : ℕ) (r : Record) (error : EditError) → IfSome (refusal_of error) (λ why. delete e.pending r ≡ Err why) → IfSome (line_in (edit_cause n error)) (λ m. with_pending e n (result_ok (delete e.pending r)) ≡ Err m)
delete_refused e n r error h = refused e n (delete e.pending r) error h

-- a commit that was asked for its difference tells it
pub told_is : (asked : Bool) (v w : Version) → (if asked || true then (if diffable v w then Some (difference v w) else None) else None) ≡ difference_if v w
told_is true v w = refl
told_is false v w = refl
