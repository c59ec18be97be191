-- Replies that were made beforehand.
use Rattle.std.proofs.Common.{◌≡◌, ℕ, true, false, List, [], ◌∷◌, Some, Ok, refl, sym, ◌∙◌}
use Rattle.std.proofs.lemmas.Bool.{true≢false}
use Rattle.xfr_services.specs.Items.{Calls, all_given}
use Rattle.xfr_services.specs.LongReplies.{fails, FailsOnlyWhereLong}
use Rattle.xfr_services.specs.declared.services.CallResult.{CallResult}

none_fails : (replies : List CallResult) → fails (Some (all_given replies)) ≡ false
none_fails [] = refl
none_fails (r ∷ more) = none_fails more

pub given_calls : (request : List ℕ) (replies : List CallResult) → Calls (FailsOnlyWhereLong request) (λ s items. items ≡ all_given s) (Ok replies)
given_calls request replies = record { items = all_given replies; sent = λ e. absurd (true≢false (sym e ∙ none_fails replies)); left = refl }
