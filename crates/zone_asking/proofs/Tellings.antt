-- What an answer over streams tells.
use Rattle.std.proofs.Common.{◌≡◌, ◌≢◌, ℕ, Bool, true, false, ◌==◌, if◌then◌else◌, List, [], ◌∷◌, ◌++◌, refl, sym, ap, ◌∙◌, eqb-true, Result, Ok, Err}
use Rattle.xfr_outcomes.specs.declared.protocol.Error.TheVariants as message
use Rattle.xfr_outcomes.specs.declared.outcome.SyncOk.{SyncOk}
use Rattle.xfr_outcomes.specs.declared.outcome.SyncError.{SyncError}
use Rattle.xfr_outcomes.specs.declared.outcome.SyncError.TheVariants as why
use Rattle.zone_asking.specs.declared.errors.AskError.{AskError}
use Rattle.zone_asking.specs.declared.errors.AskError.TheVariants.{Transfer, Response, Cut, SourceFault, SinkFault}
use Rattle.zone_asking.specs.Answers.{sync_error, code_in, last_code, told_by, TellsCode}

-- the code of the last of them
pub last_one : (taken : List (List ℕ)) (m : List ℕ) → last_code (taken ++ m ∷ []) ≡ code_in m
last_one [] m = refl
last_one (a ∷ []) m = refl
last_one (a ∷ b ∷ more) m = last_one (b ∷ more) m

-- a reply that is refused is told by its code
told_choice : (taken : List (List ℕ)) (code : ℕ) (b : Bool) → (code == 0) ≡ b → last_code taken ≡ code
    → TellsCode taken (Err (if b then Transfer (why.Xfr message.NotValidXfrResponse) else Response code))
told_choice taken code true h l = l ∙ eqb-true code 0 h
told_choice taken code false h l = (λ z. absurd (cc (sym h ∙ ap (λ n. n == 0) z)), l)

pub told_code : (taken : List (List ℕ)) (e : SyncError) (code : ℕ) → last_code taken ≡ code → TellsCode taken (Err (told_by e code))
told_code taken (why.Xfr message.NotValidXfrResponse) code l = told_choice taken code (code == 0) refl l
told_code taken (why.Xfr message.ParseError) code l = tt
told_code taken (why.Xfr message.Malformed) code l = tt
told_code taken (why.Xfr message.Finished) code l = tt
told_code taken why.NoSoa code l = tt
told_code taken (why.Request x) code l = tt
told_code taken why.LinkFault code l = tt
told_code taken why.Ended code l = tt
told_code taken (why.Short x) code l = tt
told_code taken (why.Primary x) code l = tt
told_code taken why.TooManyMessages code l = tt
told_code taken (why.Tsig x) code l = tt
told_code taken why.OtherAnswer code l = tt
told_code taken (why.Iteration x) code l = tt
told_code taken (why.Update x) code l = tt
told_code taken why.VersionsExhausted code l = tt
told_code taken why.Memory code l = tt
