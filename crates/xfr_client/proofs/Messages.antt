-- All updates of one message.
use Rattle.std.proofs.Common.{◌≡◌, ℕ, Bool, true, false, List, [], ◌∷◌, ◌++◌, refl, sym, ap, ◌∙◌, subst, Option, Some, None, Ok, Err, inl, inr}
use Rattle.zone_model.specs.Commits.{Commit}
use Rattle.zone_reads.specs.Session.{Session}
use Rattle.zone_model.specs.Updates.{Update, Progress}
use Rattle.xfr_model.specs.Read.{Fault, Unreadable, AfterEnd}
use Rattle.xfr_model.specs.Machine.{went, then_run}
use Rattle.xfr_model.specs.Applying.{Held, apply_within}
use Rattle.xfr_outcomes.specs.declared.update.Error.{Error}
use Rattle.xfr_client.specs.Rest.{Rest, NextTold}
use Rattle.xfr_client.specs.Updating.{Updating}
use Rattle.xfr_outcomes.specs.declared.protocol.IterationError.{IterationError}
use Rattle.xfr_outcomes.specs.declared.protocol.IterationError.TheVariants as items
use Rattle.xfr_client.specs.Ending.{ending_error}
use Rattle.xfr_outcomes.specs.Refusals.{of_update}
use Rattle.xfr_client.specs.Steps.{numbers_left, HasMade, Ahead, DoesOne, TakesOne, LedOn, EndsEarly, IsCause, TakesAll}
use Rattle.xfr_outcomes.specs.declared.outcome.SyncError.{SyncError}
use Rattle.xfr_outcomes.specs.declared.outcome.SyncError.TheVariants as why
use Rattle.xfr_client.proofs.Steps.{led_more, led_all, halts_left}

-- what is left after one update
abbrev pub behind_one : Update → Rest → Rest
behind_one u new = record { run = then_run (went new.run.place (u ∷ [])) new.run; retry = new.retry }

-- one more was done
abbrev pub led_on : (base : Commit) (before : List Commit) (u v : Updating) (s t : Session) (handles now : List Commit) (g : Progress) (all old new : Rest) (update : Update)
    → (l : LedOn base before u s handles g all old) → old ≡ behind_one update new → DoesOne base before v t now l.progress update → LedOn base before v t now g all new
led_on base before u v s t handles now g all old new update l e d = record {
  progress = d.progress;
  led = led_more (numbers_left base) g l.progress d.progress all.run.updates new.run.updates update (record { done = l.led.done; joined = l.led.joined ∙ ap (λ x. l.led.done ++ x.run.updates) e; led = l.led.led }) d.done;
  fault = l.fault ∙ ap (λ x. x.run.fault) e;
  retry = l.retry ∙ ap (λ x. x.retry) e;
  ahead = d.ahead;
}

-- one that isn't done ends the message
pub halts_there : (base : Commit) (before : List Commit) (u v : Updating) (s t : Session) (handles now : List Commit) (g : Progress) (all old new : Rest) (update : Update) (e : Error)
    → (l : LedOn base before u s handles g all old) → old ≡ behind_one update new → TakesOne base before v t now l.progress update (Err e) → TakesAll base before v t now g all (Err (of_update e))
halts_there base before u v s t handles now g all old new update e l is (made, inl out) =
    inl (ap of_update out, record { progress = l.progress; left = old.run.updates; led = l.led; made = made })
halts_there base before u v s t handles now g all old new update e l is (made, inr h) =
    let limit : ℕ = numbers_left base in
    let held : apply_within limit g all.run.updates ≡ record { progress = l.progress; halt = Some h.halt } =
    led_all limit g l.progress all.run.updates old.run.updates l.led ∙ ap (λ x. apply_within limit l.progress x.run.updates) is ∙ halts_left limit l.progress new.run.updates update h.halt h.halts in
    inr (
      subst (λ (x : Held). HasMade base before t now x.progress.committed) (sym held) made,
      subst (λ (x : Held). IsCause x.halt all.run.fault all.retry (of_update e)) (sym held) (tt, ap of_update h.why),
    )

-- all were done, and nothing is left but the message's fault or its retry signal
abbrev ends_with : Rest → Option Fault → Bool → Rest
ends_with old f b = record { run = record { place = old.run.place; updates = []; fault = f }; retry = b }

pub held_all : (base : Commit) (before : List Commit) (u : Updating) (s : Session) (handles : List Commit) (g : Progress) (all old : Rest) (f : Option Fault) (b : Bool)
    → (l : LedOn base before u s handles g all old) → old ≡ ends_with old f b → apply_within (numbers_left base) g all.run.updates ≡ record { progress = l.progress; halt = None }
held_all base before u s handles g all old f b l is =
    led_all (numbers_left base) g l.progress all.run.updates old.run.updates l.led ∙ ap (λ x. apply_within (numbers_left base) l.progress x.run.updates) is

ends_there : (base : Commit) (before : List Commit) (u : Updating) (s : Session) (handles : List Commit) (g : Progress) (all old : Rest) (f : Option Fault) (b : Bool) (e : SyncError)
    → LedOn base before u s handles g all old → old ≡ ends_with old f b → EndsEarly None f b → e ≡ ending_error None f → TakesAll base before u s handles g all (Err e)
ends_there base before u s handles g all old f b e l is early cause =
    let held = held_all base before u s handles g all old f b l is in
    let fault : all.run.fault ≡ f = l.fault ∙ ap (λ x. x.run.fault) is in
    let retry : all.retry ≡ b = l.retry ∙ ap (λ x. x.retry) is in
    inr (
      subst (λ (x : Held). HasMade base before s handles x.progress.committed) (sym held) l.ahead.made,
      subst (λ (x : Held). IsCause x.halt all.run.fault all.retry e) (sym held)
          (subst (λ x. IsCause None x all.retry e) (sym fault) (subst (λ x. IsCause None f x e) (sym retry) (early, cause))),
    )

-- the iterator's error
pub told_error : (base : Commit) (before : List Commit) (u : Updating) (s : Session) (handles : List Commit) (g : Progress) (all old new : Rest) (e : IterationError)
    → LedOn base before u s handles g all old → NextTold old (Some (Err e)) new → TakesAll base before u s handles g all (Err (why.Iteration e))
told_error base before u s handles g all old new items.ParseError l n =
    ends_there base before u s handles g all old (Some Unreadable) false (why.Iteration items.ParseError) l n.0 tt refl
told_error base before u s handles g all old new items.AlreadyFinished l n =
    ends_there base before u s handles g all old (Some AfterEnd) false (why.Iteration items.AlreadyFinished) l n.0 tt refl
told_error base before u s handles g all old new items.SingleSoaIxfrTcpRetrySignal l n =
    ends_there base before u s handles g all old None true (why.Iteration items.SingleSoaIxfrTcpRetrySignal) l n.0 refl refl
told_error base before u s handles g all old new items.MissingInitialSoa l n = absurd n

-- .. and its end
pub told_all : (base : Commit) (before : List Commit) (u : Updating) (s : Session) (handles : List Commit) (g : Progress) (all old new : Rest)
    → LedOn base before u s handles g all old → NextTold old None new → TakesAll base before u s handles g all (Ok tt)
told_all base before u s handles g all old new l n =
    let held = held_all base before u s handles g all old None false l n.0 in (
      ap (λ (x : Held). x.halt) held,
      l.fault ∙ ap (λ x. x.run.fault) n.0,
      l.retry ∙ ap (λ x. x.retry) n.0,
      subst (λ (x : Held). Ahead base before u s handles x.progress) (sym held) l.ahead,
    )
