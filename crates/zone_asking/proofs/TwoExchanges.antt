-- Two exchanges, one after the other.
use Rattle.std.proofs.Common.{◌≡◌, ◌≢◌, ℕ, ◌+◌, true, false, Bool, List, [], ◌∷◌, ◌++◌, append_assoc, refl, sym, ap, ◌∙◌, subst, inl, inr, Option, Some, None, Result, Ok, Err}
use Rattle.zone_model.specs.TransferText.{Mode, Axfr, Ixfr}
use Rattle.zone_model.specs.Version.{Version}
use Rattle.zone_model.specs.Commits.{Commit}
use Rattle.zone_model.specs.Commits.{commits_after}
use Rattle.zone_reads.specs.Session.{Session}
use Rattle.zone_devices.specs.Calls.{Rose}
use Rattle.xfr_client.specs.SoFar.{Asking, asks_with, asked_id}
use Rattle.xfr_client.specs.Steps.{HasMade, commit_after}
use Rattle.xfr_client.specs.Handles.{KeepsHandles}
use Rattle.xfr_client.proofs.Handles.{keeps_handles}
use Rattle.xfr_outcomes.specs.declared.outcome.SyncOk.{SyncOk}
use Rattle.zone_asking.specs.declared.limits.Limits.{Limits}
use Rattle.zone_asking.specs.declared.errors.AskError.{AskError}
use Rattle.zone_asking.specs.declared.errors.AskError.TheVariants.{SourceFault, SinkFault}
use Rattle.zone_asking.specs.Exchanges.{Crossing, crossing, Exchanges}
use Rattle.zone_asking.specs.Retries.{asks_again, next_moment, ExchangesByRule}

-- versions in two lots
commits_joined : (base : Commit) (vs more : List Version) → commits_after base (vs ++ more) ≡ commits_after base vs ++ commits_after (commit_after base vs) more
commits_joined base [] more = refl
commits_joined base (v ∷ vs) more = let c : Commit = record { number = base.number + 1; version = v } in ap (λ l. c ∷ l) (commits_joined c vs more)

last_joined : (base : Commit) (vs more : List Version) → commit_after base (vs ++ more) ≡ commit_after (commit_after base vs) more
last_joined base [] more = refl
last_joined base (v ∷ vs) more = last_joined (record { number = base.number + 1; version = v }) vs more

made_joined : (base : Commit) (before mid later : List Commit) (s t : Session) (vs more : List Version) → HasMade base before s mid vs → HasMade s.current mid t later more → HasMade base before t later (vs ++ more)
made_joined base before mid later s t vs more m n = record {
  current = n.current ∙ ap (λ c. commit_after c more) m.current ∙ sym (last_joined base vs more);
  behind =
      n.behind ∙ ap (λ l. l ++ commits_after s.current more) m.behind ∙ append_assoc before (commits_after base vs) (commits_after s.current more)
      ∙ ap (λ c. before ++ (commits_after base vs ++ commits_after c more)) m.current ∙ ap (λ l. before ++ l) (sym (commits_joined base vs more));
}

-- the handles of both
pub keeps_both : (limits : Limits) (over : Option ℕ) (a : Asking) (b : Asking) (x y : Crossing) (before mid later : List Commit) (s t : Session) (first second : Result SyncOk AskError) → b.base ≡ s.current
    → Exchanges limits None a x before mid s first → Exchanges limits over b y mid later t second → KeepsHandles a.base before later
keeps_both limits over a b x y before mid later s t first second e k l =
    let m = subst (λ c. HasMade c mid t later l.transfers.versions) e l.transfers.made in
    keeps_handles a.base before later t (k.transfers.versions ++ l.transfers.versions) (made_joined a.base before mid later s t k.transfers.versions l.transfers.versions k.transfers.made m)

-- two exchanges by the rule
pub twice : (limits : Limits) (a : Asking) (left mid_left left_new taken mid_taken taken_new : Option (List ℕ)) (before mid later : List Commit) (s t : Session) (first second : Result SyncOk AskError)
    → Exchanges limits None a (crossing left mid_left taken mid_taken) before mid s first → asks_again a.mode first ≡ true → s.pending ≡ s.current.version
    → Exchanges limits (Some (asked_id a)) (asks_with a.key Axfr (next_moment a.at) s.current) (crossing mid_left left_new mid_taken taken_new) mid later t second
    → ExchangesByRule limits a (crossing left left_new taken taken_new) before later t second
twice limits a left mid_left left_new taken mid_taken taken_new before mid later s t first second k again settled l = inr (record {
  first = first;
  left = mid_left;
  taken = mid_taken;
  made = mid;
  between = s;
  one = k;
  again = again;
  settled = settled;
  two = l;
})

-- what is asked again after isn't a fault of a stream
pub no_source_fault : (mode : Mode) (answer : Result SyncOk AskError) → asks_again mode answer ≡ true → answer ≢ Err SourceFault
no_source_fault Axfr answer h e = cc (ap (asks_again Axfr) (sym e) ∙ h)
no_source_fault Ixfr answer h e = cc (ap (asks_again Ixfr) (sym e) ∙ h)

pub no_sink_fault : (mode : Mode) (answer : Result SyncOk AskError) → asks_again mode answer ≡ true → answer ≢ Err SinkFault
no_sink_fault Axfr answer h e = cc (ap (asks_again Axfr) (sym e) ∙ h)
no_sink_fault Ixfr answer h e = cc (ap (asks_again Ixfr) (sym e) ∙ h)
