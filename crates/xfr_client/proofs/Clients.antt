-- A client and its exchange.
use Rattle.std.proofs.Common.{◌≡◌, List, [], ◌∷◌, ◌++◌, ℕ, sym, ap, ◌∙◌, subst, Some, Ok}
use Rattle.zone_model.specs.Version.{Version}
use Rattle.zone_model.specs.Commits.{Commit}
use Rattle.zone_reads.specs.Session.{Session, rolled_back}
use Rattle.xfr_client.specs.SoFar.{Asking, client_so_far}
use Rattle.xfr_client.specs.Steps.{HasMade}
use Rattle.xfr_client.specs.Standing.{ClientState, ExchangeStands, Stands, Settled, RefusesReply, TakesReply}
use Rattle.xfr_client.specs.Replies.{RefusesMessage, TakesMessage}
use Rattle.xfr_client.specs.declared.exchange.Exchange.{Exchange}
use Rattle.xfr_outcomes.specs.declared.outcome.SyncOk.{SyncOk}
use Rattle.xfr_outcomes.specs.declared.outcome.SyncError.{SyncError}
use Rattle.xfr_outcomes.specs.declared.outcome.SyncError.TheVariants as why
use Rattle.xfr_client.proofs.TakingReplies.{some_same}

-- the exchange that is under way stands for what its client does
pub stands_by : (c : ClientState) (s : Session) (a : Asking) (taken : List (List ℕ)) (before handles : List Commit) (x : Exchange) → Stands c s a taken before handles → c.exchange ≡ Some x → ExchangeStands x s a taken before handles
stands_by c s a taken before handles x st h = subst (λ y. ExchangeStands y s a taken before handles) (some_same st.exchange x (sym st.under_way ∙ h)) st.stands

-- a rollback leaves what was made, and nothing pending
pub made_rolled : (base : Commit) (before handles : List Commit) (s t : Session) (vs : List Version) → s ≡ rolled_back t → HasMade base before t handles vs → HasMade base before s handles vs
made_rolled base before handles s t vs e m = record { current = ap (λ x. x.current) e ∙ m.current; behind = m.behind }

pub nothing_pending : (s t : Session) → s ≡ rolled_back t → s.pending ≡ s.current.version
nothing_pending s t e = ap (λ x. x.pending) e ∙ sym (ap (λ x. x.current.version) e)

pub settles : (a : Asking) (s t : Session) (before handles : List Commit) (taken : List (List ℕ)) → s ≡ rolled_back t → HasMade a.base before t handles (client_so_far a taken).progress.committed → Settled a s before handles taken
settles a s t before handles taken e m = record { made = made_rolled a.base before handles s t (client_so_far a taken).progress.committed e m; pending = nothing_pending s t e }

-- an outcome
pub takes_outcome : (a : Asking) (c : ClientState) (x : Exchange) (s t : Session) (before handles : List Commit) (taken : List (List ℕ)) (m : List ℕ) (done : SyncOk) → s ≡ rolled_back t
    → TakesMessage a x t before handles taken m (Ok (Some done)) → TakesReply a c s before handles taken m (Ok (Some done))
takes_outcome a c x s t before handles taken m done e k = (k.0, settles a s t before handles (taken ++ m ∷ []) e k.1)

-- a refusal
pub takes_refusal : (a : Asking) (s t : Session) (before handles : List Commit) (taken : List (List ℕ)) (m : List ℕ) (e : SyncError) → s ≡ rolled_back t
    → RefusesMessage a t before handles taken m e → RefusesReply a s before handles taken m e
takes_refusal a s t before handles taken m (why.Short x) e r = (r.0, settles a s t before handles taken e r.1)
takes_refusal a s t before handles taken m (why.Tsig x) e r = (r.0, r.1, settles a s t before handles taken e r.2)
takes_refusal a s t before handles taken m why.Memory e r =
    let o = r.ran_out in
    (record { headed = r.headed; sound = r.sound; ran_out = record { progress = o.progress; left = o.left; led = o.led; made = made_rolled a.base before handles s t o.progress.committed e o.made } }, nothing_pending s t e)
takes_refusal a s t before handles taken m why.NoSoa e r = (r.0, settles a s t before handles (taken ++ m ∷ []) e r.1)
takes_refusal a s t before handles taken m (why.Request x) e r = (r.0, settles a s t before handles (taken ++ m ∷ []) e r.1)
takes_refusal a s t before handles taken m why.LinkFault e r = (r.0, settles a s t before handles (taken ++ m ∷ []) e r.1)
takes_refusal a s t before handles taken m why.Ended e r = (r.0, settles a s t before handles (taken ++ m ∷ []) e r.1)
takes_refusal a s t before handles taken m (why.Primary x) e r = (r.0, settles a s t before handles (taken ++ m ∷ []) e r.1)
takes_refusal a s t before handles taken m why.TooManyMessages e r = (r.0, settles a s t before handles (taken ++ m ∷ []) e r.1)
takes_refusal a s t before handles taken m why.OtherAnswer e r = (r.0, settles a s t before handles (taken ++ m ∷ []) e r.1)
takes_refusal a s t before handles taken m (why.Xfr x) e r = (r.0, settles a s t before handles (taken ++ m ∷ []) e r.1)
takes_refusal a s t before handles taken m (why.Iteration x) e r = (r.0, settles a s t before handles (taken ++ m ∷ []) e r.1)
takes_refusal a s t before handles taken m (why.Update x) e r = (r.0, settles a s t before handles (taken ++ m ∷ []) e r.1)
takes_refusal a s t before handles taken m why.VersionsExhausted e r = (r.0, settles a s t before handles (taken ++ m ∷ []) e r.1)
