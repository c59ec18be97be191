-- Updates of a message that had room, and the one that had none.
use Rattle.std.proofs.Common.{◌≡◌, ℕ, Bool, true, false, if◌then◌else◌, List, [], ◌∷◌, ◌++◌, append-nil, refl, sym, ap, ◌∙◌, subst, Option, Some, None, Result, Ok, Err, inl, inr}
use Rattle.std.specs.Prelude.{◌⊎◌, IfOk}
use Rattle.tsig_port.specs.Tsig.{TsigKey}
use Rattle.tsig_port.specs.declared.client.ClientSequence.{ClientSequence}
use Rattle.zone_model.specs.Commits.{Commit}
use Rattle.zone_reads.specs.Session.{Session, rolled_back}
use Rattle.zone_model.specs.Updates.{Update, Progress, apply_update}
use Rattle.xfr_model.specs.Applying.{Halt, Held, within, unless_halted, apply_within}
use Rattle.xfr_model.specs.Messages.{ReadMessage}
use Rattle.xfr_model.specs.Read.{OtherAnswer, NotValid, Malformed, Unreadable, AfterEnd, Refused}
use Rattle.xfr_model.specs.Machine.{Place, Run}
use Rattle.xfr_outcomes.specs.declared.update.Error.{Error}
use Rattle.xfr_outcomes.specs.declared.update.Error.TheVariants as errors
use Rattle.xfr_outcomes.specs.declared.protocol.IterationError.{IterationError}
use Rattle.xfr_outcomes.specs.declared.protocol.IterationError.TheVariants as items
use Rattle.xfr_client.specs.Rest.{Rest, NextTold}
use Rattle.xfr_client.specs.Interpreting.{Interpreting}
use Rattle.xfr_client.specs.Updating.{Updating}
use Rattle.xfr_client.specs.SoFar.{Asking, client_so_far}
use Rattle.xfr_outcomes.specs.Refusals.{of_update}
use Rattle.xfr_client.specs.Ending.{same_serial, settled}
use Rattle.xfr_client.specs.Replies.{AnswersReply, TestsReply}
use Rattle.xfr_client.specs.Steps.{numbers_left, HasMade, Ahead, DoesOne, TakesOne, Led, LedOn}
use Rattle.xfr_client.specs.Standing.{ExchangeStands}
use Rattle.xfr_client.specs.Room.{adds_to_full, AllHaveRoom, KeepsRoom, StopsAt, KeepsAllRoom, reply_updates, ReplyKeepsRoom, ReplyStopsAt}
use Rattle.xfr_client.specs.declared.exchange.Exchange.{Exchange}
use Rattle.xfr_outcomes.specs.declared.outcome.SyncOk.{SyncOk}
use Rattle.xfr_outcomes.specs.declared.outcome.SyncOk.TheVariants as done
use Rattle.xfr_outcomes.specs.declared.outcome.SyncError.{SyncError}
use Rattle.xfr_outcomes.specs.declared.outcome.SyncError.TheVariants as why
use Rattle.xfr_client.proofs.Steps.{led_none}
use Rattle.xfr_client.proofs.Messages.{behind_one, led_on}
use Rattle.xfr_client.proofs.Standings.{run_next}
use Rattle.xfr_client.proofs.Clients.{made_rolled}

-- ---- updates in turn

-- what was done had room, and so had what was left
pub room_join : (most : Option ℕ) (limit : ℕ) (done left : List Update) (g p : Progress) → AllHaveRoom most limit g done → apply_within limit g done ≡ record { progress = p; halt = None } → AllHaveRoom most limit p left
    → AllHaveRoom most limit g (done ++ left)
room_join most limit [] left g p a led k = subst (λ (x : Held). AllHaveRoom most limit x.progress left) (sym led) k
room_join most limit (u ∷ more) left g p a led k = (a.0, by (within limit (apply_update g u)) a.1 led (λ q b l. room_join most limit more left q p b l k))
  where
    by : (o : Result Progress Halt) → IfOk o (λ q. AllHaveRoom most limit q more) → unless_halted g (λ q. apply_within limit q more) o ≡ record { progress = p; halt = None }
        → ((q : Progress) → AllHaveRoom most limit q more → apply_within limit q more ≡ record { progress = p; halt = None } → AllHaveRoom most limit q (more ++ left))
        → IfOk o (λ q. AllHaveRoom most limit q (more ++ left))
    by (Ok q) b l next = next q b l
    by (Err h) b l next = tt

-- one update alone
room_one : (most : Option ℕ) (limit : ℕ) (p : Progress) (u : Update) → adds_to_full most p.pending u ≡ false → AllHaveRoom most limit p (u ∷ [])
room_one most limit p u h = (h, by (within limit (apply_update p u)))
  where
    by : (o : Result Progress Halt) → IfOk o (λ q. Unit {0})
    by (Ok q) = tt
    by (Err e) = tt

-- .. and one that isn't done, whatever is behind it
room_halted : (most : Option ℕ) (limit : ℕ) (p : Progress) (u : Update) (left : List Update) (h : Halt) → adds_to_full most p.pending u ≡ false → within limit (apply_update p u) ≡ Err h → AllHaveRoom most limit p (u ∷ left)
room_halted most limit p u left h r e = (r, subst (λ o. IfOk o (λ q. AllHaveRoom most limit q left)) (sym e) tt)

-- what is pending in a session is so in its progress
same_room : (most : Option ℕ) (base : Commit) (before : List Commit) (u : Updating) (s : Session) (handles : List Commit) (p : Progress) (update : Update) (b : Bool)
    → Ahead base before u s handles p → adds_to_full most s.pending update ≡ b → adds_to_full most p.pending update ≡ b
same_room most base before u s handles p update b a h = sym (ap (λ (x : Progress). adds_to_full most x.pending update) a.progress) ∙ h

-- ---- a message

-- so far in a message, and that the updates done had room
pub record RoomOn (most : Option ℕ) (base : Commit) (before : List Commit) (u : Updating) (s : Session) (handles : List Commit) (g : Progress) (all left : Rest) : Type 0 where
  pub on : LedOn base before u s handles g all left
  pub room : AllHaveRoom most (numbers_left base) g on.led.done

-- one more was done
pub room_on : (most : Option ℕ) (base : Commit) (before : List Commit) (u v : Updating) (s t : Session) (handles now : List Commit) (g : Progress) (all old new : Rest) (update : Update)
    → (l : RoomOn most base before u s handles g all old) → old ≡ behind_one update new → DoesOne base before v t now l.on.progress update
    → (◌≡◌ {A = Result (Unit {0}) Error} (Ok tt) (Err errors.Memory)) ⊎ (adds_to_full most s.pending update ≡ false) → RoomOn most base before v t now g all new
room_on most base before u v s t handles now g all old new update l e d (inl out) = absurd (cc out)
room_on most base before u v s t handles now g all old new update l e d (inr h) =
    let p : Progress = l.on.progress in
    let limit : ℕ = numbers_left base in
    record {
      on = led_on base before u v s t handles now g all old new update l.on e d;
      room = room_join most limit l.on.led.done (update ∷ []) g p l.room l.on.led.led (room_one most limit p update (same_room most base before u s handles p update false l.on.ahead h));
    }

-- what was done had room, wherever the message ends
pub room_ends : (most : Option ℕ) (base : Commit) (before : List Commit) (u : Updating) (s t : Session) (handles now : List Commit) (g : Progress) (all old : Rest)
    → (l : RoomOn most base before u s handles g all old) → HasMade base before t now l.on.progress.committed → KeepsRoom most base before t now g all.run.updates
room_ends most base before u s t handles now g all old l made = record { progress = l.on.progress; left = old.run.updates; led = l.on.led; made = made; room = l.room }

-- where nothing is left, all had
pub room_all : (most : Option ℕ) (base : Commit) (before : List Commit) (u : Updating) (s : Session) (handles : List Commit) (g : Progress) (all old : Rest)
    → RoomOn most base before u s handles g all old → old.run.updates ≡ [] → AllHaveRoom most (numbers_left base) g all.run.updates
room_all most base before u s handles g all old l e =
    subst (AllHaveRoom most (numbers_left base) g) (sym (l.on.led.joined ∙ ap (λ x. l.on.led.done ++ x) e ∙ append-nil l.on.led.done)) l.room

-- .. as at the iterator's error, and at its end
pub left_at_error : (old new : Rest) (e : IterationError) → NextTold old (Some (Err e)) new → old.run.updates ≡ []
left_at_error old new items.ParseError n = ap (λ (x : Rest). x.run.updates) n.0
left_at_error old new items.AlreadyFinished n = ap (λ (x : Rest). x.run.updates) n.0
left_at_error old new items.SingleSoaIxfrTcpRetrySignal n = ap (λ (x : Rest). x.run.updates) n.0
left_at_error old new items.MissingInitialSoa n = absurd n

pub err_same : (e : Error) → ◌≡◌ {A = Result (Unit {0}) Error} (Err e) (Err errors.Memory) → e ≡ errors.Memory
err_same e h = cc h

pub sync_same : (e : SyncError) → ◌≡◌ {A = Result (Unit {0}) SyncError} (Err e) (Err why.Memory) → e ≡ why.Memory
sync_same e h = cc h

abbrev pub refused_by : Error → Result (Unit {0}) SyncError
refused_by e = Err (of_update e)

-- an update that isn't done ends the message
pub room_halts : (most : Option ℕ) (base : Commit) (before : List Commit) (u v : Updating) (s t : Session) (handles now : List Commit) (g : Progress) (all old new : Rest) (update : Update) (e : Error)
    → (l : RoomOn most base before u s handles g all old) → old ≡ behind_one update new → TakesOne base before v t now l.on.progress update (Err e)
    → (◌≡◌ {A = Result (Unit {0}) Error} (Err e) (Err errors.Memory)) ⊎ (adds_to_full most s.pending update ≡ false) → KeepsAllRoom most base before t now g all.run.updates (Err (of_update e))
room_halts most base before u v s t handles now g all old new update e l is (made, out) (inl none) =
    (room_ends most base before u s t handles now g all old l made, inl (ap refused_by (err_same e none)))
room_halts most base before u v s t handles now g all old new update e l is (made, inl out) (inr h) =
    (room_ends most base before u s t handles now g all old l made, inl (ap refused_by out))
room_halts most base before u v s t handles now g all old new update e l is (made, inr k) (inr h) =
    let p : Progress = l.on.progress in
    let limit : ℕ = numbers_left base in
    let room : AllHaveRoom most limit p (update ∷ new.run.updates) = room_halted most limit p update new.run.updates k.halt (same_room most base before u s handles p update false l.on.ahead h) k.halts in (
      room_ends most base before u s t handles now g all old l made,
      inr (subst (AllHaveRoom most limit g) (sym (l.on.led.joined ∙ ap (λ (x : Rest). l.on.led.done ++ x.run.updates) is)) (room_join most limit l.on.led.done (update ∷ new.run.updates) g p l.room l.on.led.led room)),
    )

-- .. an update is refused: the flag tells whether it would have added to a full set
pub room_stops : (most : Option ℕ) (base : Commit) (before : List Commit) (u v : Updating) (s t : Session) (handles now : List Commit) (g : Progress) (all old new : Rest) (update : Update) (e : Error) (full : Bool)
    → (l : RoomOn most base before u s handles g all old) → old ≡ behind_one update new → TakesOne base before v t now l.on.progress update (Err e)
    → adds_to_full most s.pending update ≡ full → StopsAt most base before t now g all.run.updates full
room_stops most base before u v s t handles now g all old new update e full l is k h = record {
  kept = record { progress = l.on.progress; left = old.run.updates; led = l.on.led; made = k.0; room = l.room };
  next = update;
  behind = new.run.updates;
  stops = ap (λ (x : Rest). x.run.updates) is;
  test = same_room most base before u s handles l.on.progress update full l.on.ahead h;
}

-- an update that was done had room, so the flag is still low
pub still_low : (room flag : Bool) → (◌≡◌ {A = Result (Unit {0}) Error} (Ok tt) (Err errors.Memory)) ⊎ (room ≡ false) → flag ≡ room → flag ≡ false
still_low room flag (inl out) e = absurd (cc out)
still_low room flag (inr h) e = e ∙ h

-- a flag that was raised says that the answer is want of memory
pub raised_by : (room flag : Bool) (e : Error) → (◌≡◌ {A = Result (Unit {0}) Error} (Err e) (Err errors.Memory)) ⊎ (room ≡ false) → flag ≡ room → flag ≡ true → e ≡ errors.Memory
raised_by room flag e (inl out) f h = err_same e out
raised_by room flag e (inr r) f h = absurd (cc (sym h ∙ f ∙ r))

-- ---- a reply

-- a rollback leaves what was done
abbrev pub room_rolled : (most : Option ℕ) (base : Commit) (before handles : List Commit) (s t : Session) (g : Progress) (all : List Update) → s ≡ rolled_back t → KeepsRoom most base before t handles g all
    → KeepsRoom most base before s handles g all
room_rolled most base before handles s t g all e k = record {
  progress = k.progress;
  left = k.left;
  led = k.led;
  made = made_rolled base before handles s t k.progress.committed e k.made;
  room = k.room;
}

pub stops_rolled : (most : Option ℕ) (base : Commit) (before handles : List Commit) (s t : Session) (g : Progress) (all : List Update) (full : Bool) → s ≡ rolled_back t → StopsAt most base before t handles g all full
    → StopsAt most base before s handles g all full
stops_rolled most base before handles s t g all full e k = record {
  kept = room_rolled most base before handles s t g all e k.kept;
  next = k.next;
  behind = k.behind;
  stops = k.stops;
  test = k.test;
}

-- nothing was done
pub none_done : (most : Option ℕ) (a : Asking) (x : Exchange) (s : Session) (before handles : List Commit) (taken : List (List ℕ)) (m : List ℕ) → ExchangeStands x s a taken before handles
    → KeepsRoom most a.base before s handles (client_so_far a taken).progress (reply_updates a taken m)
none_done most a x s before handles taken m st = record {
  progress = (client_so_far a taken).progress;
  left = reply_updates a taken m;
  led = led_none (numbers_left a.base) (client_so_far a taken).progress (reply_updates a taken m);
  made = st.ahead.made;
  room = tt;
}

reply_room : (most : Option ℕ) (a : Asking) (s : Session) (before handles : List Commit) (taken : List (List ℕ)) (m : List ℕ) (r : Result (Option SyncOk) SyncError)
    → KeepsRoom most a.base before s handles (client_so_far a taken).progress (reply_updates a taken m) → AllHaveRoom most (numbers_left a.base) (client_so_far a taken).progress (reply_updates a taken m)
    → ReplyKeepsRoom most a s before handles taken m r
reply_room most a s before handles taken m (Ok x) k all = all
reply_room most a s before handles taken m (Err e) k all = k

-- its updates ended early
pub reply_stops : (most : Option ℕ) (a : Asking) (s : Session) (before handles : List Commit) (taken : List (List ℕ)) (m : List ℕ) (r : Run) (found asked : Option ℕ) (e : SyncError) → r ≡ run_next a taken m
    → KeepsAllRoom most a.base before s handles (client_so_far a taken).progress r.updates (Err e) → ReplyKeepsRoom most a s before handles taken m (settled found asked e)
reply_stops most a s before handles taken m r found asked e is k =
    by (subst (λ (x : Run). KeepsAllRoom most a.base before s handles (client_so_far a taken).progress x.updates (Err e)) is k)
  where
    by : KeepsAllRoom most a.base before s handles (client_so_far a taken).progress (reply_updates a taken m) (Err e) → ReplyKeepsRoom most a s before handles taken m (settled found asked e)
    by (kept, inl out) = subst (λ z. ReplyKeepsRoom most a s before handles taken m (settled found asked z)) (sym (sync_same e out)) kept
    by (kept, inr all) = reply_room most a s before handles taken m (settled found asked e) kept all

-- .. or all were done
pub reply_done : (most : Option ℕ) (a : Asking) (s : Session) (before handles : List Commit) (taken : List (List ℕ)) (r : Run) (m : List ℕ) → r ≡ run_next a taken m
    → KeepsAllRoom most a.base before s handles (client_so_far a taken).progress r.updates (Ok tt) → AllHaveRoom most (numbers_left a.base) (client_so_far a taken).progress (reply_updates a taken m)
reply_done most a s before handles taken r m is (kept, inl out) = absurd (cc out)
reply_done most a s before handles taken r m is (kept, inr all) = subst (λ (x : Run). AllHaveRoom most (numbers_left a.base) (client_so_far a taken).progress x.updates) is all

-- .. or memory ran out at one
pub reply_stops_at : (most : Option ℕ) (a : Asking) (s : Session) (before handles : List Commit) (taken : List (List ℕ)) (r : Run) (m : List ℕ) (full : Bool) → r ≡ run_next a taken m
    → StopsAt most a.base before s handles (client_so_far a taken).progress r.updates full → ReplyStopsAt most a s before handles taken m full
reply_stops_at most a s before handles taken r m full is k = subst (λ (x : Run). StopsAt most a.base before s handles (client_so_far a taken).progress x.updates full) is k

-- neither a signature nor what a message is tells of want of memory
pub not_checked : (a : Asking) (taken : List (List ℕ)) (m : List ℕ) (q : ClientSequence TsigKey) (e : SyncError) → AnswersReply a taken m q (Err e) → e ≡ why.Memory → ⊥
not_checked a taken m q e r is = subst (λ z. AnswersReply a taken m q (Err z)) is r

pub not_tested : (a : Asking) (begun : Bool) (p : Place) (m : ReadMessage) (i : Interpreting) (e : SyncError) → TestsReply a begun p m i (Err e) → e ≡ why.Memory → ⊥
not_tested a begun p m i e (OtherAnswer, (fault, told)) is = cc (sym told ∙ is)
not_tested a begun p m i e (NotValid, (fault, told)) is = cc (sym told ∙ is)
not_tested a begun p m i e (Malformed, (fault, told)) is = cc (sym told ∙ is)
not_tested a begun p m i e (Unreadable, (fault, told)) is = cc (sym told ∙ is)
not_tested a begun p m i e (AfterEnd, (fault, told)) is = cc (sym told ∙ is)
not_tested a begun p m i e (Refused r, (fault, told)) is = cc (sym told ∙ is)

-- .. nor does what settles it
pub settled_memory : (found asked : Option ℕ) (e : SyncError) → settled found asked e ≡ Err why.Memory → e ≡ why.Memory
settled_memory found asked why.Memory h = refl
settled_memory found asked (why.Iteration items.SingleSoaIxfrTcpRetrySignal) h = absurd (by (same_serial found asked) h)
  where
    by : (b : Bool) → ◌≡◌ {A = Result (Option SyncOk) SyncError} (if b then Ok (Some done.UpToDate) else Err (why.Iteration items.SingleSoaIxfrTcpRetrySignal)) (Err why.Memory) → ⊥
    by true k = cc k
    by false k = cc k
settled_memory found asked (why.Iteration items.ParseError) h = cc h
settled_memory found asked (why.Iteration items.AlreadyFinished) h = cc h
settled_memory found asked (why.Iteration items.MissingInitialSoa) h = cc h
settled_memory found asked why.NoSoa h = cc h
settled_memory found asked (why.Request x) h = cc h
settled_memory found asked why.LinkFault h = cc h
settled_memory found asked why.Ended h = cc h
settled_memory found asked (why.Short x) h = cc h
settled_memory found asked (why.Primary x) h = cc h
settled_memory found asked why.TooManyMessages h = cc h
settled_memory found asked (why.Tsig x) h = cc h
settled_memory found asked why.OtherAnswer h = cc h
settled_memory found asked (why.Xfr x) h = cc h
settled_memory found asked (why.Update x) h = cc h
settled_memory found asked why.VersionsExhausted h = cc h

-- the error that an exit tells
pub told_memory : (r : Result (Option SyncOk) SyncError) (e z : SyncError) → r ≡ Err z → z ≡ e → r ≡ Err why.Memory → e ≡ why.Memory
told_memory r e z h is k = sym is ∙ cc (sym h ∙ k)
