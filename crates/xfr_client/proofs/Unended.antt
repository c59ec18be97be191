-- In a whole text nothing is committed.
use Rattle.std.proofs.Common.{◌≡◌, ℕ, Bool, true, false, ◌&&◌, if◌then◌else◌, List, [], ◌∷◌, ◌++◌, length, refl, sym, ap, ◌∙◌, subst, arith, None, Result, Ok, Err, inl, inr}
use Rattle.std.specs.Prelude.{nat_lt, ◌⊎◌}
use Rattle.dns_name.specs.Names.{under}
use Rattle.dns_rdata.specs.Records.{Record}
use Rattle.zone_model.specs.Version.{Version}
use Rattle.zone_model.specs.Commits.{Commit}
use Rattle.zone_reads.specs.Session.{Session}
use Rattle.zone_model.specs.Edits.{Refusal, has_data, add}
use Rattle.zone_model.specs.TransferText.{Mode, Axfr, Ixfr, is_soa, is_same_soa}
use Rattle.zone_model.specs.Updates.{Update, DeleteAllRecords, DeleteRecord, AddRecord, BeginBatchDelete, BeginBatchAdd, Finished, Progress, UpdateFault, AfterFinish, edited, apply, apply_update}
use Rattle.xfr_model.specs.Read.{Item, Good, Bad, request_fault}
use Rattle.xfr_model.specs.Machine.{Place, AtStart, AtSecond, InWhole, InDeletes, InAdds, AtEnd, Run, went, step, end_or_batch, run_items, next_items}
use Rattle.xfr_model.specs.Applying.{NoNumber, within, unless_halted, apply_within}
use Rattle.xfr_course.specs.Outcome.{room}
use Rattle.xfr_course.specs.Client.{Client, IsBetween}
use Rattle.xfr_client.specs.SoFar.{Asking, asked_id, asked_question, checked_so_far, client_so_far}
use Rattle.xfr_client.specs.Standing.{IsInWhole, ReadsWhole, ExchangeStands}
use Rattle.xfr_client.specs.Steps.{commit_after, StaysStill, KeepsWish}
use Rattle.xfr_client.specs.declared.exchange.Exchange.{Exchange}
use Rattle.xfr_client.proofs.Standings.{course, between, run_next, message_moves}

-- updates of a whole text before its end
abbrev IsOfWhole : Update → Type 0
IsOfWhole DeleteAllRecords = Unit {0}
IsOfWhole (DeleteRecord r) = ⊥
IsOfWhole (AddRecord r) = Unit {0}
IsOfWhole (BeginBatchDelete r) = ⊥
IsOfWhole (BeginBatchAdd r) = ⊥
IsOfWhole (Finished r) = ⊥

abbrev AreOfWhole : List Update → Type 0
AreOfWhole [] = Unit {0}
AreOfWhole (u ∷ more) = IsOfWhole u × AreOfWhole more

-- they commit nothing
abbrev SameIf : Progress → Result Progress UpdateFault → Type 0
SameIf p (Ok q) = q.committed ≡ p.committed
SameIf p (Err e) = Unit {0}

edited_same : (p : Progress) (o : Result Version Refusal) → SameIf p (edited p o)
edited_same p (Ok v) = refl
edited_same p (Err e) = tt

apply_same : (p : Progress) (u : Update) → IsOfWhole u → SameIf p (apply p u)
apply_same p DeleteAllRecords h = refl
apply_same p (DeleteRecord r) h = absurd h
apply_same p (AddRecord r) h =
    elim (p.replacing && under r.owner p.pending.apex && has_data p.pending r) as (λ b. SameIf p (if b then Ok p else edited p (add p.pending r))) [
      | true ↦ refl
      | false ↦ edited_same p (add p.pending r)
    ]
apply_same p (BeginBatchDelete r) h = absurd h
apply_same p (BeginBatchAdd r) h = absurd h
apply_same p (Finished r) h = absurd h

update_same : (p : Progress) (u : Update) → IsOfWhole u → SameIf p (apply_update p u)
update_same p u h =
    elim p.finished as (λ b. SameIf p (if b then Err AfterFinish else apply p u)) [
      | true ↦ tt
      | false ↦ apply_same p u h
    ]

all_same : (limit : ℕ) (us : List Update) (p : Progress) → AreOfWhole us → (apply_within limit p us).progress.committed ≡ p.committed
all_same limit [] p h = refl
all_same limit (u ∷ more) p h = by (apply_update p u) (update_same p u h.0) (λ q. all_same limit more q h.1)
  where
    by : (o : Result Progress UpdateFault) → SameIf p o → ((q : Progress) → (apply_within limit q more).progress.committed ≡ q.committed)
        → (unless_halted p (λ q. apply_within limit q more) (within limit o)).progress.committed ≡ p.committed
    by (Ok q) s next =
        elim (nat_lt limit (length q.committed)) as (λ b. (unless_halted p (λ x. apply_within limit x more) (if b then Err NoNumber else Ok q)).progress.committed ≡ p.committed) [
          | true ↦ refl
          | false ↦ next q ∙ s
        ]
    by (Err e) s next = refl

two_of_whole : (us vs : List Update) → AreOfWhole us → AreOfWhole vs → AreOfWhole (us ++ vs)
two_of_whole [] vs h k = k
two_of_whole (u ∷ more) vs h k = (h.0, two_of_whole more vs h.1 k)

-- ---- what leads into a whole text

-- once a batch has begun, or the end was read, a text isn't whole
abbrev pub may_be_whole : Place → Bool
may_be_whole AtStart = true
may_be_whole (AtSecond s) = true
may_be_whole (InWhole s) = true
may_be_whole (InDeletes s) = false
may_be_whole (InAdds s) = false
may_be_whole AtEnd = false

either_not : (s r : Record) → may_be_whole (end_or_batch s r).place ≡ false
either_not s r = elim (is_same_soa s r) as (λ b. may_be_whole (if b then went AtEnd (Finished r ∷ []) else went (InDeletes s) (BeginBatchDelete r ∷ [])).place ≡ false) [ true ↦ refl | false ↦ refl ]

step_not : (mode : Mode) (p : Place) (r : Record) → may_be_whole p ≡ false → may_be_whole (step mode p r).place ≡ false
step_not mode AtStart r h = absurd (cc h)
step_not mode (AtSecond s) r h = absurd (cc h)
step_not mode (InWhole s) r h = absurd (cc h)
step_not mode (InDeletes s) r h = elim (is_soa r) as (λ b. may_be_whole (if b then went (InAdds s) (BeginBatchAdd r ∷ []) else went (InDeletes s) (DeleteRecord r ∷ [])).place ≡ false) [ true ↦ refl | false ↦ refl ]
step_not mode (InAdds s) r h = elim (is_soa r) as (λ b. may_be_whole (if b then end_or_batch s r else went (InAdds s) (AddRecord r ∷ [])).place ≡ false) [ true ↦ either_not s r | false ↦ refl ]
step_not mode AtEnd r h = refl

run_not : (mode : Mode) (p : Place) (xs : List Item) → may_be_whole p ≡ false → may_be_whole (run_items mode p xs).place ≡ false
run_not mode p [] h = h
run_not mode p (Good r ∷ more) h = run_not mode (step mode p r).place more (step_not mode p r h)
run_not mode p (Bad f ∷ more) h = h

whole_may : (p : Place) → IsInWhole p → may_be_whole p ≡ true
whole_may AtStart h = refl
whole_may (AtSecond s) h = refl
whole_may (InWhole s) h = refl
whole_may (InDeletes s) h = absurd h
whole_may (InAdds s) h = absurd h
whole_may AtEnd h = absurd h

-- one record says updates of a whole text, or leads elsewhere
abbrev Says : Run → Type 0
Says r = AreOfWhole r.updates ⊎ (may_be_whole r.place ≡ false)

either_says : (s r : Record) → Says (end_or_batch s r)
either_says s r = inr (either_not s r)

step_says : (mode : Mode) (p : Place) (r : Record) → Says (step mode p r)
step_says Axfr AtStart r = inl (tt, tt)
step_says Ixfr AtStart r = inl tt
step_says mode (AtSecond s) r = elim (is_soa r) as (λ b. Says (if b then end_or_batch s r else went (InWhole s) (DeleteAllRecords ∷ AddRecord r ∷ []))) [ true ↦ either_says s r | false ↦ inl (tt, (tt, tt)) ]
step_says mode (InWhole s) r = elim (is_same_soa s r) as (λ b. Says (if b then went AtEnd (Finished r ∷ []) else went (InWhole s) (AddRecord r ∷ []))) [ true ↦ inr refl | false ↦ inl (tt, tt) ]
step_says mode (InDeletes s) r = inr (step_not mode (InDeletes s) r refl)
step_says mode (InAdds s) r = inr (step_not mode (InAdds s) r refl)
step_says mode AtEnd r = inr refl

-- what records say that lead there
said : (mode : Mode) (xs : List Item) (p : Place) → IsInWhole (run_items mode p xs).place → AreOfWhole (run_items mode p xs).updates
said mode [] p h = tt
said mode (Bad f ∷ more) p h = tt
said mode (Good r ∷ more) p h = by (step_says mode p r) (said mode more (step mode p r).place h)
  where
    next : Run
    next = run_items mode (step mode p r).place more

    by : Says (step mode p r) → AreOfWhole next.updates → AreOfWhole ((step mode p r).updates ++ next.updates)
    by (inl k) rest = two_of_whole (step mode p r).updates next.updates k rest
    by (inr k) rest = absurd (cc (sym (whole_may next.place h) ∙ run_not mode (step mode p r).place more k))

-- a reply after which the client is in a whole text
none_made : (a : Asking) (taken : List (List ℕ)) (m : List ℕ) → (client_so_far a taken).met ≡ None → IsInWhole (client_so_far a (taken ++ m ∷ [])).place
    → (client_so_far a (taken ++ m ∷ [])).progress.committed ≡ (client_so_far a taken).progress.committed
none_made a taken m unmet whole =
    let cl : Client = client_so_far a taken in
    let moves = message_moves a taken m unmet in
    let r : Run = run_next a taken m in
    let items : List Item = next_items (request_fault (asked_id a) (asked_question a)) cl.begun (checked_so_far m).message in
    ap (λ (p : Progress). p.committed) moves.progress ∙ all_same (room (course a)) r.updates cl.progress (said a.mode items cl.place (subst IsInWhole moves.place whole))

-- between replies to AXFR it always is
between_whole : (begun : Bool) (p : Place) → IsBetween begun p Axfr → begun ≡ true → IsInWhole p
between_whole false p w h = absurd (cc h)
between_whole true AtStart w h = absurd w
between_whole true (AtSecond s) w h = absurd w
between_whole true (InWhole s) w h = tt
between_whole true (InDeletes s) w h = absurd w
between_whole true (InAdds s) w h = absurd w
between_whole true AtEnd w h = absurd w

is_whole : (a : Asking) (taken : List (List ℕ)) (m : List ℕ) → (client_so_far a taken).met ≡ None → (client_so_far a (taken ++ m ∷ [])).met ≡ None → ReadsWhole a (taken ++ m ∷ []) → IsInWhole (client_so_far a (taken ++ m ∷ [])).place
is_whole a taken m unmet next (inr whole) = whole
is_whole a taken m unmet next (inl axfr) =
    let after : Client = client_so_far a (taken ++ m ∷ []) in
    between_whole after.begun after.place (subst (IsBetween after.begun after.place) axfr (between a (taken ++ m ∷ []) next).place) (message_moves a taken m unmet).begun

pub stays_still : (a : Asking) (x y : Exchange) (s t : Session) (before handles now : List Commit) (taken : List (List ℕ)) (m : List ℕ) → ReadsWhole a (taken ++ m ∷ [])
    → ExchangeStands x s a taken before handles → ExchangeStands y t a (taken ++ m ∷ []) before now → KeepsWish s t → StaysStill s t
stays_still a x y s t before handles now taken m whole st next (inl still) = still
stays_still a x y s t before handles now taken m whole st next (inr later) =
    let same : t.current ≡ s.current =
    next.ahead.made.current ∙ ap (commit_after a.base) (none_made a taken m st.unmet (is_whole a taken m st.unmet next.unmet whole)) ∙ sym st.ahead.made.current in
    let number = ap (λ (c : Commit). c.number) same in
    absurd (omega (arith, number, later))
