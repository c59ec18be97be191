-- What replies come to, one after the other: the transfer that ends with one of them, or goes on.
use Rattle.std.proofs.Common.{◌≡◌, ℕ, ◌<◌, ◌≤◌, Bool, true, false, ◌==◌, if◌then◌else◌, List, [], ◌∷◌, ◌++◌, map, length, append-nil, refl, sym, ap, ◌∙◌, subst, arith, Option, Some, None, Result, Ok, Err, inl, inr}
use Rattle.std.specs.Prelude.{unwrap_or}
use Rattle.std.specs.Option.{option_map_or}
use Rattle.std.proofs.lemmas.List.{map-append}
use Rattle.zone_model.specs.Version.{Version}
use Rattle.zone_model.specs.Commits.{Commit}
use Rattle.zone_reads.specs.Session.{Session}
use Rattle.xfr_model.specs.Read.{Fault, OtherAnswer, NotValid, Malformed, Unreadable, AfterEnd, Refused}
use Rattle.zone_model.specs.Updates.{Edit, NotSoaRecord, AfterFinish}
use Rattle.xfr_model.specs.Machine.{is_at_end, Run, signal_of}
use Rattle.xfr_model.specs.Applying.{Halt, Denied, NoNumber, Held, apply_within}
use Rattle.xfr_course.specs.Outcome.{Outcome, Updated, UpToDate, NoSoa, RequestTooLong, LinkFault, Ended, Short, Primary, TooManyMessages, Tsig, Reading, RetrySignal, VersionsExhausted, Checked, Course, outcome, made, room, base_serial}
use Rattle.xfr_course.specs.Courses.{has_header, most_replies, stop_after}
use Rattle.xfr_course.specs.Client.{new_client, take_course, run_message, IsPart, halt_outcome, met_after}
use Rattle.xfr_course.proofs.ClientParts.{part_is_made}
use Rattle.xfr_client.specs.SoFar.{Asking, asked_course, checked_so_far, fault_so_far, course_so_far, client_so_far}
use Rattle.xfr_client.specs.Steps.{HasMade, RanOut}
use Rattle.xfr_client.specs.Standing.{ClientState, Passed, Meets, Stands, RefusesReply, TakesReply}
use Rattle.xfr_client.specs.Ending.{answer_of}
use Rattle.xfr_client.specs.Transfers.{given_up, course_answered, AreSpelt, Transfers, ComesLater}
use Rattle.xfr_outcomes.specs.declared.outcome.SyncOk.{SyncOk}
use Rattle.xfr_outcomes.specs.declared.outcome.SyncError.{SyncError}
use Rattle.xfr_outcomes.specs.declared.outcome.SyncError.TheVariants as why
use Rattle.xfr_client.proofs.Standings.{one_passed, course, run_next, client_taken}
use Rattle.xfr_client.proofs.Outcomes.{same_takes, comes, passed_course, failed_course, short_course, stop_few, stop_many}

-- what a course comes to
pub record Amounts (c : Course) (o : Outcome) (versions : List Version) : Type 0 where
  pub outcome : outcome c ≡ o
  pub made : made c ≡ versions

-- replies that all passed, none of which meets an outcome, or the last one
pub amounts : (a : Asking) (ks : List (List ℕ)) (gave : Outcome) (stop o : Outcome) → Passed (fault_so_far a) ks → length ks ≤ most_replies → stop_after gave ks None ≡ stop → unwrap_or (client_so_far a ks).met stop ≡ o
    → Amounts (course_so_far a ks gave) o (client_so_far a ks).progress.committed
amounts a ks gave stop o p few s h =
    let c = passed_course a ks gave p few in
    let k = comes a ks (stop_after gave ks None) in
    record {
      outcome = ap outcome c ∙ k.outcome ∙ ap (unwrap_or (client_so_far a ks).met) s ∙ h;
      made = ap made c ∙ k.made;
    }

-- the last one is refused by its signature, or is no message
amounts_failed : (a : Asking) (ks : List (List ℕ)) (c : Course) (stop : Outcome) → c ≡ asked_course a (map checked_so_far ks) stop → (client_so_far a ks).met ≡ None → Amounts c stop (client_so_far a ks).progress.committed
amounts_failed a ks c stop is unmet =
    let k = comes a ks stop in
    record { outcome = ap outcome is ∙ k.outcome ∙ ap (λ o. unwrap_or o stop) unmet; made = ap made is ∙ k.made }

meets : (a : Asking) (taken : List (List ℕ)) (m : List ℕ) (answer : Result SyncOk SyncError) (gave : Outcome) → Passed (fault_so_far a) taken → length (taken ++ m ∷ []) ≤ most_replies → (x : Meets a taken m answer)
    → Amounts (course_so_far a (taken ++ m ∷ []) gave) x.outcome (client_so_far a (taken ++ m ∷ [])).progress.committed
meets a taken m answer gave p few x =
    amounts a (taken ++ m ∷ []) gave (stop_after gave (taken ++ m ∷ []) None) x.outcome (one_passed (fault_so_far a) taken m p x.sound x.headed) few refl (ap (λ y. unwrap_or y (stop_after gave (taken ++ m ∷ []) None)) x.met)

-- versions that are those made
spelt_all : (c : Course) (answer : Result SyncOk SyncError) (versions : List Version) → versions ≡ made c → AreSpelt c answer versions
spelt_all c (Err why.Memory) versions h = record { rest = []; is = sym h ∙ sym (append-nil versions) }
spelt_all c (Ok done) versions h = h
spelt_all c (Err why.NoSoa) versions h = h
spelt_all c (Err (why.Request x)) versions h = h
spelt_all c (Err why.LinkFault) versions h = h
spelt_all c (Err why.Ended) versions h = h
spelt_all c (Err (why.Short x)) versions h = h
spelt_all c (Err (why.Primary x)) versions h = h
spelt_all c (Err why.TooManyMessages) versions h = h
spelt_all c (Err (why.Tsig x)) versions h = h
spelt_all c (Err why.OtherAnswer) versions h = h
spelt_all c (Err (why.Xfr x)) versions h = h
spelt_all c (Err (why.Iteration x)) versions h = h
spelt_all c (Err (why.Update x)) versions h = h
spelt_all c (Err why.VersionsExhausted) versions h = h

-- a course that comes to the outcome that is answered
pub comes_to : (a : Asking) (replies : List (List ℕ)) (before handles : List Commit) (s : Session) (answer : Result SyncOk SyncError) (o : Outcome) (versions : List Version)
    → Amounts (course_answered a replies answer) o versions → answer ≡ answer_of o → HasMade a.base before s handles versions → Transfers a replies before handles s answer
comes_to a replies before handles s answer o versions k is made = record {
  versions = versions;
  spelt = spelt_all (course_answered a replies answer) answer versions (sym k.made);
  made = made;
  answers = inr (is ∙ ap answer_of (sym k.outcome));
}

-- ---- want of memory

pub so_far : (a : Asking) (taken : List (List ℕ)) (stop : Outcome) → take_course (asked_course a [] stop) (new_client (asked_course a [] stop)) (map checked_so_far taken) ≡ client_so_far a taken
unfolding client_so_far
so_far a taken stop = same_takes a [] [] stop Ended (new_client (asked_course a [] Ended)) (map checked_so_far taken)

same_part : (v w : List Version) → w ≡ v → IsPart v w
same_part v w h = record { rest = []; is = h ∙ sym (append-nil v) }

ran_out : (a : Asking) (s : Session) (before handles : List Commit) (taken : List (List ℕ)) (m : List ℕ) (gave : Outcome) → Passed (fault_so_far a) taken → length (taken ++ m ∷ []) ≤ most_replies → (client_so_far a taken).met ≡ None
    → has_header m ≡ true → fault_so_far a taken m ≡ None
    → (r : RanOut a.base before s handles (client_so_far a taken).progress (run_message (asked_course a [] Ended) (client_so_far a taken) (checked_so_far m)).updates) → IsPart r.progress.committed (made (course_so_far a (taken ++ m ∷ []) gave))
ran_out a s before handles taken m gave p few unmet headed sound r =
    let stop : Outcome = stop_after gave (taken ++ m ∷ []) None in
    let c : Course = asked_course a [] stop in
    let ks : List Checked = map checked_so_far taken in
    let is = so_far a taken stop in
    let part = part_is_made c ks (checked_so_far m) [] r.led.done r.left (ap (λ x. x.met) is ∙ unmet) (ap (λ x. (run_message c x (checked_so_far m)).updates) is ∙ r.led.joined) in
    let whole : course_so_far a (taken ++ m ∷ []) gave ≡ asked_course a (ks ++ checked_so_far m ∷ []) stop =
    passed_course a (taken ++ m ∷ []) gave (one_passed (fault_so_far a) taken m p sound headed) few ∙ ap (λ l. asked_course a l stop) (map-append checked_so_far taken (m ∷ [])) in
    let short : (apply_within (room c) (take_course c (new_client c) ks).progress r.led.done).progress.committed ≡ r.progress.committed =
    ap (λ x. (apply_within (room c) x.progress r.led.done).progress.committed) is ∙ ap (λ x. x.progress.committed) r.led.led in
    record { rest = part.rest; is = ap made whole ∙ part.is ∙ ap (λ l. l ++ part.rest) short }

-- ---- the transfer that ends with a reply

meets_so : (a : Asking) (s : Session) (before handles : List Commit) (taken : List (List ℕ)) (m : List ℕ) (answer : Result SyncOk SyncError) → Passed (fault_so_far a) taken → length (taken ++ m ∷ []) ≤ most_replies
    → Meets a taken m answer → HasMade a.base before s handles (client_so_far a (taken ++ m ∷ [])).progress.committed → Transfers a (taken ++ m ∷ []) before handles s answer
meets_so a s before handles taken m answer p few x made =
    comes_to a (taken ++ m ∷ []) before handles s answer x.outcome (client_so_far a (taken ++ m ∷ [])).progress.committed (meets a taken m answer (given_up answer) p few x) x.answers made

pub refuses : (a : Asking) (s : Session) (before handles : List Commit) (taken : List (List ℕ)) (m : List ℕ) (e : SyncError) → Passed (fault_so_far a) taken → (client_so_far a taken).met ≡ None → length (taken ++ m ∷ []) ≤ most_replies
    → RefusesReply a s before handles taken m e → Transfers a (taken ++ m ∷ []) before handles s (Err e)
refuses a s before handles taken m (why.Short x) p unmet few r =
    comes_to a (taken ++ m ∷ []) before handles s (Err (why.Short x)) Short (client_so_far a taken).progress.committed
    (amounts_failed a taken (course_so_far a (taken ++ m ∷ []) Short) Short (short_course a taken m Short p r.0 few) unmet) refl r.1.made
refuses a s before handles taken m (why.Tsig x) p unmet few r =
    comes_to a (taken ++ m ∷ []) before handles s (Err (why.Tsig x)) (Tsig x) (client_so_far a taken).progress.committed
    (amounts_failed a taken (course_so_far a (taken ++ m ∷ []) Ended) (Tsig x) (failed_course a taken m x Ended p r.0 r.1 few) unmet) refl r.2.made
refuses a s before handles taken m why.Memory p unmet few r =
    record { versions = r.0.ran_out.progress.committed; spelt = ran_out a s before handles taken m Ended p few unmet r.0.headed r.0.sound r.0.ran_out; made = r.0.ran_out.made; answers = inl refl }
refuses a s before handles taken m why.NoSoa p unmet few r = meets_so a s before handles taken m (Err why.NoSoa) p few r.0 r.1.made
refuses a s before handles taken m (why.Request x) p unmet few r = meets_so a s before handles taken m (Err (why.Request x)) p few r.0 r.1.made
refuses a s before handles taken m why.LinkFault p unmet few r = meets_so a s before handles taken m (Err why.LinkFault) p few r.0 r.1.made
refuses a s before handles taken m why.Ended p unmet few r = meets_so a s before handles taken m (Err why.Ended) p few r.0 r.1.made
refuses a s before handles taken m (why.Primary x) p unmet few r = meets_so a s before handles taken m (Err (why.Primary x)) p few r.0 r.1.made
refuses a s before handles taken m why.TooManyMessages p unmet few r = meets_so a s before handles taken m (Err why.TooManyMessages) p few r.0 r.1.made
refuses a s before handles taken m why.OtherAnswer p unmet few r = meets_so a s before handles taken m (Err why.OtherAnswer) p few r.0 r.1.made
refuses a s before handles taken m (why.Xfr x) p unmet few r = meets_so a s before handles taken m (Err (why.Xfr x)) p few r.0 r.1.made
refuses a s before handles taken m (why.Iteration x) p unmet few r = meets_so a s before handles taken m (Err (why.Iteration x)) p few r.0 r.1.made
refuses a s before handles taken m (why.Update x) p unmet few r = meets_so a s before handles taken m (Err (why.Update x)) p few r.0 r.1.made
refuses a s before handles taken m why.VersionsExhausted p unmet few r = meets_so a s before handles taken m (Err why.VersionsExhausted) p few r.0 r.1.made

pub finishes : (a : Asking) (c : ClientState) (s : Session) (before handles : List Commit) (taken : List (List ℕ)) (m : List ℕ) (done : SyncOk) → Passed (fault_so_far a) taken → length (taken ++ m ∷ []) ≤ most_replies
    → TakesReply a c s before handles taken m (Ok (Some done)) → Transfers a (taken ++ m ∷ []) before handles s (Ok done)
finishes a c s before handles taken m done p few r = meets_so a s before handles taken m (Ok done) p few r.0 r.1.made

-- ---- the transfer that ends without a further reply

none_comes : (a : Asking) (c : ClientState) (s : Session) (before handles : List Commit) (taken : List (List ℕ)) (gave : Outcome) → Stands c s a taken before handles → length taken < most_replies
    → Amounts (course_so_far a taken gave) gave (client_so_far a taken).progress.committed
none_comes a c s before handles taken gave st few =
    amounts a taken gave gave gave st.stands.passed (omega (arith, few)) (stop_few gave taken st.stands.passed.headed few) (ap (λ o. unwrap_or o gave) st.stands.unmet)

pub link_fails : (a : Asking) (c : ClientState) (s : Session) (before handles : List Commit) (taken : List (List ℕ)) → Stands c s a taken before handles → length taken < most_replies → Transfers a taken before handles s (Err why.LinkFault)
link_fails a c s before handles taken st few =
    comes_to a taken before handles s (Err why.LinkFault) LinkFault (client_so_far a taken).progress.committed (none_comes a c s before handles taken LinkFault st few) refl st.stands.ahead.made

pub link_ends : (a : Asking) (c : ClientState) (s : Session) (before handles : List Commit) (taken : List (List ℕ)) → Stands c s a taken before handles → length taken < most_replies → Transfers a taken before handles s (Err why.Ended)
link_ends a c s before handles taken st few =
    comes_to a taken before handles s (Err why.Ended) Ended (client_so_far a taken).progress.committed (none_comes a c s before handles taken Ended st few) refl st.stands.ahead.made

pub memory_ends : (a : Asking) (c : ClientState) (s : Session) (before handles : List Commit) (taken : List (List ℕ)) → Stands c s a taken before handles → length taken < most_replies → Transfers a taken before handles s (Err why.Memory)
memory_ends a c s before handles taken st few =
    let k = none_comes a c s before handles taken Ended st few in
    record { versions = (client_so_far a taken).progress.committed; spelt = same_part (client_so_far a taken).progress.committed (made (course_so_far a taken Ended)) k.made; made = st.stands.ahead.made; answers = inl refl }

pub too_many : (a : Asking) (c : ClientState) (s : Session) (before handles : List Commit) (taken : List (List ℕ)) → Stands c s a taken before handles → length taken ≡ most_replies → Transfers a taken before handles s (Err why.TooManyMessages)
too_many a c s before handles taken st many =
    comes_to a taken before handles s (Err why.TooManyMessages) TooManyMessages (client_so_far a taken).progress.committed
    (amounts a taken Ended TooManyMessages TooManyMessages st.stands.passed (omega (arith, many)) (stop_many Ended taken st.stands.passed.headed many) (ap (λ o. unwrap_or o TooManyMessages) st.stands.unmet)) refl st.stands.ahead.made

-- ---- no outcome of a message is one of the link, of the primary, or of the request

abbrev by_link : Outcome → Bool
by_link NoSoa = true
by_link LinkFault = true
by_link Ended = true
by_link RequestTooLong = true
by_link Primary = true
by_link _ = false

abbrev may_be_link : Option Outcome → Bool
may_be_link None = false
may_be_link (Some o) = by_link o

halts_elsewhere : (h : Halt) → may_be_link (halt_outcome h) ≡ false
halts_elsewhere NoNumber = refl
halts_elsewhere (Denied (Edit e)) = refl
halts_elsewhere (Denied NotSoaRecord) = refl
halts_elsewhere (Denied AfterFinish) = refl

chosen_elsewhere : (b : Bool) (o p : Outcome) → by_link o ≡ false → by_link p ≡ false → by_link (if b then o else p) ≡ false
chosen_elsewhere true o p x y = x
chosen_elsewhere false o p x y = y

met_elsewhere : (c : Course) (h : Option Halt) (f : Option Fault) (n : Option ℕ) (ended : Bool) → may_be_link (met_after c h f n ended) ≡ false
met_elsewhere c (Some h) f n ended = halts_elsewhere h
met_elsewhere c None (Some f) n ended = refl
met_elsewhere c None None (Some n) ended = chosen_elsewhere (option_map_or (λ k. k == n) (base_serial c) false) UpToDate RetrySignal refl refl
met_elsewhere c None None None true = refl
met_elsewhere c None None None false = refl

-- .. and so of its answer
abbrev is_by_link : Result SyncOk SyncError → Bool
is_by_link (Err why.NoSoa) = true
is_by_link (Err why.LinkFault) = true
is_by_link (Err why.Ended) = true
is_by_link (Err (why.Request x)) = true
is_by_link (Err (why.Primary x)) = true
is_by_link answer = false

answered_by_link : (o : Outcome) → is_by_link (answer_of o) ≡ by_link o
answered_by_link Updated = refl
answered_by_link UpToDate = refl
answered_by_link NoSoa = refl
answered_by_link RequestTooLong = refl
answered_by_link LinkFault = refl
answered_by_link Ended = refl
answered_by_link Short = refl
answered_by_link Primary = refl
answered_by_link TooManyMessages = refl
answered_by_link (Tsig e) = refl
answered_by_link (Reading OtherAnswer) = refl
answered_by_link (Reading NotValid) = refl
answered_by_link (Reading Malformed) = refl
answered_by_link (Reading Unreadable) = refl
answered_by_link (Reading AfterEnd) = refl
answered_by_link (Reading (Refused x)) = refl
answered_by_link RetrySignal = refl
answered_by_link VersionsExhausted = refl

meets_elsewhere : (a : Asking) (taken : List (List ℕ)) (m : List ℕ) (answer : Result SyncOk SyncError) → (client_so_far a taken).met ≡ None → Meets a taken m answer → is_by_link answer ≡ false
meets_elsewhere a taken m answer unmet x =
    let r : Run = run_next a taken m in
    let h : Held = apply_within (room (course a)) (client_so_far a taken).progress r.updates in
    ap is_by_link x.answers ∙ answered_by_link x.outcome
    ∙ ap may_be_link (sym x.met ∙ ap (λ y. y.met) (client_taken a taken m unmet)) ∙ met_elsewhere (course a) h.halt r.fault (signal_of (client_so_far a taken).begun r) (is_at_end r.place)

pub no_link_fault : (a : Asking) (s : Session) (before handles : List Commit) (taken : List (List ℕ)) (m : List ℕ) (e : SyncError) → (client_so_far a taken).met ≡ None → RefusesReply a s before handles taken m e → e ≡ why.LinkFault → ⊥
no_link_fault a s before handles taken m e unmet r is =
    let k = subst (λ (x : SyncError). RefusesReply a s before handles taken m x) is r in
    cc (meets_elsewhere a taken m (Err why.LinkFault) unmet k.0)

pub no_end : (a : Asking) (s : Session) (before handles : List Commit) (taken : List (List ℕ)) (m : List ℕ) (e : SyncError) → (client_so_far a taken).met ≡ None → RefusesReply a s before handles taken m e → e ≡ why.Ended → ⊥
no_end a s before handles taken m e unmet r is =
    let k = subst (λ (x : SyncError). RefusesReply a s before handles taken m x) is r in
    cc (meets_elsewhere a taken m (Err why.Ended) unmet k.0)

pub comes_later : (a : Asking) (s : Session) (before handles : List Commit) (taken : List (List ℕ)) (m : List ℕ) (e : SyncError) → (client_so_far a taken).met ≡ None → RefusesReply a s before handles taken m e → ComesLater (Err e)
comes_later a s before handles taken m (why.Request x) unmet r = absurd (cc (meets_elsewhere a taken m (Err (why.Request x)) unmet r.0))
comes_later a s before handles taken m (why.Primary x) unmet r = absurd (cc (meets_elsewhere a taken m (Err (why.Primary x)) unmet r.0))
comes_later a s before handles taken m why.NoSoa unmet r = absurd (cc (meets_elsewhere a taken m (Err why.NoSoa) unmet r.0))
comes_later a s before handles taken m why.LinkFault unmet r = tt
comes_later a s before handles taken m why.Ended unmet r = tt
comes_later a s before handles taken m (why.Short x) unmet r = tt
comes_later a s before handles taken m why.TooManyMessages unmet r = tt
comes_later a s before handles taken m (why.Tsig x) unmet r = tt
comes_later a s before handles taken m why.OtherAnswer unmet r = tt
comes_later a s before handles taken m (why.Xfr x) unmet r = tt
comes_later a s before handles taken m (why.Iteration x) unmet r = tt
comes_later a s before handles taken m (why.Update x) unmet r = tt
comes_later a s before handles taken m why.VersionsExhausted unmet r = tt
comes_later a s before handles taken m why.Memory unmet r = tt
