-- An exchange over streams, read as one over an honest link, and what it delivers.
use Rattle.std.proofs.Common.{◌≡◌, ℕ, ◌≤◌, Bool, true, false, List, [], ◌∷◌, ◌++◌, length, append-nil, refl, sym, ap, ◌∙◌, subst, arith, inl, inr, Option, Some, None, Result, Ok, Err}
use Rattle.std.specs.List.{AllByRecursion}
use Rattle.dns_wire.specs.declared.builder.PushError.TheVariants as push
use Rattle.dns_wire.specs.declared.message.ShortMessage.{ShortMessage}
use Rattle.zone_model.specs.Version.{Version}
use Rattle.zone_model.specs.Commits.{Commit}
use Rattle.zone_reads.specs.Session.{Session}
use Rattle.zone_model.specs.TransferText.{Mode, Axfr, Ixfr}
use Rattle.message_frames.specs.Frames.{frames_of, first_frame, cut_frames}
use Rattle.zone_devices.specs.Calls.{Rose}
use Rattle.zone_devices.specs.Links.{LinkLists, no_lists, IsHonest}
use Rattle.xfr_services.specs.Items.{Sending}
use Rattle.xfr_course.specs.Courses.{has_header}
use Rattle.xfr_client.specs.SoFar.{Asking, asked_octets}
use Rattle.xfr_client.specs.Transfers as client
use Rattle.xfr_client.specs.Transfers.{HasShort, Transfers}
use Rattle.xfr_outcomes.specs.declared.outcome.SyncOk.{SyncOk}
use Rattle.xfr_outcomes.specs.declared.outcome.SyncError.{SyncError}
use Rattle.xfr_outcomes.specs.declared.outcome.SyncError.TheVariants as why
use Rattle.zone_asking.specs.declared.limits.Limits.{Limits}
use Rattle.zone_asking.specs.declared.limits.Limit as kinds
use Rattle.zone_asking.specs.declared.errors.AskError.{AskError}
use Rattle.zone_asking.specs.declared.errors.AskError.TheVariants as ask
use Rattle.zone_asking.specs.Answers.{sync_answer}
use Rattle.zone_asking.specs.Limiting.{Within, passed}
use Rattle.zone_asking.specs.Streams.{GivesFrames, LeavesBy, replies_among}
use Rattle.zone_asking.specs.Exchanges as asking
use Rattle.zone_asking.specs.Exchanges.{Crossing, Exchanges}
use Rattle.zone_asking.specs.Retries.{asks_again, ExchangesByRule}
use Rattle.zone_serving.specs.StreamServing.{SendsJust}
use Rattle.zone_sync.specs.Serving.{SendsAll, RepliedTo, HandedTo, NotReplied}
use Rattle.zone_sync.specs.LinkTransfers.{NotAsked, ComesAfter, SyncSays}
use Rattle.zone_sync.specs.Delivery.{IsGranted, WasHonest, Delivers}
use Rattle.zone_halves.specs.Meeting.{IsWritten, IsSteady, DeliversBy}
use Rattle.zone_halves.proofs.Readings.{is_end, IsFirstPart, first_part, all_read}
use Rattle.zone_halves.proofs.Rooms.{not_full}

-- ---- answers

-- an answer of a reply over streams is one over a link
later_error : (e : SyncError) → asking.ComesLater (Err (ask.Transfer e)) → client.ComesLater (Err e)
later_error why.NoSoa l = absurd l
later_error (why.Request x) l = absurd l
later_error why.LinkFault l = absurd l
later_error why.Ended l = tt
later_error (why.Short x) l = tt
later_error (why.Primary x) l = absurd l
later_error why.TooManyMessages l = tt
later_error (why.Tsig x) l = tt
later_error why.OtherAnswer l = tt
later_error (why.Xfr x) l = tt
later_error (why.Iteration x) l = tt
later_error (why.Update x) l = tt
later_error why.VersionsExhausted l = tt
later_error why.Memory l = tt

later : (answer : Result SyncOk AskError) → asking.ComesLater answer → client.ComesLater (sync_answer answer)
later (Ok x) l = tt
later (Err (ask.Transfer e)) l = later_error e l
later (Err (ask.Response c)) l = tt
later (Err ask.Cut) l = tt
later (Err (ask.Limit which)) l = tt
later (Err ask.FullSet) l = tt
later (Err ask.SourceFault) l = tt
later (Err ask.SinkFault) l = tt

after : (answer : Result SyncOk SyncError) → client.ComesLater answer → ComesAfter answer
after (Ok x) l = tt
after (Err why.NoSoa) l = absurd l
after (Err (why.Request x)) l = absurd l
after (Err why.LinkFault) l = tt
after (Err why.Ended) l = tt
after (Err (why.Short x)) l = tt
after (Err (why.Primary x)) l = tt
after (Err why.TooManyMessages) l = tt
after (Err (why.Tsig x)) l = tt
after (Err why.OtherAnswer) l = tt
after (Err (why.Xfr x)) l = tt
after (Err (why.Iteration x)) l = tt
after (Err (why.Update x)) l = tt
after (Err why.VersionsExhausted) l = tt
after (Err why.Memory) l = tt

abbrev carried : Result SyncOk SyncError → Result SyncOk AskError
carried (Ok done) = Ok done
carried (Err e) = Err (ask.Transfer e)

shorts : (answer : Result SyncOk AskError) (replies : List (List ℕ)) → ((e : ShortMessage) → answer ≡ Err (ask.Transfer (why.Short e)) → HasShort replies) → (e : ShortMessage) → sync_answer answer ≡ Err (why.Short e) → HasShort replies
shorts (Ok x) replies k e h = absurd (cc h)
shorts (Err (ask.Transfer x)) replies k e h = k e (ap carried h)
shorts (Err (ask.Response c)) replies k e h = absurd (cc h)
shorts (Err ask.Cut) replies k e h = absurd (cc h)
shorts (Err (ask.Limit which)) replies k e h = absurd (cc h)
shorts (Err ask.FullSet) replies k e h = absurd (cc h)
shorts (Err ask.SourceFault) replies k e h = absurd (cc h)
shorts (Err ask.SinkFault) replies k e h = absurd (cc h)

-- no fault is told of a link where no stream failed
not_a_fault : (answer : Result SyncOk AskError) → asking.ComesLater answer → IsSteady answer → sync_answer answer ≡ Err why.LinkFault → ⊥
not_a_fault (Ok x) l st h = cc h
not_a_fault (Err (ask.Transfer e)) l st h = subst (λ e. asking.ComesLater (Err (ask.Transfer e))) (ap error_of h) l
  where
    error_of : Result SyncOk SyncError → SyncError
    error_of (Ok x) = e
    error_of (Err x) = x
not_a_fault (Err (ask.Response c)) l st h = cc h
not_a_fault (Err ask.Cut) l st h = cc h
not_a_fault (Err (ask.Limit which)) l st h = cc h
not_a_fault (Err ask.FullSet) l st h = cc h
not_a_fault (Err ask.SourceFault) l st h = st.source refl
not_a_fault (Err ask.SinkFault) l st h = st.sink refl

-- what is delivered over a link is delivered over streams
delivered_error : (v : Version) (s : Session) (e : SyncError) → Delivers v s (Err e) → DeliversBy v s (Err (ask.Transfer e))
delivered_error v s why.NoSoa d = absurd d
delivered_error v s (why.Request x) d = absurd d
delivered_error v s why.LinkFault d = absurd d
delivered_error v s why.Ended d = absurd d
delivered_error v s (why.Short x) d = absurd d
delivered_error v s (why.Primary x) d = absurd d
delivered_error v s why.TooManyMessages d = absurd d
delivered_error v s (why.Tsig x) d = absurd d
delivered_error v s why.OtherAnswer d = absurd d
delivered_error v s (why.Xfr x) d = absurd d
delivered_error v s (why.Iteration x) d = absurd d
delivered_error v s (why.Update x) d = absurd d
delivered_error v s why.VersionsExhausted d = absurd d
delivered_error v s why.Memory d = tt

delivered_by : (v : Version) (s : Session) (answer : Result SyncOk AskError) → (answer ≡ Err ask.FullSet → ⊥) → Delivers v s (sync_answer answer) → DeliversBy v s answer
delivered_by v s (Ok x) full d = d
delivered_by v s (Err (ask.Transfer e)) full d = delivered_error v s e d
delivered_by v s (Err (ask.Response c)) full d = absurd d
delivered_by v s (Err ask.Cut) full d = absurd d
delivered_by v s (Err (ask.Limit which)) full d = absurd d
delivered_by v s (Err ask.FullSet) full d = absurd (full refl)
delivered_by v s (Err ask.SourceFault) full d = absurd d
delivered_by v s (Err ask.SinkFault) full d = absurd d

-- a second exchange isn't made after what is delivered
not_again : (mode : Mode) (v : Version) (s : Session) (answer : Result SyncOk AskError) → DeliversBy v s answer → asks_again mode answer ≡ true → ⊥
not_again Axfr v s answer d h = cc h
not_again Ixfr v s (Ok x) d h = cc h
not_again Ixfr v s (Err (ask.Transfer e)) d h = by e d h
  where
    by : (e : SyncError) → DeliversBy v s (Err (ask.Transfer e)) → asks_again Ixfr (Err (ask.Transfer e)) ≡ true → ⊥
    by why.NoSoa d h = d
    by (why.Request x) d h = d
    by why.LinkFault d h = d
    by why.Ended d h = d
    by (why.Short x) d h = d
    by (why.Primary x) d h = d
    by why.TooManyMessages d h = d
    by (why.Tsig x) d h = d
    by why.OtherAnswer d h = d
    by (why.Xfr x) d h = d
    by (why.Iteration x) d h = d
    by (why.Update x) d h = d
    by why.VersionsExhausted d h = d
    by why.Memory d h = cc h
not_again Ixfr v s (Err (ask.Response c)) d h = d
not_again Ixfr v s (Err ask.Cut) d h = d
not_again Ixfr v s (Err (ask.Limit which)) d h = d
not_again Ixfr v s (Err ask.FullSet) d h = d
not_again Ixfr v s (Err ask.SourceFault) d h = d
not_again Ixfr v s (Err ask.SinkFault) d h = d

steady_again : (mode : Mode) (answer : Result SyncOk AskError) → asks_again mode answer ≡ true → IsSteady answer
steady_again mode answer h = record { source = λ e. no_source mode (ap (asks_again mode) (sym e) ∙ h); sink = λ e. no_sink mode (ap (asks_again mode) (sym e) ∙ h) }
  where
    no_source : (mode : Mode) → asks_again mode (Err ask.SourceFault) ≡ true → ⊥
    no_source Axfr h = cc h
    no_source Ixfr h = cc h

    no_sink : (mode : Mode) → asks_again mode (Err ask.SinkFault) ≡ true → ⊥
    no_sink Axfr h = cc h
    no_sink Ixfr h = cc h

-- ---- the exchange as one over a link

-- what a link would have told: the request, and the messages, of which so many were handed on
abbrev link_of : List ℕ → List (List ℕ) → List (List ℕ) → Bool → LinkLists
link_of request messages replies ended = record {
  requests = record { taken = request ∷ []; handed = request ∷ []; ended = false };
  replies = record { taken = messages; handed = replies; ended = ended };
}

honest : (request : List ℕ) (messages replies rest : List (List ℕ)) (ended : Bool) → messages ≡ replies ++ rest → (ended ≡ true → replies ≡ messages) → IsHonest no_lists (link_of request messages replies ended) 0 0
honest request messages replies rest ended joined whole = record {
  requests = record { in_order = ([], refl); to_the_end = λ h. refl };
  replies = record { in_order = (rest, joined); to_the_end = whole };
  no_fault = refl;
}

idle : IsHonest no_lists no_lists 0 0
idle = record {
  requests = record { in_order = ([], refl); to_the_end = λ h. refl };
  replies = record { in_order = ([], refl); to_the_end = λ h. refl };
  no_fault = refl;
}

-- all that a primary sends answers each answer of a reply
replied_to : (Sends : Option (List Sending) → Type 0) (messages : List (List ℕ)) (answer : Result SyncOk SyncError) → SendsAll Sends messages → client.ComesLater answer → RepliedTo Sends messages answer
replied_to Sends messages (Ok x) all l = all
replied_to Sends messages (Err why.NoSoa) all l = absurd l
replied_to Sends messages (Err (why.Request x)) all l = absurd l
replied_to Sends messages (Err why.LinkFault) all l = inr (record { items = all.items; sends = all.sends; rest = []; part = ap (λ s. s.messages) all.all ∙ sym (append-nil messages) })
replied_to Sends messages (Err why.Ended) all l = all
replied_to Sends messages (Err (why.Short x)) all l = all
replied_to Sends messages (Err (why.Primary x)) all l = absurd l
replied_to Sends messages (Err why.TooManyMessages) all l = all
replied_to Sends messages (Err (why.Tsig x)) all l = all
replied_to Sends messages (Err why.OtherAnswer) all l = all
replied_to Sends messages (Err (why.Xfr x)) all l = all
replied_to Sends messages (Err (why.Iteration x)) all l = all
replied_to Sends messages (Err (why.Update x)) all l = all
replied_to Sends messages (Err why.VersionsExhausted) all l = all
replied_to Sends messages (Err why.Memory) all l = inr (record { items = all.items; sends = all.sends; rest = []; part = ap (λ s. s.messages) all.all ∙ sym (append-nil messages) })

-- a request that wasn't made
unmade_error : (a : Asking) (e : SyncError) → asking.IsUnmade a (Err (ask.Transfer e)) → NotAsked a 65535 (Err e) × ((replies : List (List ℕ)) → replies ≡ [] → NotReplied [] replies (Err e))
unmade_error a why.NoSoa h = (h, λ replies n. (refl, n))
unmade_error a (why.Request push.ShortBuf) h = (h, λ replies n. (refl, n))
unmade_error a (why.Request push.CountOverflow) h = absurd h
unmade_error a (why.Request push.Memory) h = absurd h
unmade_error a why.LinkFault h = absurd h
unmade_error a why.Ended h = absurd h
unmade_error a (why.Short x) h = absurd h
unmade_error a (why.Primary x) h = absurd h
unmade_error a why.TooManyMessages h = absurd h
unmade_error a (why.Tsig x) h = absurd h
unmade_error a why.OtherAnswer h = absurd h
unmade_error a (why.Xfr x) h = absurd h
unmade_error a (why.Iteration x) h = absurd h
unmade_error a (why.Update x) h = absurd h
unmade_error a why.VersionsExhausted h = absurd h
unmade_error a why.Memory h = (tt, λ replies n. (refl, n))

unmade : (a : Asking) (answer : Result SyncOk AskError) → asking.IsUnmade a answer → NotAsked a 65535 (sync_answer answer) × ((replies : List (List ℕ)) → replies ≡ [] → NotReplied [] replies (sync_answer answer))
unmade a (Ok x) h = absurd h
unmade a (Err (ask.Transfer e)) h = unmade_error a e h
unmade a (Err (ask.Response c)) h = absurd h
unmade a (Err ask.Cut) h = absurd h
unmade a (Err (ask.Limit which)) h = absurd h
unmade a (Err ask.FullSet) h = absurd h
unmade a (Err ask.SourceFault) h = absurd h
unmade a (Err ask.SinkFault) h = absurd h

unmade_not_ended : (a : Asking) (answer : Result SyncOk AskError) → asking.IsUnmade a answer → sync_answer answer ≡ Err why.Ended → ⊥
unmade_not_ended a (Ok x) h e = h
unmade_not_ended a (Err (ask.Transfer x)) h e = subst (λ r. asking.IsUnmade a (carried r)) e h
unmade_not_ended a (Err (ask.Response c)) h e = h
unmade_not_ended a (Err ask.Cut) h e = h
unmade_not_ended a (Err (ask.Limit which)) h e = h
unmade_not_ended a (Err ask.FullSet) h e = h
unmade_not_ended a (Err ask.SourceFault) h e = h
unmade_not_ended a (Err ask.SinkFault) h e = h

unmade_not_fault : (a : Asking) (answer : Result SyncOk AskError) → asking.IsUnmade a answer → sync_answer answer ≡ Err why.LinkFault → ⊥
unmade_not_fault a (Ok x) h e = h
unmade_not_fault a (Err (ask.Transfer x)) h e = subst (λ r. asking.IsUnmade a (carried r)) e h
unmade_not_fault a (Err (ask.Response c)) h e = h
unmade_not_fault a (Err ask.Cut) h e = h
unmade_not_fault a (Err (ask.Limit which)) h e = h
unmade_not_fault a (Err ask.FullSet) h e = h
unmade_not_fault a (Err ask.SourceFault) h e = h
unmade_not_fault a (Err ask.SinkFault) h e = h

-- ---- what it delivers

module _ (written : (messages : List (List ℕ)) → AllByRecursion (λ m. length m ≤ 65535) messages → cut_frames (frames_of messages) ≡ record { messages = messages; left = [] })
    (cuts_none : (octets : List ℕ) → first_frame octets ≡ None → cut_frames octets ≡ record { messages = []; left = octets })
    (beyond : (limits : Limits) (before : List (List ℕ)) (m : List ℕ) (which : kinds.Limit) → passed limits before m ≡ Some which → ¬ Within limits (before ++ m ∷ []))
    (none_over : (read : List (List ℕ)) → replies_among None read ≡ read)
    (headed : (a : Asking) → has_header (asked_octets a) ≡ true)
    (Sends : List ℕ → Option (List Sending) → Type 0) (a : Asking) (at : ℕ) (v : Version)
    (delivered : (old new : Option LinkLists) (f g : ℕ) (before handles : List Commit) (s : Session) (answer : Result SyncOk SyncError) → IsGranted Sends a at 65535 v → WasHonest old new f g
    → SyncSays Sends a 65535 old new before handles s answer → (answer ≡ Err why.LinkFault → Rose f g) → Delivers v s answer)
    (grant : IsGranted Sends a at 65535 v) where
  module _ (limits : Limits) (before handles : List Commit) (s : Session) (answer : Result SyncOk AskError) where
    -- the request went out, and this much of what the primary writes was read
    sent : (messages replies : List (List ℕ)) (rest : List ℕ) (new : Option (List ℕ)) → SendsJust (Sends (asked_octets a)) false messages → Within limits messages → IsFirstPart messages replies rest
        → LeavesBy limits replies answer (Some rest) new → (x : Crossing) → asking.Sent a x answer → Transfers a replies before handles s (sync_answer answer)
        → ((e : ShortMessage) → answer ≡ Err (ask.Transfer (why.Short e)) → HasShort replies) → IsSteady answer → Delivers v s (sync_answer answer)
    sent messages replies rest new just within part leaves x u transfers short steady =
        let q = asked_octets a in
        let ended = is_end (sync_answer answer) in
        let l = later answer u.later in
        let all : SendsAll (Sends q) messages = record { items = just.items; sends = just.sends; all = just.just } in
        let whole : ended ≡ true → replies ≡ messages = λ h. all_read written cuts_none beyond limits messages replies rest new answer within part leaves h in
        delivered (Some no_lists) (Some (link_of q messages replies ended)) 0 0 before handles s (sync_answer answer) grant
        (honest q messages replies (cut_frames rest).messages ended part.joined whole, omega arith)
        (record {
          asked = q ∷ [];
          heard = q ∷ [];
          sent = messages;
          replies = replies;
          link = record { requests = record { taken = refl; handed = refl }; replies = record { taken = refl; handed = refl } };
          request = inl (u.can, after (sync_answer answer) l, refl);
          served = subst (λ b. HandedTo b (Sends q) messages replies (sync_answer answer)) (sym (headed a)) (replied_to (Sends q) messages (sync_answer answer) all l);
          transfers = transfers;
          short = λ e h. inr (shorts answer replies short e h);
          ended = λ h. ap is_end h;
        })
        (λ h. absurd (not_a_fault answer u.later steady h))

    -- it wasn't made
    not_made : (replies : List (List ℕ)) → asking.IsUnmade a answer → replies ≡ [] → Transfers a replies before handles s (sync_answer answer)
        → ((e : ShortMessage) → answer ≡ Err (ask.Transfer (why.Short e)) → HasShort replies) → Delivers v s (sync_answer answer)
    not_made replies cause none transfers short =
        let k = unmade a answer cause in
        delivered (Some no_lists) (Some no_lists) 0 0 before handles s (sync_answer answer) grant
        (idle, omega arith)
        (record {
          asked = [];
          heard = [];
          sent = [];
          replies = replies;
          link = record { requests = record { taken = refl; handed = refl }; replies = record { taken = refl; handed = sym none } };
          request = inr (k.0, refl, refl);
          served = k.1 replies none;
          transfers = transfers;
          short = λ e h. inr (shorts answer replies short e h);
          ended = λ h. absurd (unmade_not_ended a answer cause h);
        })
        (λ h. absurd (unmade_not_fault a answer cause h))

    pub exchange_delivers : (x : Crossing) → Exchanges limits None a x before handles s answer → IsWritten (Sends (asked_octets a)) limits a x.left_old → IsSteady answer → DeliversBy v s answer
    exchange_delivers x k w steady = by k.asks
      where
        -- no set was full, since the replies are a first part of what was written
        no_full : (rest : List (List ℕ)) → w.writes.messages ≡ k.replies ++ rest → answer ≡ Err ask.FullSet → ⊥
        no_full rest part h = not_full limits.set_records a w.writes.messages k.replies rest before handles s w.taken.room part (k.full h)

        read_so : (rest : Option (List ℕ)) → GivesFrames k.reads.read (Some (frames_of w.writes.messages)) rest → LeavesBy limits k.reads.read answer rest x.left_new → asking.Sent a x answer → DeliversBy v s answer
        read_so None g l u = absurd g
        read_so (Some rest) g l u =
            let same : k.reads.read ≡ k.replies = sym (k.reads.among ∙ none_over k.reads.read) in
            let part : IsFirstPart w.writes.messages k.replies rest
            = subst (λ r. IsFirstPart w.writes.messages r rest) same (first_part written cuts_none beyond w.writes.messages k.reads.read rest w.taken.short g) in
            delivered_by v s answer (no_full (cut_frames rest).messages part.joined)
            (sent w.writes.messages k.replies rest x.left_new w.writes.sends w.taken.within part (subst (λ r. LeavesBy limits r answer (Some rest) x.left_new) same l) x u k.transfers k.short steady)

        by : asking.Asks a k.replies x answer → DeliversBy v s answer
        by (inl u) = delivered_by v s answer (no_full w.writes.messages (ap (λ r. r ++ w.writes.messages) (sym u.none))) (not_made k.replies u.cause u.none k.transfers k.short)
        by (inr (inl u)) = absurd (steady.sink u.failed)
        by (inr (inr u)) = read_so k.reads.rest (subst (λ o. GivesFrames k.reads.read o k.reads.rest) w.writes.frames k.reads.frames) k.reads.leaves u

-- .. nor is a second exchange made
pub rule_delivers : (limits : Limits) (a : Asking) (v : Version) (x : Crossing) (before handles : List Commit) (s : Session) (answer : Result SyncOk AskError) (Written : Option (List ℕ) → Type 0)
    → ((y : Crossing) (later : List Commit) (t : Session) (r : Result SyncOk AskError) → Exchanges limits None a y before later t r → Written y.left_old → IsSteady r → DeliversBy v t r)
    → ExchangesByRule limits a x before handles s answer → Written x.left_old → IsSteady answer → DeliversBy v s answer
rule_delivers limits a v x before handles s answer Written one (inl k) w steady = one x handles s answer k.0 w steady
rule_delivers limits a v x before handles s answer Written one (inr t) w steady =
    absurd (not_again a.mode v t.between t.first (one (asking.crossing x.left_old t.left x.taken_old t.taken) t.made t.between t.first t.one w (steady_again a.mode t.first t.again)) t.again)
