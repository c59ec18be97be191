-- Over an honest link to a granting primary a transfer ends well.
use Rattle.std.proofs.Common.{◌≡◌, ℕ, ◌+◌, ◌-◌, ◌^◌, ◌<◌, Bool, true, false, not, ◌&&◌, List, [], ◌∷◌, ◌++◌, length, length-append, drop, append_assoc, append-nil, refl, sym, ap, ◌∙◌, subst, arith, ◌⊎◌, inl, inr, Option, Some, None, is_some, Result, Ok, Err}
use Rattle.std.specs.Prelude.{◌==◌, unwrap_or}
use Rattle.std.specs.List.{last_or, list_all}
use Rattle.dns_wire.specs.declared.message.ShortMessage.{ShortMessage}
use Rattle.dns_numbers.specs.Codes.{type_soa}
use Rattle.dns_rdata.specs.Records.{Field}
use Rattle.dns_wire.specs.declared.builder.PushError.TheVariants.{ShortBuf, CountOverflow, Memory as OutOfMemory}
use Rattle.zone_model.specs.Version.{Version, Same, data_at, first_or_none}
use Rattle.zone_model.specs.Commits.{Commit}
use Rattle.zone_reads.specs.Session.{Session}
use Rattle.zone_model.specs.TransferText.{Mode, Axfr, Ixfr, OnIxfr}
use Rattle.xfr_server.specs.Items.{Sending, sent_by}
use Rattle.xfr_services.specs.declared.services.ServiceError.{ServiceError}
use Rattle.xfr_course.specs.Outcome.{Outcome, Updated, UpToDate, Ended, Short, Course, outcome, made, needs_soa}
use Rattle.xfr_course.specs.Courses.{has_header}
use Rattle.xfr_course.specs.Success.{Succeeds}
use Rattle.zone_devices.specs.Calls.{Rose}
use Rattle.zone_devices.specs.Links.{Way, LinkLists, HandsOn, IsHonest, WentOn}
use Rattle.xfr_client.specs.SoFar.{Asking, asked_octets, lacks_soa, CanAsk, course_so_far}
use Rattle.xfr_client.specs.Steps.{commit_after, HasMade}
use Rattle.xfr_client.specs.Ending.{answer_of}
use Rattle.zone_sync.specs.Serving.{SendsAll, FailsAfter, HasBegun, RepliedTo, NotReplied, IsServed}
use Rattle.xfr_client.specs.Transfers.{given_up, course_answered, AnswersCourse, HasShort}
use Rattle.zone_sync.specs.LinkTransfers.{IsEnded, NotAsked, ComesAfter, Asks, SyncSays}
use Rattle.zone_sync.specs.Fitting.{sent_pages, BaseMatches}
use Rattle.zone_sync.specs.Delivery.{IsGranted, WasHonest, Delivers, Synchronizes}
use Rattle.xfr_outcomes.specs.declared.outcome.SyncOk.{SyncOk}
use Rattle.xfr_outcomes.specs.declared.outcome.SyncError.{SyncError}
use Rattle.xfr_outcomes.specs.declared.outcome.SyncError.TheVariants as why
use Rattle.zone_sync.proofs.Serving.{headed_served}
use Rattle.zone_sync.proofs.HonestRequests.{request_has_header}
use Rattle.zone_sync.proofs.HonestCourses.{Waits, IsPart, part_of}

-- ---- answers

-- where no reply was taken, the answer is one that comes in its place
abbrev is_early : Result SyncOk SyncError → Bool
is_early (Err why.NoSoa) = true
is_early (Err (why.Request e)) = true
is_early (Err why.LinkFault) = true
is_early (Err why.Ended) = true
is_early (Err (why.Short e)) = true
is_early (Err (why.Primary e)) = true
is_early (Err why.Memory) = true
is_early answer = false

in_place : (answer : Result SyncOk SyncError) → answer ≡ answer_of (given_up answer) → is_early answer ≡ true
in_place (Ok x) h = absurd (cc h)
in_place (Err why.NoSoa) h = refl
in_place (Err (why.Request x)) h = refl
in_place (Err why.LinkFault) h = refl
in_place (Err why.Ended) h = refl
in_place (Err (why.Short x)) h = refl
in_place (Err (why.Primary x)) h = refl
in_place (Err why.TooManyMessages) h = absurd (cc h)
in_place (Err (why.Tsig x)) h = absurd (cc h)
in_place (Err why.OtherAnswer) h = absurd (cc h)
in_place (Err (why.Xfr x)) h = absurd (cc h)
in_place (Err (why.Iteration x)) h = absurd (cc h)
in_place (Err (why.Update x)) h = absurd (cc h)
in_place (Err why.VersionsExhausted) h = absurd (cc h)
in_place (Err why.Memory) h = refl

-- success isn't answered by a refusal
not_good : (e : SyncError) (o : Outcome) → Err e ≡ answer_of o → (o ≡ Updated) ⊎ (o ≡ UpToDate) → ⊥
not_good e o h (inl g) = cc (h ∙ ap answer_of g)
not_good e o h (inr g) = cc (h ∙ ap answer_of g)

-- a base with one apex SOA has one to ask with
has_first : (items : List (List Field)) → (length items == 1) ≡ true → is_some (first_or_none items) ≡ true
has_first [] h = absurd (cc h)
has_first (d ∷ more) h = refl

-- ---- what passed

-- a list in front of a list of one
one_prefix : {A : Type 0} (x : A) (xs rest : List A) → x ∷ [] ≡ xs ++ rest → (xs ≡ []) ⊎ (xs ≡ x ∷ [])
one_prefix x [] rest h = inl refl
one_prefix x (y ∷ []) rest h = inr (ap (λ l. first_or x l ∷ []) (sym h))
  where
    first_or : {A : Type 0} → A → List A → A
    first_or d [] = d
    first_or d (z ∷ zs) = z
one_prefix x (y ∷ z ∷ more) rest h = absurd (cc (ap (λ l. has_two l) h))
  where
    has_two : {A : Type 0} → List A → Bool
    has_two [] = false
    has_two (a ∷ []) = false
    has_two (a ∷ b ∷ more) = true

-- a first part of a list
pub record IsFrontOf {A : Type 0} (xs all : List A) : Type 0 where
  pub rest : List A
  pub joined : all ≡ xs ++ rest

no_front : {A : Type 0} (xs all : List A) → xs ≡ [] → IsFrontOf xs all
no_front xs all h = record { rest = all; joined = ap (λ l. l ++ all) (sym h) }

front_of_front : {A : Type 0} (xs ys all : List A) → IsFrontOf xs ys → IsFrontOf ys all → IsFrontOf xs all
front_of_front xs ys all p q = record { rest = p.rest ++ q.rest; joined = q.joined ∙ ap (λ l. l ++ q.rest) p.joined ∙ append_assoc xs p.rest q.rest }

no_rest : {A : Type 0} (xs rest : List A) → xs ≡ xs ++ rest → not (length rest == 0) ≡ true → ⊥
no_rest xs rest h more =
    let none : length rest ≡ 0 = omega (arith, ap length h, length-append xs rest) in
    cc (sym more ∙ ap (λ n. not (n == 0)) none)

drop_front : {A : Type 0} (xs ys : List A) → drop (length xs) (xs ++ ys) ≡ ys
drop_front [] ys = refl
drop_front (x ∷ xs) ys = drop_front xs ys

since : (old new more : List (List ℕ)) → new ≡ old ++ more → drop (length old) new ≡ more
since old new more h = ap (λ l. drop (length old) l) h ∙ drop_front old more

-- an honest way handed a first part of what it took, and all of it where it said that no more come
pub record Handed (w : Way) (taken handed : List (List ℕ)) : Type 0 where
  pub rest : List (List ℕ)
  pub part : taken ≡ handed ++ rest
  pub whole : w.ended ≡ true → handed ≡ taken

hands_on : (old new : Way) (taken handed : List (List ℕ)) → HandsOn old new → WentOn old new taken handed → Handed new taken handed
hands_on old new taken handed h w = record {
  rest = h.in_order.0;
  part = sym (since old.taken new.taken taken w.taken) ∙ h.in_order.1 ∙ ap (λ l. l ++ h.in_order.0) (since old.handed new.handed handed w.handed);
  whole = λ e. sym (since old.handed new.handed handed w.handed) ∙ h.to_the_end (e) ∙ since old.taken new.taken taken w.taken;
}

-- ---- what the primary sent

module _ (Sends : List ℕ → Option (List Sending) → Type 0) (a : Asking) (at longest : ℕ) (v : Version) (grant : IsGranted Sends a at longest v) where
  abbrev pub all : List (List ℕ)
  all = sent_pages a grant.server at grant.fits.records_fit.pages

-- .. where the request can be made
module _ (Sends : List ℕ → Option (List Sending) → Type 0) (a : Asking) (at longest : ℕ) (v : Version) (grant : IsGranted Sends a at longest v) (can : CanAsk a longest) where
  abbrev whole : List (List ℕ)
  whole = all Sends a at longest v grant

  same_items : (x y : List Sending) → Some x ≡ Some y → x ≡ y
  same_items x y h = ap (λ o. unwrap_or o []) h

  sends_these : (items : List Sending) → Sends (asked_octets a) (Some items) → sent_by items ≡ record { messages = whole; fails = false }
  sends_these items s = let t = grant.grants can (Some items) s in ap sent_by (same_items items t.items t.some) ∙ t.messages

  sends_all : (sent : List (List ℕ)) → SendsAll (Sends (asked_octets a)) sent → sent ≡ whole
  sends_all sent k = ap (λ s. s.messages) (sym k.all ∙ sends_these k.items k.sends)

  sent_all : (sent : List (List ℕ)) → SendsAll (Sends (asked_octets a)) sent → IsFrontOf sent whole
  sent_all sent k = record { rest = []; joined = sym (append-nil sent ∙ sends_all sent k) }

  has_begun : (sent : List (List ℕ)) → HasBegun (Sends (asked_octets a)) sent → IsFrontOf sent whole
  has_begun sent (inl h) = no_front sent whole h
  has_begun sent (inr k) = record { rest = k.rest; joined = ap (λ s. s.messages) (sym (sends_these k.items k.sends)) ∙ k.part }

  never_fails : (sent : List (List ℕ)) → FailsAfter (Sends (asked_octets a)) sent → ⊥
  never_fails sent (inl h) = let t = grant.grants can None h.0 in cc t.some
  never_fails sent (inr k) = cc (ap (λ s. s.fails) (sym (sends_these k.items k.sends) ∙ k.until))

  was_sent : (sent : List (List ℕ)) (answer : Result SyncOk SyncError) → RepliedTo (Sends (asked_octets a)) sent answer → IsFrontOf sent whole
  was_sent sent (Ok x) k = sent_all sent k
  was_sent sent (Err why.NoSoa) k = sent_all sent k
  was_sent sent (Err (why.Request x)) k = sent_all sent k
  was_sent sent (Err why.LinkFault) k = has_begun sent k
  was_sent sent (Err why.Ended) k = sent_all sent k
  was_sent sent (Err (why.Short x)) k = sent_all sent k
  was_sent sent (Err (why.Primary x)) k = absurd (never_fails sent k)
  was_sent sent (Err why.TooManyMessages) k = sent_all sent k
  was_sent sent (Err (why.Tsig x)) k = sent_all sent k
  was_sent sent (Err why.OtherAnswer) k = sent_all sent k
  was_sent sent (Err (why.Xfr x)) k = sent_all sent k
  was_sent sent (Err (why.Iteration x)) k = sent_all sent k
  was_sent sent (Err (why.Update x)) k = sent_all sent k
  was_sent sent (Err why.VersionsExhausted) k = sent_all sent k
  was_sent sent (Err why.Memory) k = has_begun sent k

  not_asked : (sent replies : List (List ℕ)) (answer : Result SyncOk SyncError) → NotReplied sent replies answer → replies ≡ []
  not_asked sent replies (Ok x) k = k.1
  not_asked sent replies (Err why.NoSoa) k = k.1
  not_asked sent replies (Err (why.Request x)) k = k.1
  not_asked sent replies (Err why.LinkFault) k = k.1
  not_asked sent replies (Err why.Ended) k = k.1
  not_asked sent replies (Err (why.Short x)) k = k.1
  not_asked sent replies (Err (why.Primary x)) k = absurd k
  not_asked sent replies (Err why.TooManyMessages) k = k.1
  not_asked sent replies (Err (why.Tsig x)) k = k.1
  not_asked sent replies (Err why.OtherAnswer) k = k.1
  not_asked sent replies (Err (why.Xfr x)) k = k.1
  not_asked sent replies (Err (why.Iteration x)) k = k.1
  not_asked sent replies (Err (why.Update x)) k = k.1
  not_asked sent replies (Err why.VersionsExhausted) k = k.1
  not_asked sent replies (Err why.Memory) k = k.1

  -- the replies that came: a first part of what it sends, in order
  came : (heard sent replies : List (List ℕ)) (answer : Result SyncOk SyncError) → has_header (asked_octets a) ≡ true → (heard ≡ []) ⊎ (heard ≡ asked_octets a ∷ []) → IsServed Sends heard sent replies answer → IsFrontOf replies sent → IsFrontOf replies whole
  came heard sent replies answer headed (inl h) s p = no_front replies whole (not_asked sent replies answer (subst (λ (l : List (List ℕ)). IsServed Sends l sent replies answer) h s))
  came heard sent replies answer headed (inr h) s p =
      front_of_front replies sent whole p (was_sent sent answer (headed_served Sends (asked_octets a) sent replies answer headed (subst (λ (l : List (List ℕ)). IsServed Sends l sent replies answer) h s)))

-- ---- the version that is current then

current_version : (base : Commit) (vs : List Version) → last_or (Some base.version) vs ≡ Some (commit_after base vs).version
current_version base [] = refl
current_version base (v ∷ more) = current_version (record { number = base.number + 1; version = v }) more

same_version_as : (u v : Version) → Some u ≡ Some v → u ≡ v
same_version_as u v h = ap (λ o. unwrap_or o u) h

leaves : (a : Asking) (before handles : List Commit) (s : Session) (vs : List Version) (c : Course) (v : Version) → c.base ≡ a.base.version → vs ≡ made c → HasMade a.base before s handles vs → Succeeds c v → Same s.current.version v
leaves a before handles s vs c v base is m k =
    let last = sym (current_version a.base vs) ∙ ap (λ l. last_or (Some a.base.version) l) is ∙ ap (λ b. last_or (Some b) (made c)) (sym base) ∙ k.stands in
    subst (λ (u : Version). Same u v) (sym (ap (λ x. x.version) m.current ∙ same_version_as (commit_after a.base vs).version k.last last)) k.same

-- ---- the answer

base_of : (a : Asking) (replies : List (List ℕ)) (gave : Outcome) → (course_so_far a replies gave).base ≡ a.base.version
unfolding course_so_far
base_of a replies gave = refl

module _ (Sends : List ℕ → Option (List Sending) → Type 0) (a : Asking) (at longest : ℕ) (v : Version) (grant : IsGranted Sends a at longest v)
    (headed : has_header (asked_octets a) ≡ true) (o n : LinkLists) (before handles : List Commit) (s : Session) where
  abbrev u : Version
  u = grant.offer.version

  abbrev Says : Result SyncOk SyncError → Type 0
  Says answer = SyncSays Sends a longest (Some o) (Some n) before handles s answer

  has_soa : lacks_soa a ≡ false
  has_soa = by a.mode grant.fits.base_matches
    where
      by : (m : Mode) → OnIxfr m (BaseMatches a.base.version grant.offer grant.fits.one_soa.history) → needs_soa m a.base.version ≡ false
      by Axfr b = refl
      by Ixfr b = ap not (has_first (data_at a.base.version a.base.version.apex type_soa) b.one_apex_soa)

  -- the replies that came are a first part of what was sent, whose course waits for more or has succeeded
  record Came (replies : List (List ℕ)) (gave : Outcome) : Type 0 where
    front : IsFrontOf replies (all Sends a at longest v grant)
    part : IsPart a u replies front.rest gave

  module _ (f g : ℕ) (h : IsHonest o n f g) (few : f < 2 ^ 64 - 1) where
    heard_is : (answer : Result SyncOk SyncError) (k : Says answer) → k.asked ≡ asked_octets a ∷ [] → (k.heard ≡ []) ⊎ (k.heard ≡ asked_octets a ∷ [])
    heard_is answer k q = let r = hands_on o.requests n.requests k.asked k.heard h.requests k.link.requests in one_prefix (asked_octets a) k.heard r.rest (sym q ∙ r.part)

    replies_are : CanAsk a longest → (answer : Result SyncOk SyncError) (k : Says answer) → k.asked ≡ asked_octets a ∷ [] → Came k.replies (given_up answer)
    replies_are can answer k q =
        let r = hands_on o.replies n.replies k.sent k.replies h.replies k.link.replies in
        let p = came Sends a at longest v grant can k.heard k.sent k.replies answer headed (heard_is answer k q) k.served (record { rest = r.rest; joined = r.part }) in
        record { front = p; part = part_of a grant.server at grant.offer grant.fits can.forms (given_up answer) k.replies p.rest p.joined }

    -- the link didn't fail
    no_rise : Rose f g → ⊥
    no_rise (inl r) = let e = h.no_fault in omega (arith, e, r)
    no_rise (inr r) = let e = h.no_fault in omega (arith, e, r, few)

    -- a course that has succeeded is answered Ok, and the version offered is current
    ends_well : (answer : Result SyncOk SyncError) (k : Says answer) → answer ≡ answer_of (outcome (course_answered a k.replies answer)) → Succeeds (course_answered a k.replies answer) u → Delivers u s answer
    ends_well (Ok x) k e c = let t = k.transfers in leaves a before handles s t.versions (course_so_far a k.replies Ended) u (base_of a k.replies Ended) t.spelt t.made c
    ends_well (Err x) k e c = absurd (not_good x (outcome (course_answered a k.replies (Err x))) e c.how)

    -- no message is too short
    long : (heard : List (List ℕ)) → (heard ≡ []) ⊎ (heard ≡ asked_octets a ∷ []) → HasShort heard → ⊥
    long heard (inl e) x = cc (ap (λ l. list_all has_header l) (sym e) ∙ x)
    long heard (inr e) x = cc (sym (ap (λ b. b && true) headed) ∙ ap (λ l. list_all has_header l) (sym e) ∙ x)

    not_short : (x : ShortMessage) (k : Says (Err (why.Short x))) (rest : List (List ℕ)) → k.asked ≡ asked_octets a ∷ [] → Waits a k.replies rest Short → ⊥
    not_short x k rest q w = by_short (k.short x refl)
      where
        by_short : (HasShort k.heard × (k.sent ≡ [])) ⊎ HasShort k.replies → ⊥
        by_short (inl y) = long k.heard (heard_is (Err (why.Short x)) k q) y.0
        by_short (inr y) = cc (sym w.headed ∙ y)

    -- the link doesn't end before the last reply
    not_ended : CanAsk a longest → (k : Says (Err why.Ended)) (rest : List (List ℕ)) → k.asked ≡ asked_octets a ∷ [] → all Sends a at longest v grant ≡ k.replies ++ rest → Waits a k.replies rest Ended → ⊥
    not_ended can k rest q joined w = by_heard (heard_is (Err why.Ended) k q)
      where
        by_heard : (k.heard ≡ []) ⊎ (k.heard ≡ asked_octets a ∷ []) → ⊥
        by_heard (inl e) =
            let ended = subst (λ (l : List (List ℕ)). IsEnded l (Some n)) e (k.ended refl) in
            cc (sym e ∙ (hands_on o.requests n.requests k.asked k.heard h.requests k.link.requests).whole ended ∙ q)
        by_heard (inr e) =
            let ended = subst (λ (l : List (List ℕ)). IsEnded l (Some n)) e (k.ended refl) in
            let served = headed_served Sends (asked_octets a) k.sent k.replies (Err why.Ended) headed (subst (λ (l : List (List ℕ)). IsServed Sends l k.sent k.replies (Err why.Ended)) e k.served) in
            let same : k.replies ≡ all Sends a at longest v grant = (hands_on o.replies n.replies k.sent k.replies h.replies k.link.replies).whole ended ∙ sends_all Sends a at longest v grant can k.sent served in
            no_rest k.replies rest (same ∙ joined) w.more

    not_primary : CanAsk a longest → (x : ServiceError) (k : Says (Err (why.Primary x))) → (k.heard ≡ []) ⊎ (k.heard ≡ asked_octets a ∷ []) → ⊥
    not_primary can x k (inl e) = subst (λ (l : List (List ℕ)). IsServed Sends l k.sent k.replies (Err (why.Primary x))) e k.served
    not_primary can x k (inr e) = never_fails Sends a at longest v grant can k.sent (headed_served Sends (asked_octets a) k.sent k.replies (Err (why.Primary x)) headed (subst (λ (l : List (List ℕ)). IsServed Sends l k.sent k.replies (Err (why.Primary x))) e k.served))

    -- where more is to come, only want of memory comes in place of it
    waits : CanAsk a longest → (answer : Result SyncOk SyncError) (k : Says answer) (rest : List (List ℕ)) → k.asked ≡ asked_octets a ∷ [] → ComesAfter answer → all Sends a at longest v grant ≡ k.replies ++ rest
        → Waits a k.replies rest (given_up answer) → (answer ≡ Err why.LinkFault → Rose f g) → is_early answer ≡ true → Delivers u s answer
    waits can (Err why.Memory) k rest q after joined w fault early = tt
    waits can (Err why.LinkFault) k rest q after joined w fault early = absurd (no_rise (fault refl))
    waits can (Err why.Ended) k rest q after joined w fault early = absurd (not_ended can k rest q joined w)
    waits can (Err (why.Short x)) k rest q after joined w fault early = absurd (not_short x k rest q w)
    waits can (Err (why.Primary x)) k rest q after joined w fault early = absurd (not_primary can x k (heard_is (Err (why.Primary x)) k q))
    waits can (Err why.NoSoa) k rest q after joined w fault early = absurd after
    waits can (Err (why.Request x)) k rest q after joined w fault early = absurd after
    waits can (Ok x) k rest q after joined w fault early = absurd (cc early)
    waits can (Err why.TooManyMessages) k rest q after joined w fault early = absurd (cc early)
    waits can (Err (why.Tsig x)) k rest q after joined w fault early = absurd (cc early)
    waits can (Err why.OtherAnswer) k rest q after joined w fault early = absurd (cc early)
    waits can (Err (why.Xfr x)) k rest q after joined w fault early = absurd (cc early)
    waits can (Err (why.Iteration x)) k rest q after joined w fault early = absurd (cc early)
    waits can (Err (why.Update x)) k rest q after joined w fault early = absurd (cc early)
    waits can (Err why.VersionsExhausted) k rest q after joined w fault early = absurd (cc early)

    -- the request was handed to the link
    asked_well : CanAsk a longest → (answer : Result SyncOk SyncError) (k : Says answer) → k.asked ≡ asked_octets a ∷ [] → ComesAfter answer → (answer ≡ Err why.LinkFault → Rose f g) → AnswersCourse (course_answered a k.replies answer) answer → Delivers u s answer
    asked_well can answer k q after fault (inl e) = subst (Delivers u s) (sym e) tt
    asked_well can answer k q after fault (inr e) = by (replies_are can answer k q)
      where
        by : Came k.replies (given_up answer) → Delivers u s answer
        by r = either r.part
          where
            either : IsPart a u k.replies r.front.rest (given_up answer) → Delivers u s answer
            either (inl c) = ends_well answer k e c
            either (inr w) = waits can answer k r.front.rest q after r.front.joined w fault (in_place answer (e ∙ ap answer_of w.given))

    -- it wasn't: it could be made, and the link didn't refuse it
    not_handed : (answer : Result SyncOk SyncError) → NotAsked a longest answer → (answer ≡ Err why.LinkFault → Rose f g) → Delivers u s answer
    not_handed (Err why.NoSoa) k fault = absurd (cc (sym k ∙ has_soa))
    not_handed (Err (why.Request ShortBuf)) k fault = let l = k.1 in let fits = grant.request_fits in absurd (omega (arith, l, fits))
    not_handed (Err why.LinkFault) k fault = absurd (no_rise (fault refl))
    not_handed (Err why.Memory) k fault = tt
    not_handed (Err (why.Request CountOverflow)) k fault = absurd k
    not_handed (Err (why.Request OutOfMemory)) k fault = absurd k
    not_handed (Ok x) k fault = absurd k
    not_handed (Err why.Ended) k fault = absurd k
    not_handed (Err (why.Short x)) k fault = absurd k
    not_handed (Err (why.Primary x)) k fault = absurd k
    not_handed (Err why.TooManyMessages) k fault = absurd k
    not_handed (Err (why.Tsig x)) k fault = absurd k
    not_handed (Err why.OtherAnswer) k fault = absurd k
    not_handed (Err (why.Xfr x)) k fault = absurd k
    not_handed (Err (why.Iteration x)) k fault = absurd k
    not_handed (Err (why.Update x)) k fault = absurd k
    not_handed (Err why.VersionsExhausted) k fault = absurd k

    pub delivers : (answer : Result SyncOk SyncError) → Says answer → (answer ≡ Err why.LinkFault → Rose f g) → Delivers v s answer
    delivers answer k fault = subst (λ w. Delivers w s answer) grant.offered (by k.request)
      where
        by : Asks a longest k.asked k.heard answer → Delivers u s answer
        by (inl q) = asked_well q.0 answer k q.2 q.1 fault k.transfers.answers
        by (inr q) = not_handed answer q.0 fault

-- ---- where the link tells its lists

pub delivered : (Sends : List ℕ → Option (List Sending) → Type 0) (a : Asking) (at longest : ℕ) (v : Version) (old new : Option LinkLists) (f g : ℕ) (before handles : List Commit) (s : Session) (answer : Result SyncOk SyncError)
    → IsGranted Sends a at longest v → WasHonest old new f g → SyncSays Sends a longest old new before handles s answer → (answer ≡ Err why.LinkFault → Rose f g) → Delivers v s answer
delivered Sends a at longest v None new f g before handles s answer grant h k fault = absurd h
delivered Sends a at longest v (Some o) None f g before handles s answer grant h k fault = absurd h
delivered Sends a at longest v (Some o) (Some n) f g before handles s answer grant h k fault =
    delivers Sends a at longest v grant (request_has_header a) o n before handles s f g h.0 h.1 answer k fault

-- the same promise of a session that is told otherwise
pub synchronizes_at : (Sends : List ℕ → Option (List Sending) → Type 0) (a : Asking) (at longest : ℕ) (old new : Option LinkLists) (f g : ℕ) (before handles : List Commit) (s t : Session) (answer : Result SyncOk SyncError)
    → Synchronizes Sends a at longest old new f g before handles s answer → s ≡ t → Synchronizes Sends a at longest old new f g before handles t answer
synchronizes_at Sends a at longest old new f g before handles s t answer k e = subst (λ (x : Session). Synchronizes Sends a at longest old new f g before handles x answer) e k
