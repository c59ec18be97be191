-- The replies of one exchange, as the secondary takes them of a source.
use Rattle.std.proofs.Common.{inl, inr, ◌≡◌, ◌≢◌, ℕ, ◌+◌, ◌<◌, ◌≤◌, Bool, true, false, ◌&&◌, ◌==◌, if◌then◌else◌, List, [], ◌∷◌, ◌++◌, length, length-append, refl, sym, ap, ◌∙◌, subst, arith, Option, Some, None, Result, Ok, Err}
use Rattle.std.specs.Prelude.{IfSome}
use Rattle.std.specs.List.{list_all}
use Rattle.std.proofs.lemmas.List.Folds.{list_all-append}
use Rattle.dns_wire.specs.declared.message.ShortMessage.{ShortMessage}
use Rattle.zone_model.specs.Commits.{Commit}
use Rattle.zone_reads.specs.Session.{Session}
use Rattle.xfr_course.specs.Courses.{has_header, most_replies}
use Rattle.xfr_outcomes.specs.declared.protocol.Error.TheVariants as message
use Rattle.message_frames.specs.declared.reading.FrameError.{FrameError}
use Rattle.message_frames.specs.declared.reading.FrameError.TheVariants as frame
use Rattle.xfr_client.specs.SoFar.{Asking, client_so_far}
use Rattle.xfr_client.specs.Standing.{ClientState, asking_of, Stands, RefusesReply, TakesReply}
use Rattle.xfr_client.specs.Steps.{numbers_left}
use Rattle.xfr_client.specs.Room.{AllHaveRoom, KeepsRoom, reply_updates, ReplyStopsAt}
use Rattle.xfr_client.specs.Transfers.{HasShort, Transfers}
use Rattle.xfr_client.specs.Transfers as over_link
use Rattle.xfr_outcomes.specs.declared.outcome.SyncOk.{SyncOk}
use Rattle.xfr_outcomes.specs.declared.outcome.SyncError.{SyncError}
use Rattle.xfr_outcomes.specs.declared.outcome.SyncError.TheVariants as why
use Rattle.xfr_client.proofs.Replying.{no_end, no_link_fault, comes_later, refuses, finishes, link_fails, link_ends, memory_ends, too_many}
use Rattle.zone_asking.specs.declared.limits.Limits.{Limits}
use Rattle.zone_asking.specs.declared.limits.Limit as kinds
use Rattle.zone_asking.specs.declared.errors.AskError.{AskError}
use Rattle.zone_asking.specs.declared.errors.AskError.TheVariants.{Transfer, Response, Cut, Limit, FullSet, SourceFault, SinkFault}
use Rattle.zone_asking.specs.Answers.{sync_error, sync_answer, code_in, told_by, told_of, TellsCode}
use Rattle.zone_asking.specs.Failures.{of_frame, ComesOfReading}
use Rattle.zone_asking.specs.Streams.{LeavesBy, Reads, ReadSoFar}
use Rattle.zone_asking.specs.Exchanges.{ComesLater, EndsSo, TakenSoFar}
use Rattle.zone_asking.proofs.Streams.{begins, reads_to, takes_none}
use Rattle.zone_asking.proofs.Tellings.{last_one, told_code}
use Rattle.zone_asking.proofs.Rooms.{one_behind}

pub starts : (limits : Limits) (over : Option ℕ) (a : Asking) (o : Option (List ℕ)) (c : ClientState) (s : Session) (before handles : List Commit) → Stands c s a [] before handles → TakenSoFar limits over a o o limits c s before handles 0
starts limits over a o c s before handles st = record { taken = []; count = refl; reads = begins limits over o; room = tt; stands = st }

-- a client takes for what it asked with
pub reply_takes : (a : Asking) (c d : ClientState) (s t : Session) (taken : List (List ℕ)) (before handles later : List Commit) (m : List ℕ) (r : Result (Option SyncOk) SyncError)
    → ((base : Commit) (taken : List (List ℕ)) (before : List Commit) → Stands c s (asking_of c base) taken before handles → TakesReply (asking_of c base) d t before later taken m r)
    → Stands c s a taken before handles → TakesReply a d t before later taken m r
reply_takes a c d s t taken before handles later m r f st =
    subst (λ (x : Asking). TakesReply x d t before later taken m r) st.asks (f a.base taken before (subst (λ (x : Asking). Stands c s x taken before handles) (sym st.asks) st))

-- ---- no reply comes

pub no_reply : (limits : Limits) (over : Option ℕ) (a : Asking) (old mid new : Option (List ℕ)) (left : Limits) (c : ClientState) (s : Session) (before handles : List Commit) (n : ℕ) (e : AskError) → (k : TakenSoFar limits over a old mid left c s before handles n) → n < most_replies
    → ComesOfReading e → Reads limits over k.taken old new (Err e) → EndsSo limits over a old new before handles s (Err e)
no_reply limits over a old mid new left c s before handles n e k few of reads = by of
  where
    room : length k.taken < most_replies
    room = subst (λ l. l < most_replies) (sym k.count) few

    ends : (d : AskError) → e ≡ d → Transfers a k.taken before handles s (Err (sync_error d)) → ((x : ShortMessage) → ◌≡◌ {A = Result SyncOk AskError} (Err d) (Err (Transfer (why.Short x))) → HasShort k.taken) → TellsCode k.taken (Err d) → ComesLater (Err d)
        → (◌≡◌ {A = Result SyncOk AskError} (Err d) (Err FullSet) → ⊥) → EndsSo limits over a old new before handles s (Err e)
    ends d is t short code later other = subst (λ (x : AskError). EndsSo limits over a old new before handles s (Err x)) (sym is) (record {
      replies = k.taken;
      reads = subst (λ (x : AskError). Reads limits over k.taken old new (Err x)) is reads;
      transfers = t;
      sets = inl k.room;
      full = λ h. absurd (other h);
      short = short;
      code = code;
      later = later;
    })

    of_source : (x : FrameError) → e ≡ of_frame x → EndsSo limits over a old new before handles s (Err e)
    of_source frame.Cut is = ends Cut is (link_ends a c s before handles k.taken k.stands room) (λ x h. absurd (cc h)) tt tt (λ h. cc h)
    of_source frame.Fault is = ends SourceFault is (link_fails a c s before handles k.taken k.stands room) (λ x h. absurd (cc h)) tt tt (λ h. cc h)
    of_source frame.Memory is = ends (Transfer why.Memory) is (memory_ends a c s before handles k.taken k.stands room) (λ x h. absurd (cc h)) tt tt (λ h. cc h)

    by : ComesOfReading e → EndsSo limits over a old new before handles s (Err e)
    by (inl x) = of_source x.0 x.1
    by (inr x) = ends (Limit x.0) x.1 (link_ends a c s before handles k.taken k.stands room) (λ y h. absurd (cc h)) tt tt (λ h. cc h)

pub no_more : (limits : Limits) (over : Option ℕ) (a : Asking) (old mid new : Option (List ℕ)) (left : Limits) (c : ClientState) (s : Session) (before handles : List Commit) (n : ℕ) → (k : TakenSoFar limits over a old mid left c s before handles n) → n < most_replies
    → Reads limits over k.taken old new (Err (Transfer why.Ended)) → EndsSo limits over a old new before handles s (Err (Transfer why.Ended))
no_more limits over a old mid new left c s before handles n k few reads = record {
  replies = k.taken;
  reads = reads;
  transfers = link_ends a c s before handles k.taken k.stands (subst (λ l. l < most_replies) (sym k.count) few);
  sets = inl k.room;
  full = λ h. absurd (cc h);
  short = λ e h. absurd (cc h);
  code = tt;
  later = tt;
}

pub all_came : (limits : Limits) (over : Option ℕ) (a : Asking) (old new : Option (List ℕ)) (left : Limits) (c : ClientState) (s : Session) (before handles : List Commit) (n : ℕ) → TakenSoFar limits over a old new left c s before handles n → n ≡ most_replies
    → EndsSo limits over a old new before handles s (Err (Transfer why.TooManyMessages))
all_came limits over a old new left c s before handles n k many = record {
  replies = k.taken;
  reads = reads_to limits over k.taken old new new left (Err (Transfer why.TooManyMessages)) k.reads refl;
  transfers = too_many a c s before handles k.taken k.stands (k.count ∙ many);
  sets = inl k.room;
  full = λ h. absurd (cc h);
  short = λ e h. absurd (cc h);
  code = tt;
  later = tt;
}

-- ---- a reply ends it

one_more : (taken : List (List ℕ)) (m : List ℕ) (n : ℕ) → length taken ≡ n → n < most_replies → length (taken ++ m ∷ []) ≤ most_replies
one_more taken m n h few = let l = length-append taken (m ∷ []) in omega (arith, l, h, few)

has_short : (taken : List (List ℕ)) (m : List ℕ) → list_all has_header taken ≡ true → has_header m ≡ false → HasShort (taken ++ m ∷ [])
has_short taken m p h = list_all-append has_header taken (m ∷ []) ∙ ap (λ b. b && (has_header m && true)) p ∙ ap (λ b. b && true) h

-- the error that a reply is told by is the reply's own
choice_same : (b : Bool) (code : ℕ) → sync_error (if b then Transfer (why.Xfr message.NotValidXfrResponse) else Response code) ≡ why.Xfr message.NotValidXfrResponse
choice_same true code = refl
choice_same false code = refl

pub told_same : (e : SyncError) (code : ℕ) → sync_error (told_by e code) ≡ e
told_same (why.Xfr message.NotValidXfrResponse) code = choice_same (code == 0) code
told_same (why.Xfr message.ParseError) code = refl
told_same (why.Xfr message.Malformed) code = refl
told_same (why.Xfr message.Finished) code = refl
told_same why.NoSoa code = refl
told_same (why.Request x) code = refl
told_same why.LinkFault code = refl
told_same why.Ended code = refl
told_same (why.Short x) code = refl
told_same (why.Primary x) code = refl
told_same why.TooManyMessages code = refl
told_same (why.Tsig x) code = refl
told_same why.OtherAnswer code = refl
told_same (why.Iteration x) code = refl
told_same (why.Update x) code = refl
told_same why.VersionsExhausted code = refl
told_same why.Memory code = refl

-- a source that stays where it is
choice_leaves : (limits : Limits) (read : List (List ℕ)) (b : Bool) (code : ℕ) (mid : Option (List ℕ)) → LeavesBy limits read (Err (if b then Transfer (why.Xfr message.NotValidXfrResponse) else Response code)) mid mid
choice_leaves limits read true code mid = refl
choice_leaves limits read false code mid = refl

told_leaves : (limits : Limits) (read : List (List ℕ)) (e : SyncError) (code : ℕ) (mid : Option (List ℕ)) → (e ≡ why.Ended → ⊥) → LeavesBy limits read (Err (told_by e code)) mid mid
told_leaves limits read (why.Xfr message.NotValidXfrResponse) code mid h = choice_leaves limits read (code == 0) code mid
told_leaves limits read (why.Xfr message.ParseError) code mid h = refl
told_leaves limits read (why.Xfr message.Malformed) code mid h = refl
told_leaves limits read (why.Xfr message.Finished) code mid h = refl
told_leaves limits read why.NoSoa code mid h = refl
told_leaves limits read (why.Request x) code mid h = refl
told_leaves limits read why.LinkFault code mid h = refl
told_leaves limits read why.Ended code mid h = absurd (h refl)
told_leaves limits read (why.Short x) code mid h = refl
told_leaves limits read (why.Primary x) code mid h = refl
told_leaves limits read why.TooManyMessages code mid h = refl
told_leaves limits read (why.Tsig x) code mid h = refl
told_leaves limits read why.OtherAnswer code mid h = refl
told_leaves limits read (why.Iteration x) code mid h = refl
told_leaves limits read (why.Update x) code mid h = refl
told_leaves limits read why.VersionsExhausted code mid h = refl
told_leaves limits read why.Memory code mid h = takes_none mid

-- such an answer comes later
choice_later : (b : Bool) (code : ℕ) → ComesLater (Err (if b then Transfer (why.Xfr message.NotValidXfrResponse) else Response code))
choice_later true code = tt
choice_later false code = tt

told_later : (e : SyncError) (code : ℕ) → over_link.ComesLater (Err e) → (e ≡ why.LinkFault → ⊥) → ComesLater (Err (told_by e code))
told_later (why.Xfr message.NotValidXfrResponse) code l h = choice_later (code == 0) code
told_later (why.Xfr message.ParseError) code l h = tt
told_later (why.Xfr message.Malformed) code l h = tt
told_later (why.Xfr message.Finished) code l h = tt
told_later why.NoSoa code l h = absurd l
told_later (why.Request x) code l h = absurd l
told_later why.LinkFault code l h = absurd (h refl)
told_later why.Ended code l h = tt
told_later (why.Short x) code l h = tt
told_later (why.Primary x) code l h = absurd l
told_later why.TooManyMessages code l h = tt
told_later (why.Tsig x) code l h = tt
told_later why.OtherAnswer code l h = tt
told_later (why.Iteration x) code l h = tt
told_later (why.Update x) code l h = tt
told_later why.VersionsExhausted code l h = tt
told_later why.Memory code l h = tt

-- an error that is told as a short message is one
abbrev err_of : Result SyncOk AskError → AskError → AskError
err_of (Ok x) d = d
err_of (Err e) d = e

same_error : (e f : AskError) → ◌≡◌ {A = Result SyncOk AskError} (Err e) (Err f) → e ≡ f
same_error e f h = ap (λ r. err_of r e) h

is_short : (e : SyncError) (code : ℕ) (x : ShortMessage) → ◌≡◌ {A = Result SyncOk AskError} (Err (told_by e code)) (Err (Transfer (why.Short x))) → e ≡ why.Short x
is_short e code x h = sym (told_same e code) ∙ ap sync_error (same_error (told_by e code) (Transfer (why.Short x)) h)

-- no such error tells of a full set
choice_other : (b : Bool) (code : ℕ) → ◌≡◌ {A = Result SyncOk AskError} (Err (if b then Transfer (why.Xfr message.NotValidXfrResponse) else Response code)) (Err FullSet) → ⊥
choice_other true code h = cc h
choice_other false code h = cc h

told_other : (e : SyncError) (code : ℕ) → ◌≡◌ {A = Result SyncOk AskError} (Err (told_by e code)) (Err FullSet) → ⊥
told_other (why.Xfr message.NotValidXfrResponse) code h = choice_other (code == 0) code h
told_other (why.Xfr message.ParseError) code h = cc h
told_other (why.Xfr message.Malformed) code h = cc h
told_other (why.Xfr message.Finished) code h = cc h
told_other why.NoSoa code h = cc h
told_other (why.Request x) code h = cc h
told_other why.LinkFault code h = cc h
told_other why.Ended code h = cc h
told_other (why.Short x) code h = cc h
told_other (why.Primary x) code h = cc h
told_other why.TooManyMessages code h = cc h
told_other (why.Tsig x) code h = cc h
told_other why.OtherAnswer code h = cc h
told_other (why.Iteration x) code h = cc h
told_other (why.Update x) code h = cc h
told_other why.VersionsExhausted code h = cc h
told_other why.Memory code h = cc h

pub ends_refused : (limits : Limits) (over : Option ℕ) (a : Asking) (old mid new : Option (List ℕ)) (left rest : Limits) (c : ClientState) (s t : Session) (before handles later : List Commit) (n : ℕ) (m : List ℕ) (e : SyncError) (code : ℕ)
    → (k : TakenSoFar limits over a old mid left c s before handles n) → n < most_replies → ReadSoFar limits over (k.taken ++ m ∷ []) old new rest → code ≡ code_in m → RefusesReply a t before later k.taken m e
    → KeepsRoom limits.set_records a.base before t later (client_so_far a k.taken).progress (reply_updates a k.taken m) → EndsSo limits over a old new before later t (Err (told_by e code))
ends_refused limits over a old mid new left rest c s t before handles later n m e code k few reads is r kept = record {
  replies = k.taken ++ m ∷ [];
  reads = reads_to limits over (k.taken ++ m ∷ []) old new new rest (Err (told_by e code)) reads (told_leaves limits reads.read e code new (no_end a t before later k.taken m e k.stands.stands.unmet r));
  transfers =
      subst (λ (x : SyncError). Transfers a (k.taken ++ m ∷ []) before later t (Err x)) (sym (told_same e code))
      (refuses a t before later k.taken m e k.stands.stands.passed k.stands.stands.unmet (one_more k.taken m n k.count few) r);
  sets = inr (record { taken = k.taken; last = m; all = refl; room = k.room; kept = kept });
  full = λ h. absurd (told_other e code h);
  short = λ x h. has_short k.taken m k.stands.stands.passed.headed (subst (λ (y : SyncError). RefusesReply a t before later k.taken m y) (is_short e code x h) r).0;
  code = told_code (k.taken ++ m ∷ []) e code (last_one k.taken m ∙ sym is);
  later = told_later e code (comes_later a t before later k.taken m e k.stands.stands.unmet r) (no_link_fault a t before later k.taken m e k.stands.stands.unmet r);
}

-- .. since it would add to a full set
ends_full : (limits : Limits) (over : Option ℕ) (a : Asking) (old mid new : Option (List ℕ)) (left rest : Limits) (c : ClientState) (s t : Session) (before handles later : List Commit) (n : ℕ) (m : List ℕ)
    → (k : TakenSoFar limits over a old mid left c s before handles n) → n < most_replies → ReadSoFar limits over (k.taken ++ m ∷ []) old new rest → RefusesReply a t before later k.taken m why.Memory
    → ReplyStopsAt limits.set_records a t before later k.taken m true → EndsSo limits over a old new before later t (Err FullSet)
ends_full limits over a old mid new left rest c s t before handles later n m k few reads r stops = record {
  replies = k.taken ++ m ∷ [];
  reads = reads_to limits over (k.taken ++ m ∷ []) old new new rest (Err FullSet) reads refl;
  transfers = refuses a t before later k.taken m why.Memory k.stands.stands.passed k.stands.stands.unmet (one_more k.taken m n k.count few) r;
  sets = inr (record { taken = k.taken; last = m; all = refl; room = k.room; kept = stops.kept });
  full = λ h. record { taken = k.taken; last = m; all = refl; stops = stops };
  short = λ x h. absurd (cc h);
  code = tt;
  later = tt;
}

refused_as : (e : SyncError) → ◌≡◌ {A = Result (Option SyncOk) SyncError} (Err e) (Err why.Memory) → e ≡ why.Memory
refused_as e h = ap (λ (r : Result (Option SyncOk) SyncError). of_err r e) h
  where
    of_err : Result (Option SyncOk) SyncError → SyncError → SyncError
    of_err (Ok x) d = d
    of_err (Err x) d = x

pub ends_told : (full : Bool) (limits : Limits) (over : Option ℕ) (a : Asking) (old mid new : Option (List ℕ)) (left rest : Limits) (c : ClientState) (s t : Session) (before handles later : List Commit) (n : ℕ) (m : List ℕ) (e : SyncError) (code : ℕ)
    → (k : TakenSoFar limits over a old mid left c s before handles n) → n < most_replies → ReadSoFar limits over (k.taken ++ m ∷ []) old new rest → code ≡ code_in m → RefusesReply a t before later k.taken m e
    → KeepsRoom limits.set_records a.base before t later (client_so_far a k.taken).progress (reply_updates a k.taken m)
    → (full ≡ true → ◌≡◌ {A = Result (Option SyncOk) SyncError} (Err e) (Err why.Memory)) → (full ≡ true → ReplyStopsAt limits.set_records a t before later k.taken m true) → EndsSo limits over a old new before later t (Err (told_of full e code))
ends_told true limits over a old mid new left rest c s t before handles later n m e code k few reads is r kept memory stops =
    ends_full limits over a old mid new left rest c s t before handles later n m k few reads (subst (λ (x : SyncError). RefusesReply a t before later k.taken m x) (refused_as e (memory refl)) r) (stops refl)
ends_told false limits over a old mid new left rest c s t before handles later n m e code k few reads is r kept memory stops =
    ends_refused limits over a old mid new left rest c s t before handles later n m e code k few reads is r kept

pub ends_well : (limits : Limits) (over : Option ℕ) (a : Asking) (old mid new : Option (List ℕ)) (left rest : Limits) (c d : ClientState) (s t : Session) (before handles later : List Commit) (n : ℕ) (m : List ℕ) (done : SyncOk)
    → (k : TakenSoFar limits over a old mid left c s before handles n) → n < most_replies → ReadSoFar limits over (k.taken ++ m ∷ []) old new rest → TakesReply a d t before later k.taken m (Ok (Some done))
    → AllHaveRoom limits.set_records (numbers_left a.base) (client_so_far a k.taken).progress (reply_updates a k.taken m) → EndsSo limits over a old new before later t (Ok done)
ends_well limits over a old mid new left rest c d s t before handles later n m done k few reads r room = record {
  replies = k.taken ++ m ∷ [];
  reads = reads_to limits over (k.taken ++ m ∷ []) old new new rest (Ok done) reads refl;
  transfers = finishes a d t before later k.taken m done k.stands.stands.passed (one_more k.taken m n k.count few) r;
  sets = inl (one_behind limits.set_records a [] k.taken m k.room room);
  full = λ h. absurd (cc h);
  short = λ x h. absurd (cc h);
  code = tt;
  later = tt;
}

-- ---- or it goes on

pub takes_on : (limits : Limits) (over : Option ℕ) (a : Asking) (old mid new : Option (List ℕ)) (left rest : Limits) (c d : ClientState) (s t : Session) (before handles later : List Commit) (n : ℕ) (m : List ℕ)
    → (k : TakenSoFar limits over a old mid left c s before handles n) → ReadSoFar limits over (k.taken ++ m ∷ []) old new rest → TakesReply a d t before later k.taken m (Ok None)
    → AllHaveRoom limits.set_records (numbers_left a.base) (client_so_far a k.taken).progress (reply_updates a k.taken m) → TakenSoFar limits over a old new rest d t before later (n + 1)
takes_on limits over a old mid new left rest c d s t before handles later n m k reads r room = record {
  taken = k.taken ++ m ∷ [];
  count = length-append k.taken (m ∷ []) ∙ ap (λ l. l + 1) k.count;
  reads = reads;
  room = one_behind limits.set_records a [] k.taken m k.room room;
  stands = r;
}
