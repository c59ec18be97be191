-- A reply whole, of an exchange that stands for those before it.
use Rattle.std.proofs.Common.{◌≡◌, ℕ, Bool, true, false, not, ◌==◌, if◌then◌else◌, List, [], ◌∷◌, ◌++◌, map, refl, sym, ap, ◌∙◌, subst, Option, Some, None, Result, Ok, Err, inl, inr}
use Rattle.std.specs.Prelude.{option_map}
use Rattle.std.specs.Option.{option_map_or}
use Rattle.dns_rdata.specs.Records.{Field}
use Rattle.dns_rdata.specs.Soa.{serial_of}
use Rattle.tsig_port.specs.Tsig.{TsigKey}
use Rattle.tsig_port.specs.Checked.{taken_message}
use Rattle.tsig_port.specs.declared.client.ClientSequence.{ClientSequence}
use Rattle.zone_model.specs.Version.{apex_soa}
use Rattle.zone_model.specs.Commits.{Commit}
use Rattle.zone_reads.specs.Session.{Session}
use Rattle.zone_model.specs.Edits.{Refusal, OutOfZone, Incompatible, InvalidData}
use Rattle.zone_model.specs.Updates.{Progress, UpdateFault, Edit, NotSoaRecord, AfterFinish}
use Rattle.zone_model.specs.TransferText.{Mode, Ixfr}
use Rattle.xfr_model.specs.Read.{Fault, OtherAnswer, NotValid, Malformed, Unreadable, AfterEnd, Refused, record_item, request_fault}
use Rattle.xfr_model.specs.Machine.{Place, is_at_end, Run, run_items, signal_of}
use Rattle.xfr_model.specs.Applying.{Halt, Denied, NoNumber, Held, apply_within, DeniedEdit}
use Rattle.xfr_client.specs.Places.{first_serial}
use Rattle.xfr_client.specs.Rest.{Rest, asks_again}
use Rattle.xfr_client.specs.Interpreting.{Interpreting, is_over}
use Rattle.xfr_client.specs.Updating.{Updating}
use Rattle.xfr_outcomes.specs.declared.protocol.IterationError.TheVariants as items
use Rattle.xfr_course.specs.Outcome.{Outcome, Updated, UpToDate, NoSoa, RequestTooLong, LinkFault, Ended, Short, Primary, TooManyMessages, Tsig, Reading, RetrySignal, VersionsExhausted, Course, room, base_serial, after_retry}
use Rattle.xfr_course.specs.Courses.{has_header}
use Rattle.xfr_course.specs.Client.{Client, met_after}
use Rattle.xfr_client.specs.SoFar.{Asking, asked_id, asked_question, asked_serial, told_serial, checked_so_far, message_so_far, fault_so_far, client_so_far}
use Rattle.xfr_outcomes.specs.Refusals.{of_update}
use Rattle.xfr_client.specs.Steps.{HasMade, Ahead, RanOut, IsCause, TakesAll}
use Rattle.xfr_client.specs.Standing.{ExchangeStands}
use Rattle.xfr_client.specs.Replies.{AnswersReply, ChecksReply, TestsReply, RefusesMessage, TakesMessage}
use Rattle.xfr_client.specs.Ending.{answer_of, edit_error, fault_error, same_serial, settled}
use Rattle.xfr_client.specs.declared.exchange.Exchange.{Exchange}
use Rattle.xfr_outcomes.specs.declared.outcome.SyncOk.{SyncOk}
use Rattle.xfr_outcomes.specs.declared.outcome.SyncOk.TheVariants as done
use Rattle.xfr_outcomes.specs.declared.outcome.SyncError.{SyncError}
use Rattle.xfr_outcomes.specs.declared.outcome.SyncError.TheVariants as why
use Rattle.xfr_client.proofs.ReplyPlaces.{Signals, signals}
use Rattle.xfr_client.proofs.Standings.{course, between, in_turn, run_next, run_read, checked_message, message_refused, Moves, message_moves, one_passed}

pub some_same : {A : Type 0} (x y : A) → ◌≡◌ {A = Option A} (Some x) (Some y) → x ≡ y
some_same x y h = cc h

-- ---- an outcome that a message's own text brings

abbrev pub IsOwn : Outcome → Type 0
IsOwn Updated = Unit {0}
IsOwn UpToDate = Unit {0}
IsOwn RetrySignal = Unit {0}
IsOwn (Reading f) = Unit {0}
IsOwn VersionsExhausted = Unit {0}
IsOwn o = ⊥

-- .. as a reply is answered with it
abbrev pub lifted : Result SyncOk SyncError → Result (Option SyncOk) SyncError
lifted (Ok done) = Ok (Some done)
lifted (Err e) = Err e

pub takes_so : (a : Asking) (x : Exchange) (s : Session) (before handles : List Commit) (taken : List (List ℕ)) (m : List ℕ) (o : Outcome) → IsOwn o → has_header m ≡ true → fault_so_far a taken m ≡ None
    → (client_so_far a (taken ++ m ∷ [])).met ≡ Some o → HasMade a.base before s handles (client_so_far a (taken ++ m ∷ [])).progress.committed → TakesMessage a x s before handles taken m (lifted (answer_of o))
takes_so a x s before handles taken m Updated own headed sound met made = (record { outcome = Updated; answers = refl; headed = headed; sound = sound; met = met }, made)
takes_so a x s before handles taken m UpToDate own headed sound met made = (record { outcome = UpToDate; answers = refl; headed = headed; sound = sound; met = met }, made)
takes_so a x s before handles taken m RetrySignal own headed sound met made = (record { outcome = RetrySignal; answers = refl; headed = headed; sound = sound; met = met }, made)
takes_so a x s before handles taken m VersionsExhausted own headed sound met made = (record { outcome = VersionsExhausted; answers = refl; headed = headed; sound = sound; met = met }, made)
takes_so a x s before handles taken m (Reading OtherAnswer) own headed sound met made = (record { outcome = Reading OtherAnswer; answers = refl; headed = headed; sound = sound; met = met }, made)
takes_so a x s before handles taken m (Reading NotValid) own headed sound met made = (record { outcome = Reading NotValid; answers = refl; headed = headed; sound = sound; met = met }, made)
takes_so a x s before handles taken m (Reading Malformed) own headed sound met made = (record { outcome = Reading Malformed; answers = refl; headed = headed; sound = sound; met = met }, made)
takes_so a x s before handles taken m (Reading Unreadable) own headed sound met made = (record { outcome = Reading Unreadable; answers = refl; headed = headed; sound = sound; met = met }, made)
takes_so a x s before handles taken m (Reading AfterEnd) own headed sound met made = (record { outcome = Reading AfterEnd; answers = refl; headed = headed; sound = sound; met = met }, made)
takes_so a x s before handles taken m (Reading (Refused r)) own headed sound met made = (record { outcome = Reading (Refused r); answers = refl; headed = headed; sound = sound; met = met }, made)
takes_so a x s before handles taken m NoSoa own headed sound met made = absurd own
takes_so a x s before handles taken m RequestTooLong own headed sound met made = absurd own
takes_so a x s before handles taken m LinkFault own headed sound met made = absurd own
takes_so a x s before handles taken m Ended own headed sound met made = absurd own
takes_so a x s before handles taken m Short own headed sound met made = absurd own
takes_so a x s before handles taken m Primary own headed sound met made = absurd own
takes_so a x s before handles taken m TooManyMessages own headed sound met made = absurd own
takes_so a x s before handles taken m (Tsig e) own headed sound met made = absurd own

-- what comes of a message, with an outcome of its own
pub record Comes (c : Course) (h : Option Halt) (f : Option Fault) (n : Option ℕ) (ended : Bool) (said : Result (Option SyncOk) SyncError) : Type 0 where
  pub outcome : Outcome
  pub own : IsOwn outcome
  pub met : met_after c h f n ended ≡ Some outcome
  pub told : said ≡ lifted (answer_of outcome)

settled_edit : (found asked : Option ℕ) (r : Refusal) → settled found asked (of_update (edit_error r)) ≡ lifted (answer_of (Reading (Refused r)))
settled_edit found asked OutOfZone = refl
settled_edit found asked Incompatible = refl
settled_edit found asked InvalidData = refl

settled_fault : (found asked : Option ℕ) (f : Fault) → settled found asked (fault_error f) ≡ lifted (answer_of (Reading f))
settled_fault found asked OtherAnswer = refl
settled_fault found asked NotValid = refl
settled_fault found asked Malformed = refl
settled_fault found asked Unreadable = refl
settled_fault found asked AfterEnd = refl
settled_fault found asked (Refused r) = refl

-- it is never that the transfer goes on
pub settled_ends : (found asked : Option ℕ) (e : SyncError) → settled found asked e ≡ Ok None → ⊥
settled_ends found asked (why.Iteration items.SingleSoaIxfrTcpRetrySignal) h = by (same_serial found asked) h
  where
    by : (b : Bool) → ◌≡◌ {A = Result (Option SyncOk) SyncError} (if b then Ok (Some done.UpToDate) else Err (why.Iteration items.SingleSoaIxfrTcpRetrySignal)) (Ok None) → ⊥
    by true k = cc k
    by false k = cc k
settled_ends found asked (why.Iteration items.ParseError) h = cc h
settled_ends found asked (why.Iteration items.AlreadyFinished) h = cc h
settled_ends found asked (why.Iteration items.MissingInitialSoa) h = cc h
settled_ends found asked why.NoSoa h = cc h
settled_ends found asked (why.Request x) h = cc h
settled_ends found asked why.LinkFault h = cc h
settled_ends found asked why.Ended h = cc h
settled_ends found asked (why.Short x) h = cc h
settled_ends found asked (why.Primary x) h = cc h
settled_ends found asked why.TooManyMessages h = cc h
settled_ends found asked (why.Tsig x) h = cc h
settled_ends found asked why.OtherAnswer h = cc h
settled_ends found asked (why.Xfr x) h = cc h
settled_ends found asked (why.Update x) h = cc h
settled_ends found asked why.VersionsExhausted h = cc h
settled_ends found asked why.Memory h = cc h

-- the retry signal, by whether the serials are the same
chosen_told : (b : Bool) → ◌≡◌ {A = Result (Option SyncOk) SyncError} (if b then Ok (Some done.UpToDate) else Err (why.Iteration items.SingleSoaIxfrTcpRetrySignal)) (lifted (answer_of (if b then UpToDate else RetrySignal)))
chosen_told true = refl
chosen_told false = refl

chosen_own : (b : Bool) → IsOwn (if b then UpToDate else RetrySignal)
chosen_own true = tt
chosen_own false = tt

signal_told : (o : Option (List Field)) (n : ℕ) → settled (Some n) (option_map serial_of o) (why.Iteration items.SingleSoaIxfrTcpRetrySignal)
    ≡ lifted (answer_of (if option_map_or (λ k. k == n) (option_map_or (λ d. Some (serial_of d)) o None) false then UpToDate else RetrySignal))
signal_told None n = refl
signal_told (Some d) n = chosen_told (serial_of d == n)

signal_settled : (a : Asking) (n : ℕ) (found asked : Option ℕ) → found ≡ Some n → asked ≡ asked_serial a → a.mode ≡ Ixfr
    → settled found asked (why.Iteration items.SingleSoaIxfrTcpRetrySignal) ≡ lifted (answer_of (after_retry (course a) n))
signal_settled a n found asked f k ixfr =
    ap (λ x. settled x asked (why.Iteration items.SingleSoaIxfrTcpRetrySignal)) f
    ∙ ap (λ x. settled (Some n) x (why.Iteration items.SingleSoaIxfrTcpRetrySignal)) (k ∙ ap (λ x. told_serial x a.base.version) ixfr)
    ∙ signal_told (apex_soa a.base.version) n

-- what ends a message's updates early
pub cause_comes : (a : Asking) (begun : Bool) (r : Run) (h : Option Halt) (f : Option Fault) (asked : Option ℕ) (e : SyncError) → ((x : UpdateFault) → h ≡ Some (Denied x) → DeniedEdit x) → Signals a.mode begun r → asked ≡ asked_serial a
    → IsCause h f (asks_again (not begun) r) e → Comes (course a) h f (signal_of begun r) (is_at_end r.place) (settled (first_serial r.place) asked e)
cause_comes a begun r (Some NoNumber) f asked e turn s k c = record { outcome = VersionsExhausted; own = tt; met = refl; told = ap (settled (first_serial r.place) asked) c.1 }
cause_comes a begun r (Some (Denied (Edit x))) f asked e turn s k c = record {
  outcome = Reading (Refused x);
  own = tt;
  met = refl;
  told = ap (settled (first_serial r.place) asked) c.1 ∙ settled_edit (first_serial r.place) asked x;
}
cause_comes a begun r (Some (Denied NotSoaRecord)) f asked e turn s k c = absurd (cc (turn NotSoaRecord refl).is)
cause_comes a begun r (Some (Denied AfterFinish)) f asked e turn s k c = absurd (cc (turn AfterFinish refl).is)
cause_comes a begun r None (Some f) asked e turn s k c = record {
  outcome = Reading f;
  own = tt;
  met = refl;
  told = ap (settled (first_serial r.place) asked) c.1 ∙ settled_fault (first_serial r.place) asked f;
}
cause_comes a begun r None None asked e turn (inl s) k c = absurd (cc (sym s.told ∙ c.0))
cause_comes a begun r None None asked e turn (inr s) k c = record {
  outcome = after_retry (course a) s.serial;
  own = chosen_own (option_map_or (λ j. j == s.serial) (base_serial (course a)) false);
  met = ap (λ n. met_after (course a) None None n (is_at_end r.place)) s.signal;
  told = ap (settled (first_serial r.place) asked) c.1 ∙ signal_settled a s.serial (first_serial r.place) asked s.found k s.asked;
}

-- a signature that is refused
pub signature_refused : (a : Asking) (x : Exchange) (s : Session) (before handles : List Commit) (taken : List (List ℕ)) (m : List ℕ) (q : ClientSequence TsigKey) (e : SyncError)
    → ExchangeStands x s a taken before handles → AnswersReply a taken m q (Err e) → RefusesMessage a s before handles taken m e
signature_refused a x s before handles taken m q (why.Short e) st r = (r, st.ahead.made)
signature_refused a x s before handles taken m q (why.Tsig e) st r = (r.0, r.1, st.ahead.made)
signature_refused a x s before handles taken m q why.Memory st r = absurd r
signature_refused a x s before handles taken m q why.NoSoa st r = absurd r
signature_refused a x s before handles taken m q (why.Request e) st r = absurd r
signature_refused a x s before handles taken m q why.LinkFault st r = absurd r
signature_refused a x s before handles taken m q why.Ended st r = absurd r
signature_refused a x s before handles taken m q (why.Primary e) st r = absurd r
signature_refused a x s before handles taken m q why.TooManyMessages st r = absurd r
signature_refused a x s before handles taken m q why.OtherAnswer st r = absurd r
signature_refused a x s before handles taken m q (why.Xfr e) st r = absurd r
signature_refused a x s before handles taken m q (why.Iteration e) st r = absurd r
signature_refused a x s before handles taken m q (why.Update e) st r = absurd r
signature_refused a x s before handles taken m q why.VersionsExhausted st r = absurd r

-- the message that is left once it was taken
same_message : (m message : List ℕ) → message ≡ taken_message m → message_so_far message ≡ (checked_so_far m).message
same_message m message e = ap message_so_far e ∙ sym (checked_message m)

-- a message that is refused by itself
pub message_fails : (a : Asking) (x y : Exchange) (s : Session) (before handles : List Commit) (taken : List (List ℕ)) (m message : List ℕ) (q : ClientSequence TsigKey) (i : Interpreting) (e : SyncError)
    → ExchangeStands x s a taken before handles → ChecksReply a taken m message q → TestsReply a (client_so_far a taken).begun (client_so_far a taken).place (message_so_far message) i (Err e)
    → TakesMessage a y s before handles taken m (Err e)
message_fails a x y s before handles taken m message q i e st ck (f, (fault, is)) =
    let r = message_refused a taken m f st.unmet (ap (λ y. request_fault (asked_id a) (asked_question a) (not (client_so_far a taken).begun) y) (sym (same_message m message ck.loses)) ∙ fault) in
    subst (λ (z : SyncError). TakesMessage a y s before handles taken m (Err z)) (sym is)
    (takes_so a y s before handles taken m (Reading f) tt ck.headed ck.sound r.met (subst (λ (p : Progress). HasMade a.base before s handles p.committed) (sym r.progress) st.ahead.made))

-- a message that is read: what its records make is the client's run
pub record ReadSo (a : Asking) (taken : List (List ℕ)) (m : List ℕ) (rest : Rest) (i : Interpreting) : Type 0 where
  pub run : rest.run ≡ run_next a taken m
  pub retry : rest.retry ≡ asks_again (not (client_so_far a taken).begun) (run_next a taken m)
  pub stands : i ≡ record { begun = true; place = (run_next a taken m).place; signalled = asks_again (not (client_so_far a taken).begun) (run_next a taken m) }
  pub moves : Moves a taken m (run_next a taken m) (apply_within (room (course a)) (client_so_far a taken).progress (run_next a taken m).updates)
  pub signals : Signals a.mode (client_so_far a taken).begun (run_next a taken m)

pub message_reads : (a : Asking) (x : Exchange) (s : Session) (before handles : List Commit) (taken : List (List ℕ)) (m message : List ℕ) (q : ClientSequence TsigKey) (i : Interpreting) (rest : Rest)
    → ExchangeStands x s a taken before handles → ChecksReply a taken m message q → TestsReply a (client_so_far a taken).begun (client_so_far a taken).place (message_so_far message) i (Ok rest)
    → ReadSo a taken m rest i
message_reads a x s before handles taken m message q i rest st ck (none, reads) =
    let cl : Client = client_so_far a taken in
    let same = same_message m message ck.loses in
    let sound : request_fault (asked_id a) (asked_question a) (not cl.begun) (checked_so_far m).message ≡ None =
    ap (λ y. request_fault (asked_id a) (asked_question a) (not cl.begun) y) (sym same) ∙ none in
    let read : run_next a taken m ≡ run_items a.mode cl.place (map record_item (checked_so_far m).message.answers) = run_read a taken m sound in
    let run : run_items a.mode cl.place (map record_item (message_so_far message).answers) ≡ run_next a taken m =
    ap (λ y. run_items a.mode cl.place (map record_item y.answers)) same ∙ sym read in
    record {
      run = reads.run ∙ run;
      retry = reads.retry ∙ ap (asks_again (not cl.begun)) run;
      stands = reads.stands ∙ ap (λ (r : Run). record { begun = true; place = r.place; signalled = asks_again (not cl.begun) r }) run;
      moves = message_moves a taken m st.unmet;
      signals = subst (λ (r : Run). Signals a.mode cl.begun r) (sym read) (signals a.mode (asked_id a) (asked_question a) cl.begun cl.place (checked_so_far m).message (between a taken st.unmet).place sound);
    }

-- what ends its updates early is its outcome, or nothing is newer
pub updates_stop : (a : Asking) (x y : Exchange) (s t : Session) (before handles now : List Commit) (taken : List (List ℕ)) (m message : List ℕ) (q : ClientSequence TsigKey) (i : Interpreting) (rest : Rest) (u : Updating) (asked : Option ℕ) (e : SyncError)
    → ExchangeStands x s a taken before handles → ChecksReply a taken m message q → ReadSo a taken m rest i → asked ≡ asked_serial a → TakesAll a.base before u t now (client_so_far a taken).progress rest (Err e)
    → TakesMessage a y t before now taken m (settled (first_serial i.place) asked e)
updates_stop a x y s t before handles now taken m message q i rest u asked e st ck rd k (inl (is, out)) =
    subst (λ z. TakesMessage a y t before now taken m (settled (first_serial i.place) asked z)) (sym is)
    (record { headed = ck.headed; sound = ck.sound; ran_out = subst (λ (r : Run). RanOut a.base before t now (client_so_far a taken).progress r.updates) rd.run out })
updates_stop a x y s t before handles now taken m message q i rest u asked e st ck rd k (inr (made, cause)) =
    let cl : Client = client_so_far a taken in
    let limit : ℕ = room (course a) in
    let r : Run = run_next a taken m in
    let h : Held = apply_within limit cl.progress r.updates in
    let made_so : HasMade a.base before t now h.progress.committed = subst (λ (x : Run). HasMade a.base before t now (apply_within limit cl.progress x.updates).progress.committed) rd.run made in
    let cause_so : IsCause h.halt r.fault (asks_again (not cl.begun) r) e =
    subst (λ b. IsCause h.halt r.fault b e) rd.retry (subst (λ (x : Run). IsCause (apply_within limit cl.progress x.updates).halt x.fault rest.retry e) rd.run cause) in
    let c = cause_comes a cl.begun r h.halt r.fault asked e (λ f is. in_turn a taken m f st.unmet is) rd.signals k cause_so in
    let told : settled (first_serial i.place) asked e ≡ lifted (answer_of c.outcome) = ap (λ (j : Interpreting). settled (first_serial j.place) asked e) rd.stands ∙ c.told in
    subst (λ z. TakesMessage a y t before now taken m z) (sym told)
    (takes_so a y t before now taken m c.outcome c.own ck.headed ck.sound (rd.moves.met ∙ c.met) (subst (λ (x : Progress). HasMade a.base before t now x.committed) (sym rd.moves.progress) made_so))

-- all updates were done: the client stands on, or the text has ended
pub record DoneSo (a : Asking) (taken : List (List ℕ)) (m : List ℕ) (before handles : List Commit) (s : Session) (u : Updating) (i : Interpreting) : Type 0 where
  pub met : (client_so_far a (taken ++ m ∷ [])).met ≡ met_after (course a) None None None (is_at_end i.place)
  pub ahead : Ahead a.base before u s handles (client_so_far a (taken ++ m ∷ [])).progress
  pub stands : i ≡ record { begun = true; place = (client_so_far a (taken ++ m ∷ [])).place; signalled = false }

none_signalled : (mode : Mode) (begun : Bool) (r : Run) → Signals mode begun r → asks_again (not begun) r ≡ false → signal_of begun r ≡ None
none_signalled mode begun r (inl s) h = s.none
none_signalled mode begun r (inr s) h = absurd (cc (sym s.told ∙ h))

pub updates_done : (a : Asking) (s : Session) (before handles : List Commit) (taken : List (List ℕ)) (m : List ℕ) (i : Interpreting) (rest : Rest) (u : Updating)
    → ReadSo a taken m rest i → TakesAll a.base before u s handles (client_so_far a taken).progress rest (Ok tt)
    → DoneSo a taken m before handles s u i
updates_done a s before handles taken m i rest u rd (halt, fault, retry, ahead) =
    let cl : Client = client_so_far a taken in
    let limit : ℕ = room (course a) in
    let r : Run = run_next a taken m in
    let h : Held = apply_within limit cl.progress r.updates in
    let halted : h.halt ≡ None = ap (λ (x : Run). (apply_within limit cl.progress x.updates).halt) (sym rd.run) ∙ halt in
    let faultless : r.fault ≡ None = ap (λ (x : Run). x.fault) (sym rd.run) ∙ fault in
    let again : asks_again (not cl.begun) r ≡ false = sym rd.retry ∙ retry in
    let none : signal_of cl.begun r ≡ None = none_signalled a.mode cl.begun r rd.signals again in
    let place : i.place ≡ r.place = ap (λ (j : Interpreting). j.place) rd.stands in
    let ahead_so : Ahead a.base before u s handles h.progress = subst (λ (x : Run). Ahead a.base before u s handles (apply_within limit cl.progress x.updates).progress) rd.run ahead in
    record {
      met = rd.moves.met ∙ ap (λ o. met_after (course a) o r.fault (signal_of cl.begun r) (is_at_end r.place)) halted ∙ ap (λ o. met_after (course a) None o (signal_of cl.begun r) (is_at_end r.place)) faultless
          ∙ ap (λ n. met_after (course a) None None n (is_at_end r.place)) none ∙ ap (λ p. met_after (course a) None None None (is_at_end p)) (sym place);
      ahead = subst (λ (x : Progress). Ahead a.base before u s handles x) (sym rd.moves.progress) ahead_so;
      stands = rd.stands ∙ ap (λ b. record { begun = true; place = r.place; signalled = b }) again ∙ ap (λ p. record { begun = true; place = p; signalled = false }) (sym rd.moves.place);
    }

-- so the interpreter is finished where the text has ended
over_is : (i : Interpreting) (p : Place) → i ≡ record { begun = true; place = p; signalled = false } → is_over i ≡ is_at_end i.place
over_is i p e = ap is_over e ∙ ap (λ (j : Interpreting). is_at_end j.place) (sym e)

-- the text has ended
pub text_ends : (a : Asking) (y : Exchange) (s : Session) (before handles : List Commit) (taken : List (List ℕ)) (m message : List ℕ) (q : ClientSequence TsigKey) (u : Updating) (i : Interpreting)
    → ChecksReply a taken m message q → DoneSo a taken m before handles s u i → is_over i ≡ true → TakesMessage a y s before handles taken m (Ok (Some done.Updated))
text_ends a y s before handles taken m message q u i ck d e =
    let end : is_at_end i.place ≡ true = sym (over_is i (client_so_far a (taken ++ m ∷ [])).place d.stands) ∙ e in
    takes_so a y s before handles taken m Updated tt ck.headed ck.sound (d.met ∙ ap (λ b. met_after (course a) None None None b) end) d.ahead.made

-- .. or goes on
pub text_goes_on : (a : Asking) (x : Exchange) (s t : Session) (before handles now : List Commit) (taken : List (List ℕ)) (m message : List ℕ) (y : Exchange) (rest : Rest)
    → ExchangeStands x s a taken before handles → ChecksReply a taken m message y.sequence → ReadSo a taken m rest y.interpreter
    → DoneSo a taken m before now t y.updater y.interpreter → is_over y.interpreter ≡ false → y.id ≡ x.id → y.question ≡ x.question → y.serial ≡ x.serial
    → ExchangeStands y t a (taken ++ m ∷ []) before now
text_goes_on a x s t before handles now taken m message y rest st ck rd d e id question serial =
    let next : Client = client_so_far a (taken ++ m ∷ []) in
    let open_still : is_at_end y.interpreter.place ≡ false = sym (over_is y.interpreter next.place d.stands) ∙ e in
    record {
      key = ck.key;
      sequence = ck.stands;
      id = id ∙ st.id;
      question = question ∙ st.question;
      serial = serial ∙ st.serial;
      interpreter = d.stands ∙ ap (λ (b : Bool). record { begun = b; place = next.place; signalled = false }) (sym rd.moves.begun);
      unmet = d.met ∙ ap (λ b. met_after (course a) None None None b) open_still;
      ahead = d.ahead;
      passed = one_passed (fault_so_far a) taken m st.passed ck.sound ck.headed;
    }
