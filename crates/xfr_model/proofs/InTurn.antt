-- A reader that takes messages in turn has read what is read of the whole list.
use Rattle.std.proofs.Common.{◌≡◌, ℕ, suc, ◌==◌, arith, drop, length, Bool, true, false, ◌||◌, not, if◌then◌else◌, List, [], ◌∷◌, ◌++◌, find, refl, sym, ap, ◌∙◌, append-nil, Option, Some, None, is_some, unwrap_or}
use Rattle.std.proofs.Math.Seq.{drop-append_seam}
use Rattle.std.proofs.Math.Bool.{or-true, or-false}
use Rattle.dns_rdata.specs.Records.{Record}
use Rattle.xfr_model.specs.Messages.{ReadMessage}
use Rattle.zone_model.specs.TransferText.{Mode, Axfr, Ixfr}
use Rattle.zone_model.specs.Updates.{Update}
use Rattle.xfr_model.specs.Interpreter.{mode_of, updates_in, updates_so_far}
use Rattle.xfr_model.specs.Read.{Fault, Item, items_unless, items_of, joined_items, prefixes, messages_read, ReadText, read_items, read_by, message_fault, lone_soa, retry}
use Rattle.xfr_model.specs.Machine.{ReadsNext, run_behind, InterpreterSteps, FinishesAsRead, UpdatesOn, AtStart, is_at_end, Run, run, run_items, Reader, new_reader, is_done, signal_of, reader_after, next_items, take_message, take_messages, ReadsInTurn, SignalsRetry, TellsNothing, RetryTellsNothing, TakesOn}
use Rattle.xfr_model.proofs.Runs.{runs_on}
use Rattle.xfr_model.proofs.Readers.{start_reads, run_reads, reader_of, reader_says, done_stays, find-map, or_more, later, ends, read_behind, behind_nothing, takes_later, retry_is, signal_is}

-- The laws.

-- the reader that has taken a first message
abbrev signalled : Mode → List Item → Option ℕ → Reader
signalled mode xs o = record (reader_of mode xs) { signal = o }

takes_first : (mode : Mode) (fault_of : Bool → ReadMessage → Option Fault) (m : ReadMessage) → take_message mode fault_of new_reader m ≡ signalled mode (items_of (fault_of true) m) (signal_of false (run_items mode AtStart (items_of (fault_of true) m)))
takes_first mode fault_of m = refl

-- the first message is always read, and then those after it
pub messages_begin : (mode : Mode) (fault_of : Bool → ReadMessage → Option Fault) (m : ReadMessage) (more : List ReadMessage) → messages_read mode fault_of (m ∷ more) ≡ m ∷ read_behind mode fault_of (items_of (fault_of true) m) more
messages_begin mode fault_of m more =
    let its : List Item = items_of (fault_of true) m in
    ap (λ o. unwrap_or o (m ∷ more)) (find-map (λ p. ends mode (joined_items fault_of p)) (λ p. ends mode (its ++ later fault_of p)) (λ p. m ∷ p) (λ p. refl) (prefixes more))
    ∙ or_more m more (find (λ p. ends mode (its ++ later fault_of p)) (prefixes more))

pub items_begin : (mode : Mode) (fault_of : Bool → ReadMessage → Option Fault) (m : ReadMessage) (more : List ReadMessage) → joined_items fault_of (messages_read mode fault_of (m ∷ more)) ≡ items_of (fault_of true) m ++ later fault_of (read_behind mode fault_of (items_of (fault_of true) m) more)
items_begin mode fault_of m more = ap (joined_items fault_of) (messages_begin mode fault_of m more)

pub takes_all : (mode : Mode) (fault_of : Bool → ReadMessage → Option Fault) (m : ReadMessage) (more : List ReadMessage) → retry mode fault_of (m ∷ more) ≡ None → take_messages mode fault_of new_reader (m ∷ more) ≡ reader_of mode (joined_items fault_of (messages_read mode fault_of (m ∷ more)))
takes_all mode fault_of m more h =
    ap (λ o. take_messages mode fault_of (signalled mode (items_of (fault_of true) m) o) more) (signal_is mode fault_of m more ∙ h)
    ∙ takes_later mode fault_of more (items_of (fault_of true) m)
    ∙ ap (reader_of mode) (sym (items_begin mode fault_of m more))

pub takes_signalled : (mode : Mode) (fault_of : Bool → ReadMessage → Option Fault) (m : ReadMessage) (more : List ReadMessage) (n : ℕ) → retry mode fault_of (m ∷ more) ≡ Some n → take_messages mode fault_of new_reader (m ∷ more) ≡ signalled mode (items_of (fault_of true) m) (Some n)
takes_signalled mode fault_of m more n h =
    ap (λ o. take_messages mode fault_of (signalled mode (items_of (fault_of true) m) o) more) (signal_is mode fault_of m more ∙ h)
    ∙ done_stays mode fault_of (signalled mode (items_of (fault_of true) m) (Some n)) more refl

pub reads_in_turn : ReadsInTurn
reads_in_turn mode fault_of [] h = record { records = refl; ended = refl; fault = refl; told = refl }
reads_in_turn mode fault_of (m ∷ more) h =
    let e = takes_all mode fault_of m more h in
    let r = reader_says mode (joined_items fault_of (messages_read mode fault_of (m ∷ more))) in
    record { records = ap (λ rd. rd.records) e ∙ r.records; ended = ap (λ rd. is_at_end rd.place) e ∙ r.ended; fault = ap (λ rd. rd.fault) e ∙ r.fault; told = ap (λ rd. rd.told) e ∙ r.told }

pub signals_retry : SignalsRetry
signals_retry Axfr fault_of [] = refl
signals_retry Ixfr fault_of [] = refl
signals_retry mode fault_of (m ∷ more) = by (retry mode fault_of (m ∷ more)) refl
  where
    by : (o : Option ℕ) → retry mode fault_of (m ∷ more) ≡ o → (take_messages mode fault_of new_reader (m ∷ more)).signal ≡ o
    by None h = ap (λ rd. rd.signal) (takes_all mode fault_of m more h)
    by (Some n) h = ap (λ rd. rd.signal) (takes_signalled mode fault_of m more n h)

-- a first message that signals a retry is one record
lone_tells : (f : Option Fault) (answers : List (Option Record)) (n : ℕ) → (if is_some f then None else lone_soa answers) ≡ Some n → TellsNothing (signalled Ixfr (items_unless answers f) (Some n))
lone_tells (Some f) answers n h = cc
lone_tells None [] n h = record { ended = refl; fault = refl; told = refl }
lone_tells None (None ∷ more) n h = cc
lone_tells None (Some s ∷ []) n h = record { ended = refl; fault = refl; told = refl }
lone_tells None (Some s ∷ o ∷ more) n h = cc

pub retry_tells_nothing : RetryTellsNothing
retry_tells_nothing Axfr fault_of [] n h = cc
retry_tells_nothing Ixfr fault_of [] n h = cc
retry_tells_nothing Axfr fault_of (m ∷ more) n h = cc
retry_tells_nothing Ixfr fault_of (m ∷ more) n h =
    let e = takes_signalled Ixfr fault_of m more n h in
    let r = lone_tells (fault_of true m) m.answers n h in
    record { ended = ap (λ rd. is_at_end rd.place) e ∙ r.ended; fault = ap (λ rd. rd.fault) e ∙ r.fault; told = ap (λ rd. rd.told) e ∙ r.told }

pub takes_on : TakesOn
takes_on mode fault_of rd [] more = refl
takes_on mode fault_of rd (m ∷ ms) more = takes_on mode fault_of (take_message mode fault_of rd m) ms more

-- One message more.

not_done : (rd : Reader) → is_done rd ≡ false → rd.signal ≡ None
not_done rd h = by rd.signal h
  where
    by : (o : Option ℕ) → (is_some o || is_some rd.fault || is_at_end rd.place) ≡ false → o ≡ None
    by None g = refl
    by (Some n) g = cc

one_message : (mode : Mode) (fault_of : Bool → ReadMessage → Option Fault) (m : ReadMessage) → read_by mode fault_of (m ∷ []) ≡ read_items mode (items_of (fault_of true) m)
one_message mode fault_of m =
    let its : List Item = items_of (fault_of true) m in
    ap (read_items mode) (items_begin mode fault_of m [] ∙ ap (λ p. its ++ later fault_of p) (behind_nothing mode fault_of its) ∙ append-nil its)

pub reads_next : ReadsNext
reads_next mode fault_of [] m h =
    let r = run_reads mode (items_of (fault_of true) m) in
    let e = one_message mode fault_of m in
    record {
      told = ap (λ (t : ReadText). updates_in mode t.records) e ∙ sym r.updates;
      ended = ap (λ (t : ReadText). t.ended) e ∙ sym r.ended;
      fault = ap (λ (t : ReadText). t.fault) e ∙ sym r.fault;
      signal = sym (signal_is mode fault_of m []);
      first = refl;
    }
reads_next mode fault_of (n ∷ ms) m h =
    let rd : Reader = take_messages mode fault_of new_reader (n ∷ ms) in
    let its : List Item = next_items fault_of rd.begun m in
    let a : Run = run_items mode rd.place its in
    let quiet : retry mode fault_of (n ∷ ms) ≡ None = sym (signals_retry mode fault_of (n ∷ ms)) ∙ not_done rd h in
    let still : retry mode fault_of (n ∷ ms ++ m ∷ []) ≡ None = retry_is mode fault_of n (ms ++ m ∷ []) ∙ sym (retry_is mode fault_of n ms) ∙ quiet in
    let whole = reads_in_turn mode fault_of (n ∷ ms ++ m ∷ []) still in
    let part = reads_in_turn mode fault_of (n ∷ ms) quiet in
    let next : take_messages mode fault_of new_reader (n ∷ ms ++ m ∷ []) ≡ reader_after rd its a = takes_on mode fault_of new_reader (n ∷ ms) (m ∷ []) ∙ ap (λ b. if b then rd else reader_after rd its a) h in
    record {
      told = sym whole.told ∙ ap (λ x. x.told) next ∙ ap (λ l. l ++ a.updates) part.told;
      ended = sym whole.ended ∙ ap (λ x. is_at_end x.place) next;
      fault = sym whole.fault ∙ ap (λ x. x.fault) next;
      signal = sym (signals_retry mode fault_of (n ∷ ms ++ m ∷ [])) ∙ ap (λ x. x.signal) next;
      first = ap (λ x. x.begun) (takes_all mode fault_of n ms quiet);
    }

no_zero : (n : ℕ) → (suc n == 0) ≡ false
no_zero n = grind arith

-- the updates that are new
dropped : (xs ys zs : List Update) → ys ≡ xs ++ zs → drop (length xs) ys ≡ zs
dropped xs ys zs h = ap (drop (length xs)) h ∙ drop-append_seam xs zs

pub interpreter_steps : InterpreterSteps
interpreter_steps [] m h =
    let mode : Mode = mode_of (m ∷ []) in
    let a : Run = run_behind [] m in
    let r = reads_next mode message_fault [] m h in
    record {
      updates = dropped [] (updates_so_far (m ∷ [])) a.updates r.told;
      fault = r.fault;
      finished = ap (λ b. b || is_some (retry mode message_fault (m ∷ []))) r.ended ∙ ap (λ o. is_at_end a.place || is_some o) r.signal;
      message = refl;
    }
interpreter_steps (n ∷ ms) m h =
    let mode : Mode = mode_of (n ∷ []) in
    let a : Run = run_behind (n ∷ ms) m in
    let r = reads_next mode message_fault (n ∷ ms) m h in
    record {
      updates = dropped (updates_so_far (n ∷ ms)) (updates_so_far (n ∷ ms ++ m ∷ [])) a.updates r.told;
      fault = r.fault;
      finished = ap (λ b. b || is_some (retry mode message_fault (n ∷ ms ++ m ∷ []))) r.ended ∙ ap (λ o. is_at_end a.place || is_some o) r.signal;
      message = ap (λ b. message_fault b m) (no_zero (length ms) ∙ sym (ap not r.first));
    }

some_or : {A : Type 0} (b c : Bool) (o : Option A) → (o ≡ None → b ≡ c) → (b || is_some o) ≡ (is_some o || c)
some_or b c (Some x) h = or-true b
some_or b c None h = or-false b ∙ h refl

pub finishes_as_read : FinishesAsRead
finishes_as_read ms =
    let mode : Mode = mode_of ms in
    let rd : Reader = take_messages mode message_fault new_reader ms in
    some_or (read_by mode message_fault ms).ended (is_at_end rd.place) (retry mode message_fault ms) (λ h. sym (reads_in_turn mode message_fault ms h).ended)
    ∙ ap (λ o. is_some o || is_at_end rd.place) (sym (signals_retry mode message_fault ms))

pub updates_on : UpdatesOn
updates_on mode xs ys =
    let a : Run = run mode AtStart xs in
    sym (start_reads mode (xs ++ ys)).updates ∙ ap (λ x. x.updates) (runs_on mode AtStart xs ys) ∙ ap (λ l. l ++ (run mode a.place ys).updates) (start_reads mode xs).updates
