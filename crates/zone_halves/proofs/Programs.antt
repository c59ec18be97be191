-- The runs of both programs, unfolded.
use Rattle.std.proofs.Common.{◌≡◌, ℕ, ◌≤◌, Bool, true, false, List, [], length, refl, sym, ap, ◌∙◌, subst, ◌⊎◌, inl, inr, Option, Some, None, IfSome, Result, Ok, Err}
use Rattle.std.specs.Prelude.{◌≢◌}
use Rattle.tsig_port.specs.Tsig.{TsigKey}
use Rattle.zone_model.specs.Version.{Version, Same}
use Rattle.zone_model.specs.Commits.{Commit}
use Rattle.zone_reads.specs.Session.{Session}
use Rattle.zone_devices.specs.Calls.{Rose}
use Rattle.message_frames.specs.Frames.{frame_of}
use Rattle.xfr_services.specs.Items.{Sending}
use Rattle.xfr_outcomes.specs.declared.outcome.SyncOk.{SyncOk}
use Rattle.xfr_outcomes.specs.declared.outcome.SyncError.{SyncError}
use Rattle.xfr_outcomes.specs.declared.outcome.SyncError.TheVariants as why
use Rattle.zone_script.specs.Script.{Script, script_of}
use Rattle.zone_script.specs.ScriptReaders.{wire_readers}
use Rattle.zone_report.specs.declared.status.Status.{Status}
use Rattle.zone_report.specs.declared.status.Status.TheVariants as ends
use Rattle.zone_serving.specs.StreamServing.{ServesStream}
use Rattle.zone_primary_run.specs.ScriptPrimaries.{PrimaryParts, primary_in}
use Rattle.zone_primary_run.specs.PrimaryRuns.{SpellsPrimary, ServesScript, RunsText, ReadsScript, RunsWords, stream_of}
use Rattle.xfr_client.specs.SoFar.{Asking, asked_octets}
use Rattle.zone_asking.specs.declared.errors.AskError.{AskError}
use Rattle.zone_asking.specs.declared.errors.AskError.TheVariants as ask
use Rattle.zone_asking.specs.declared.program.RunEnd.{RunEnd}
use Rattle.zone_asking.specs.declared.program.RunEnd.TheVariants.{By}
use Rattle.zone_asking.specs.Exchanges.{Crossing}
use Rattle.zone_asking.specs.Retries.{ExchangesByRule}
use Rattle.zone_asking.specs.Reporting.{ask_status}
use Rattle.zone_asking.specs.Running.{Met, RunsOn, Ran, Tried, asking_at}
use Rattle.zone_asking.specs.Wishes.{Wish}
use Rattle.zone_sync.specs.Delivery.{IsGranted}
use Rattle.zone_halves.specs.Meeting.{IsSteady, DeliversBy}
use Rattle.zone_halves.specs.Programs.{ServesOne, AsksOnce, Fetched, ProgramDelivers}

-- ---- what is read is read once

abbrev value_of : {S : Type 0} → S → Result S ℕ → S
value_of d (Ok s) = s
value_of d (Err n) = d

abbrev some_of : {K : Type 0} → K → Option K → K
some_of d (Some k) = k
some_of d None = d

one_value : {S : Type 0} (r : Result S ℕ) (s t : S) → r ≡ Ok s → r ≡ Ok t → s ≡ t
one_value r s t e f = ap (value_of s) (sym e ∙ f)

one_key : {S K : Type 0} (key_of : S → Option K) (s t : S) (k l : K) → s ≡ t → key_of s ≡ Some k → key_of t ≡ Some l → k ≡ l
one_key key_of s t k l same e f = ap (some_of k) (sym e ∙ ap key_of same ∙ f)

one_made : {S K P : Type 0} (make : S → K → P) (s t : S) (k l : K) (p q : P) → s ≡ t → k ≡ l → p ≡ make s k → q ≡ make t l → p ≡ q
one_made make s t k l p q e f g h = g ∙ ap (λ x. make x k) e ∙ ap (make t) f ∙ sym h

-- a text spells one primary
one_primary : (text other : List ℕ) (p q : PrimaryParts) → text ≡ other → SpellsPrimary text p → SpellsPrimary other q → p ≡ q
one_primary text other p q same x y =
    let scripts = one_value (script_of wire_readers other) x.script y.script (subst (λ t. script_of wire_readers t ≡ Ok x.script) same x.spelt) y.spelt in
    one_made primary_in x.script y.script x.key y.key p q scripts (one_key (λ (s : Script TsigKey). s.key) x.script y.script x.key y.key scripts x.keyed y.keyed) x.is y.is

-- ---- the primary's program

-- its primary served the stream
pub serves_one : (SendsAt : ℕ → PrimaryParts → List ℕ → Option (List Sending) → Type 0) (p : PrimaryParts) (at : ℕ) (request : List ℕ) (written : Option (List ℕ)) (k : ServesOne SendsAt p at request written)
    → ServesStream (SendsAt at p) (Some (frame_of request)) k.source (Some []) written (Ok k.served)
serves_one SendsAt p at request written k = by k.file k.opened k.runs
  where
    read : ReadsScript (λ t. RunsText (SendsAt at) t (stream_of (Some (frame_of request)) k.source (Some []) written) (Ok k.served)) (Some k.text)
        → ServesStream (SendsAt at p) (Some (frame_of request)) k.source (Some []) written (Ok k.served)
    read r =
        let served : ServesScript (SendsAt at) r.text (stream_of (Some (frame_of request)) k.source (Some []) written) (Ok k.served) = r.runs in
        subst (λ q. ServesStream (SendsAt at q) (Some (frame_of request)) k.source (Some []) written (Ok k.served))
        (one_primary r.text k.text served.primary p (sym r.told) served.spelt k.spelt) served.serves

    by : (file : Option (List ℕ)) (opened : Bool) → RunsWords SendsAt file opened (Some at) (Some k.text) k.left (stream_of (Some (frame_of request)) k.source (Some []) written) (Ok k.served)
        → ServesStream (SendsAt at p) (Some (frame_of request)) k.source (Some []) written (Ok k.served)
    by None opened r = absurd (cc r.told)
    by (Some file) false r = absurd (cc r.told)
    by (Some file) true r = read r.0

-- the request is one that a frame can hold
pub request_is_short : (Sends : List ℕ → Option (List Sending) → Type 0) (a : Asking) (at : ℕ) (v : Version) → IsGranted Sends a at 65535 v → length (asked_octets a) ≤ 65535
request_is_short Sends a at v grant = grant.request_fits

-- ---- the secondary's program

-- what is delivered comes with one of two statuses
status_error : (v : Version) (s : Session) (e : SyncError) → DeliversBy v s (Err (ask.Transfer e)) → ask_status (Err (ask.Transfer e)) ≡ ends.Memory
status_error v s why.NoSoa d = absurd d
status_error v s (why.Request x) d = absurd d
status_error v s why.LinkFault d = absurd d
status_error v s why.Ended d = absurd d
status_error v s (why.Short x) d = absurd d
status_error v s (why.Primary x) d = absurd d
status_error v s why.TooManyMessages d = absurd d
status_error v s (why.Tsig x) d = absurd d
status_error v s why.OtherAnswer d = absurd d
status_error v s (why.Xfr x) d = absurd d
status_error v s (why.Iteration x) d = absurd d
status_error v s (why.Update x) d = absurd d
status_error v s why.VersionsExhausted d = absurd d
status_error v s why.Memory d = refl

by_status : (v : Version) (s : Session) (answer : Result SyncOk AskError) → DeliversBy v s answer → ((ask_status answer ≡ ends.Done) × Same s.current.version v) ⊎ (ask_status answer ≡ ends.Memory)
by_status v s (Ok x) d = inl (refl, d)
by_status v s (Err (ask.Transfer e)) d = inr (status_error v s e d)
by_status v s (Err (ask.Response c)) d = absurd d
by_status v s (Err ask.Cut) d = absurd d
by_status v s (Err (ask.Limit which)) d = absurd d
by_status v s (Err ask.FullSet) d = absurd d
by_status v s (Err ask.SourceFault) d = absurd d
by_status v s (Err ask.SinkFault) d = absurd d

-- the status of a fault isn't told
steady : (status : Status) (answer : Result SyncOk AskError) → status ≡ ask_status answer → status ≢ ends.LinkFault → IsSteady answer
steady status answer ended other = record { source = λ e. other (ended ∙ ap ask_status e); sink = λ e. other (ended ∙ ap ask_status e) }

module _ (v : Version) (w : Wish) (at : ℕ) (script : Script TsigKey) (key : TsigKey) (Written : Option (List ℕ) → Type 0)
    (delivers : (x : Crossing) (handles : List Commit) (s : Session) (answer : Result SyncOk AskError) → ExchangesByRule w.limits (asking_at at w.mode script key) x [] handles s answer → Written x.left_old
    → IsSteady answer → DeliversBy v s answer) (m : Met) (result : RunEnd) where
  -- the transfer that was made is the script's
  made : (text : List ℕ) (t : Tried w at m.left_old m.streams) → m.left_old ≡ Some text → script_of wire_readers text ≡ Ok script → script.key ≡ Some key
      → ExchangesByRule w.limits (asking_at at w.mode script key) m.streams [] t.transfer.handles t.transfer.session t.transfer.answer
  made text t had spells keyed =
      let texts : t.text ≡ text = subst (λ o. IfSome o (λ x. t.text ≡ x)) had t.whole in
      let scripts : t.script ≡ script = one_value (script_of wire_readers text) t.script script (subst (λ x. script_of wire_readers x ≡ Ok t.script) texts t.spells) spells in
      let keys : t.key ≡ key = one_key (λ (s : Script TsigKey). s.key) t.script script t.key key scripts t.keyed keyed in
      subst (λ x. ExchangesByRule w.limits x m.streams [] t.transfer.handles t.transfer.session t.transfer.answer)
      (ap (λ x. asking_at at w.mode x t.key) scripts ∙ ap (λ x. asking_at at w.mode script x) keys) t.transfer.says

  pub program_delivers : AsksOnce w at script key m result → Written m.streams.left_old → ProgramDelivers v w at m result
  program_delivers k written = by k.runs.0 k.runs.2 k.runs.1
    where
      delivered : (status : Status) (octets : List ℕ) (r : Ran w at m.left_old m.streams octets status) → status ≢ ends.LinkFault → DeliversBy v r.tried.transfer.session r.tried.transfer.answer
      delivered status octets r other =
          let t = r.tried in
          delivers m.streams t.transfer.handles t.transfer.session t.transfer.answer (made k.text t k.had k.spells k.keyed) written (steady status t.transfer.answer r.reports.ended other)

      done : RunsOn w at m ends.Done → Fetched v w at m
      done r =
          let took = r.wrote.whole (λ h. cc h) in
          let ran : Ran w at m.left_old m.streams took.octets ends.Done = took.due in
          record { octets = took.octets; ran = ran; same = the (by_status v ran.tried.transfer.session ran.tried.transfer.answer (delivered ends.Done took.octets ran (λ h. cc h))) ran.reports.ended; wrote = took.taken }
        where
          the : {S : Type 0} {status : Status} → ((status ≡ ends.Done) × S) ⊎ (status ≡ ends.Memory) → ends.Done ≡ status → S
          the (inl x) e = x.1
          the (inr h) e = absurd (cc (e ∙ h))

      refused : RunsOn w at m ends.Refused → ⊥
      refused r =
          let took = r.wrote.whole (λ h. cc h) in
          let ran : Ran w at m.left_old m.streams took.octets ends.Refused = took.due in
          other (by_status v ran.tried.transfer.session ran.tried.transfer.answer (delivered ends.Refused took.octets ran (λ h. cc h))) ran.reports.ended
        where
          other : {S : Type 0} {status : Status} → ((status ≡ ends.Done) × S) ⊎ (status ≡ ends.Memory) → ends.Refused ≡ status → ⊥
          other (inl x) e = cc (e ∙ x.0)
          other (inr h) e = cc (e ∙ h)

      neither : Rose m.source_old m.source_new ⊎ Rose m.sink_old m.sink_new → ⊥
      neither (inl h) = k.steady.source h
      neither (inr h) = k.steady.sink h

      by : (status : Status) → RunsOn w at m status → result ≡ By status → ProgramDelivers v w at m result
      by ends.Done r is = inl (is, done r)
      by ends.Refused r is = absurd (refused r)
      by ends.Usage r is = absurd (r.wrote.whole (λ h. cc h)).due
      by ends.Script r is = absurd (((r.by_script k.text k.had).good script k.fits k.spells).0 refl)
      by ends.SourceFault r is = absurd (k.steady.file (r.file_faults.fault refl))
      by ends.SinkFault r is = absurd (k.steady.report (r.report_faults.fault refl))
      by ends.Memory r is = inr is
      by ends.LinkFault r is = absurd (neither (r.stream_faults.fault refl))
      by ends.TooLong r is = absurd (((r.by_script k.text k.had).good script k.fits k.spells).1 refl)
