-- What the report's sink takes is due, from what the parts of a run ensure.
use Rattle.std.specs.Prelude.{◌≡◌, ◌≢◌, ◌⊎◌, ℕ, List, [], length, take, true, false, Option, Some, None, IfSome, Ok, Err, Result, IsTrue}
use Rattle.std.proofs.Common.{refl, sym, ap, ◌∙◌, subst, inl, inr}
use Rattle.dns_name.specs.Names.{Name}
use Rattle.tsig_port.specs.Tsig.{TsigKey}
use Rattle.zone_model.specs.Commits.{Commit}
use Rattle.zone_reads.specs.Session.{Session}
use Rattle.zone_model.specs.TransferText.{Mode}
use Rattle.zone_devices.specs.Streams.{with_more}
use Rattle.zone_script.specs.Script as scripts
use Rattle.zone_script.specs.Script.{script_of}
use Rattle.zone_script.specs.ScriptReaders.{wire_readers}
use Rattle.zone_script.specs.Keeping.{Gives}
use Rattle.zone_script.specs.declared.script.Script.{Script}
use Rattle.xfr_client.specs.SoFar.{Asking, asks_with}
use Rattle.zone_script.specs.BadLines.{bad_line, NamesLine}
use Rattle.zone_report.specs.Notices.{is_reported}
use Rattle.zone_report.specs.ReportsWritten.{Took, TookFirst, Wrote}
use Rattle.xfr_outcomes.specs.declared.outcome.SyncOk.{SyncOk}
use Rattle.xfr_outcomes.specs.declared.outcome.SyncError.TheVariants as why
use Rattle.zone_report.specs.declared.status.Status.{Status}
use Rattle.zone_report.specs.declared.status.Status.TheVariants as ends
use Rattle.zone_report.specs.contracts.status.StatusPartialEq.TheImpl as derived
use Rattle.zone_report.proofs.WrittenParts.{along, first_part, not_sink, with_nothing, wrote_nothing}
use Rattle.zone_asking.specs.declared.limits.Limits.{Limits}
use Rattle.zone_asking.specs.declared.errors.AskError.{AskError}
use Rattle.zone_asking.specs.declared.errors.AskError.TheVariants.{Transfer, SourceFault, SinkFault}
use Rattle.zone_asking.specs.Exchanges.{Crossing, crossing}
use Rattle.zone_asking.specs.Retries.{ExchangesByRule}
use Rattle.zone_asking.specs.Wishes.{Wish}
use Rattle.zone_asking.specs.Reporting.{ask_report, ask_status}
use Rattle.zone_asking.specs.Running.{asking_at, AskReports, IsDue, Ran, ReportsOn, Transferred, Tried, Untouched}

-- streams that are as they were
pub untouched : {left taken : Option (List ℕ)} → Untouched (crossing left left taken taken)
untouched = record { unread = refl; unwritten = refl }

-- a transfer into a new list of handles
pub transferred : (limits : Limits) (key : TsigKey) (mode : Mode) (at : ℕ) (opened base : Commit) (before handles : List Commit) (s : Session) (answer : Result SyncOk AskError) (x : Crossing) → opened ≡ base → before ≡ []
    → ExchangesByRule limits (asks_with key mode at opened) x before handles s answer → ExchangesByRule limits (asks_with key mode at base) x [] handles s answer
transferred limits key mode at opened base before handles s answer x same none says =
    subst (λ b. ExchangesByRule limits (asks_with key mode at b) x [] handles s answer) same
    (subst (λ had. ExchangesByRule limits (asks_with key mode at opened) x had handles s answer) none says)

-- .. and its parts as one
abbrev pub transfer_so : (limits : Limits) (key : TsigKey) (mode : Mode) (at : ℕ) (opened base : Commit) (before handles : List Commit) (s : Session) (answer : Result SyncOk AskError) (x : Crossing) → opened ≡ base → before ≡ []
    → ExchangesByRule limits (asks_with key mode at opened) x before handles s answer → Transferred limits (asks_with key mode at base) x
transfer_so limits key mode at opened base before handles s answer x same none says = record {
  answer = answer;
  handles = handles;
  session = s;
  says = transferred limits key mode at opened base before handles s answer x same none says;
}

-- a status that comes with a report
pub ends_reported : (answer : Result SyncOk AskError) (status : Status) → status ≡ ask_status answer → derived.ghosts.eq status ends.Memory ≡ false → IsTrue (is_reported status)
ends_reported answer status e test = subst (λ t. IsTrue (is_reported t)) (sym e) (by answer (ap (λ s. derived.ghosts.eq s ends.Memory) (sym e) ∙ test))
  where
    by : (answer : Result SyncOk AskError) → derived.ghosts.eq (ask_status answer) ends.Memory ≡ false → IsTrue (is_reported (ask_status answer))
    by (Ok done) h = refl
    by (Err SourceFault) h = refl
    by (Err SinkFault) h = refl
    by (Err (Transfer why.LinkFault)) h = refl
    by (Err (Transfer why.Memory)) h = let clash : true ≡ false = h in absurd cc
    by (Err e) h = refl

-- its report
pub reported_so : (w : Wish) (at : ℕ) (script : Script) (x : Crossing) (t : Transferred w.limits (asks_with script.key w.mode at script.secondary) x) (n : ℕ) (last : Commit) (status : Status) (asked : List (Name × ℕ)) (octets : List ℕ)
    → n ≡ length t.handles → last ≡ t.session.current → status ≡ ask_status t.answer → derived.ghosts.eq status ends.Memory ≡ false → asked ≡ script.queries → octets ≡ ask_report t.answer n last.version asked → ReportsOn w at script x octets status
reported_so w at script x t n last status asked octets counted current ended known same is = record {
  transfer = t;
  reports = record {
    ended = ended;
    is = is ∙ ap (λ m. ask_report t.answer m last.version asked) counted ∙ ap (λ z. ask_report t.answer (length t.handles) z.version asked) current
        ∙ ap (λ q. ask_report t.answer (length t.handles) t.session.current.version q) same;
  };
  known = ends_reported t.answer status ended known;
}

-- a report that was written whole
pub report_taken : (w : Wish) (at : ℕ) (script : Script) (x : Crossing) (octets shown : List ℕ) (status s : Status) (taken_old taken_new : Option (List ℕ)) → ReportsOn w at script x octets status → shown ≡ octets
    → (s ≢ ends.SinkFault → s ≡ status) → (s ≢ ends.SinkFault → taken_new ≡ with_more shown taken_old) → IsTrue (is_reported s) → Took (λ o. ReportsOn w at script x o s) taken_old taken_new
report_taken w at script x octets shown status s taken_old taken_new r same done written h = record {
  octets = octets;
  due = subst (λ t. ReportsOn w at script x octets t) (sym (done (not_sink s h))) r;
  taken = written (not_sink s h) ∙ ap (λ o. with_more o taken_old) same;
}

-- what a text spells, as a script that was read
abbrev pub Spelt : List ℕ → Script → Type 0
Spelt text k = (t : scripts.Script TsigKey) × (script_of wire_readers text ≡ Ok t) × Gives t k

-- what holds of a transfer that was asked as the script was read holds of one that is asked as it says
asked_so : (w : Wish) (at : ℕ) (Holds : Asking → List (Name × ℕ) → Type 0) (text : List ℕ) (k : Script) (spelt : Spelt text k) → Holds (asks_with k.key w.mode at k.secondary) k.queries → Holds (asking_at at w.mode spelt.0 k.key) spelt.0.queries
asked_so w at Holds text k spelt r =
    let t = spelt.0 in
    let own = subst (λ (z : Commit). Holds (asks_with k.key w.mode at z) k.queries) spelt.2.secondary r in
    subst (λ (q : List (Name × ℕ)). Holds (asking_at at w.mode t k.key) q) spelt.2.queries own

-- a transfer of the script that a text spells, for words that ask for that kind
tried_so : (w : Wish) (at : ℕ) (text : List ℕ) (x : Crossing) (k : Script) → Spelt text k → Transferred w.limits (asks_with k.key w.mode at k.secondary) x → Tried w at (Some text) x
tried_so w at text x k spelt t = record {
  text = text;
  whole = refl;
  script = spelt.0;
  spells = spelt.1;
  key = k.key;
  keyed = spelt.2.key;
  transfer = asked_so w at (λ a queries. Transferred w.limits a x) text k spelt t;
}

-- .. and its report
ran_so : (w : Wish) (at : ℕ) (text : List ℕ) (x : Crossing) (octets : List ℕ) (s : Status) (k : Script) → Spelt text k → ReportsOn w at k x octets s → Ran w at (Some text) x octets s
ran_so w at text x octets s k spelt r =
    let asked = asked_so w at (λ a queries. (t : Transferred w.limits a x) × AskReports t.answer t.handles t.session queries octets s) text k spelt (r.transfer, r.reports) in
    record {
      tried = record { text = text; whole = refl; script = spelt.0; spells = spelt.1; key = k.key; keyed = spelt.2.key; transfer = asked.0 };
      reports = asked.1;
    }

due_of_report : (w : Wish) (at : ℕ) (text : List ℕ) (x : Crossing) (octets : List ℕ) (s : Status) (k : Script) → Spelt text k → ReportsOn w at k x octets s → IsDue w at (Some text) x octets s
due_of_report w at text x octets s k spelt r = by s r.known (ran_so w at text x octets s k spelt r)
  where
    by : (s : Status) → IsTrue (is_reported s) → Ran w at (Some text) x octets s → IsDue w at (Some text) x octets s
    by ends.Done h r = r
    by ends.Refused h r = r
    by ends.LinkFault h r = r
    by ends.Usage h r = cc
    by ends.Script h r = cc
    by ends.SourceFault h r = cc
    by ends.SinkFault h r = cc
    by ends.Memory h r = cc
    by ends.TooLong h r = cc

pub first_due_of_report : (w : Wish) (at : ℕ) (text : List ℕ) (x : Crossing) (taken_old taken_new : Option (List ℕ)) (k : Script) → Spelt text k → TookFirst (ReportsOn w at k x) taken_old taken_new → TookFirst (IsDue w at (Some text) x) taken_old taken_new
first_due_of_report w at text x taken_old taken_new k spelt t =
    record { octets = t.octets; status = t.status; count = t.count; due = due_of_report w at text x t.octets t.status k spelt t.due; taken = t.taken }

pub written_of_transfer : (w : Wish) (at : ℕ) (text : List ℕ) (x : Crossing) (taken_old taken_new : Option (List ℕ)) (s : Status) (k : Script) → Spelt text k → (IsTrue (is_reported s) → Took (λ octets. ReportsOn w at k x octets s) taken_old taken_new)
    → (s ≡ ends.Memory → taken_new ≡ taken_old) → Untouched x ⊎ Transferred w.limits (asks_with k.key w.mode at k.secondary) x → (s ≢ ends.Usage) × (s ≢ ends.SourceFault) × (s ≢ ends.TooLong) × (s ≢ ends.Script) → s ≢ ends.SinkFault
    → Took (λ octets. IsDue w at (Some text) x octets s) taken_old taken_new
written_of_transfer w at text x taken_old taken_new s k spelt reported nothing made others no_sink = by s reported nothing others no_sink
  where
    passed : Untouched x ⊎ Transferred w.limits (asks_with k.key w.mode at k.secondary) x → Untouched x ⊎ Tried w at (Some text) x
    passed (inl u) = inl u
    passed (inr t) = inr (tried_so w at text x k spelt t)

    as_due : (s : Status) → Took (λ octets. ReportsOn w at k x octets s) taken_old taken_new → Took (λ octets. IsDue w at (Some text) x octets s) taken_old taken_new
    as_due s t = record { octets = t.octets; due = due_of_report w at text x t.octets s k spelt t.due; taken = t.taken }

    by : (s : Status) → (IsTrue (is_reported s) → Took (λ octets. ReportsOn w at k x octets s) taken_old taken_new)
        → (s ≡ ends.Memory → taken_new ≡ taken_old) → (s ≢ ends.Usage) × (s ≢ ends.SourceFault) × (s ≢ ends.TooLong) × (s ≢ ends.Script) → s ≢ ends.SinkFault
        → Took (λ octets. IsDue w at (Some text) x octets s) taken_old taken_new
    by ends.Done reported nothing others no_sink = as_due ends.Done (reported refl)
    by ends.Refused reported nothing others no_sink = as_due ends.Refused (reported refl)
    by ends.LinkFault reported nothing others no_sink = as_due ends.LinkFault (reported refl)
    by ends.Memory reported nothing others no_sink = record { octets = []; due = (refl, passed made); taken = nothing refl ∙ with_nothing taken_old }
    by ends.SinkFault reported nothing others no_sink = absurd (no_sink refl)
    by ends.Usage reported nothing others no_sink = absurd (others.0 refl)
    by ends.SourceFault reported nothing others no_sink = absurd (others.1 refl)
    by ends.TooLong reported nothing others no_sink = absurd (others.2 refl)
    by ends.Script reported nothing others no_sink = absurd (others.3 refl)

-- the number of a bad line is due
line_due : (text : List ℕ) (x : Crossing) (number : ℕ) → Untouched x → script_of wire_readers text ≡ Err number → NamesLine (Some text) (bad_line number) × Untouched x
line_due text x number idle bad = (record { text = text; whole = refl; number = number; bad = bad; is = refl }, idle)

-- it was written, or a first part of it, or nothing
pub wrote_line : (w : Wish) (at : ℕ) (text : List ℕ) (x : Crossing) (number : ℕ) (old new : Option (List ℕ)) (s : Status) → Untouched x → script_of wire_readers text ≡ Err number
    → (s ≡ ends.Script → new ≡ with_more (bad_line number) old) → (s ≡ ends.SinkFault → (n : ℕ) × (new ≡ with_more (take n (bad_line number)) old)) → (s ≡ ends.Memory → new ≡ old)
    → (s ≡ ends.Script) ⊎ ((s ≡ ends.SinkFault) ⊎ (s ≡ ends.Memory)) → Wrote (IsDue w at (Some text) x) old new s
wrote_line w at text x number old new s idle bad written part nothing others = by others
  where
    by : (s ≡ ends.Script) ⊎ ((s ≡ ends.SinkFault) ⊎ (s ≡ ends.Memory)) → Wrote (IsDue w at (Some text) x) old new s
    by (inl e) = subst (λ (t : Status). Wrote (IsDue w at (Some text) x) old new t) (sym e) (record {
      whole = λ well. record { octets = bad_line number; due = line_due text x number idle bad; taken = written e };
      part = λ failed. cc;
    })
    by (inr (inl e)) = record {
      whole = λ well. absurd (well e);
      part = λ failed. first_part (IsDue w at (Some text) x) (bad_line number) ends.Script old new (line_due text x number idle bad) (part failed);
    }
    by (inr (inr e)) = subst (λ (t : Status). Wrote (IsDue w at (Some text) x) old new t) (sym e) (wrote_nothing (IsDue w at (Some text) x) old new (refl, inl idle) (nothing e))

-- ---- what is due of a text that a file had

due_of_file : (w : Wish) (at : ℕ) (left : Option (List ℕ)) (text : List ℕ) (x : Crossing) (octets : List ℕ) (s : Status) → IfSome left (λ had. text ≡ had) → IsDue w at (Some text) x octets s → IsDue w at left x octets s
due_of_file w at left text x octets s e = by s
  where
    as_tried : Tried w at (Some text) x → Tried w at left x
    as_tried r = record { text = r.text; whole = along left text r.text e r.whole; script = r.script; spells = r.spells; key = r.key; keyed = r.keyed; transfer = r.transfer }

    as_ran : (s : Status) → Ran w at (Some text) x octets s → Ran w at left x octets s
    as_ran s r =
        let k = r.tried in
        let tried : Tried w at left x = record { text = k.text; whole = along left text k.text e k.whole; script = k.script; spells = k.spells; key = k.key; keyed = k.keyed; transfer = k.transfer } in
        record { tried = tried; reports = r.reports }

    passed : Untouched x ⊎ Tried w at (Some text) x → Untouched x ⊎ Tried w at left x
    passed (inl u) = inl u
    passed (inr t) = inr (as_tried t)

    by : (s : Status) → IsDue w at (Some text) x octets s → IsDue w at left x octets s
    by ends.Done r = as_ran ends.Done r
    by ends.Refused r = as_ran ends.Refused r
    by ends.LinkFault r = as_ran ends.LinkFault r
    by ends.Script r = (record { text = r.0.text; whole = along left text r.0.text e r.0.whole; number = r.0.number; bad = r.0.bad; is = r.0.is }, r.1)
    by ends.Usage r = r
    by ends.SourceFault r = r
    by ends.SinkFault r = r
    by ends.Memory r = (r.0, passed r.1)
    by ends.TooLong r = r

pub written_of_file : (w : Wish) (at : ℕ) (left : Option (List ℕ)) (text : List ℕ) (x : Crossing) (taken_old taken_new : Option (List ℕ)) (s : Status) → IfSome left (λ had. text ≡ had)
    → Took (λ octets. IsDue w at (Some text) x octets s) taken_old taken_new → Took (λ octets. IsDue w at left x octets s) taken_old taken_new
written_of_file w at left text x taken_old taken_new s e t = record { octets = t.octets; due = due_of_file w at left text x t.octets s e t.due; taken = t.taken }

pub first_of_file : (w : Wish) (at : ℕ) (left : Option (List ℕ)) (text : List ℕ) (x : Crossing) (taken_old taken_new : Option (List ℕ)) → IfSome left (λ had. text ≡ had)
    → TookFirst (IsDue w at (Some text) x) taken_old taken_new → TookFirst (IsDue w at left x) taken_old taken_new
first_of_file w at left text x taken_old taken_new e t = record { octets = t.octets; status = t.status; count = t.count; due = due_of_file w at left text x t.octets t.status e t.due; taken = t.taken }
