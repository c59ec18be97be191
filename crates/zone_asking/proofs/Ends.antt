-- Which status a run ends with, from what its parts tell.
use Rattle.std.specs.Prelude.{◌≡◌, ◌≢◌, ◌⊎◌, ◌<◌, ◌≤◌, ℕ, List, length, Option, Ok, Err, Result, IsTrue}
use Rattle.std.proofs.Common.{refl, sym, ap, ◌∙◌, subst, inl, inr, arith}
use Rattle.tsig_port.specs.Tsig.{TsigKey}
use Rattle.zone_model.specs.Commits.{Commit}
use Rattle.zone_reads.specs.Session.{Session}
use Rattle.zone_devices.specs.Calls.{Rose}
use Rattle.zone_script.specs.Script as scripts
use Rattle.zone_script.specs.Script.{script_of}
use Rattle.zone_script.specs.ScriptReaders.{wire_readers}
use Rattle.xfr_client.specs.SoFar.{Asking}
use Rattle.zone_report.specs.Notices.{is_fault}
use Rattle.xfr_outcomes.specs.declared.outcome.SyncOk.{SyncOk}
use Rattle.xfr_outcomes.specs.declared.outcome.SyncError.TheVariants as why
use Rattle.zone_report.specs.declared.status.Status.{Status}
use Rattle.zone_report.specs.declared.status.Status.TheVariants as ends
use Rattle.zone_asking.specs.declared.limits.Limits.{Limits}
use Rattle.zone_asking.specs.declared.errors.AskError.{AskError}
use Rattle.zone_asking.specs.declared.errors.AskError.TheVariants.{Transfer, Response, Cut, Limit, FullSet, SourceFault, SinkFault}
use Rattle.zone_asking.specs.Reporting.{ask_status}
use Rattle.zone_asking.specs.Exchanges.{Crossing, ComesLater, IsUnmade, Asks, Exchanges}
use Rattle.zone_asking.specs.Retries.{ExchangesByRule}
use Rattle.zone_asking.specs.Running.{TellsScript, TellsStreams}

-- no exchange is answered by a fault of a link
abbrev pub by_link : Result SyncOk AskError
by_link = Err (Transfer why.LinkFault)

asks_no_link : (a : Asking) (replies : List (List ℕ)) (x : Crossing) (answer : Result SyncOk AskError) → Asks a replies x answer → answer ≢ by_link
asks_no_link a replies x answer (inl k) e = subst (λ (r : Result SyncOk AskError). IsUnmade a r) e k.cause
asks_no_link a replies x answer (inr (inl k)) e = cc (sym k.failed ∙ e)
asks_no_link a replies x answer (inr (inr k)) e = subst (λ (r : Result SyncOk AskError). ComesLater r) e k.later

pub no_link : (limits : Limits) (a : Asking) (x : Crossing) (before handles : List Commit) (s : Session) (answer : Result SyncOk AskError) → ExchangesByRule limits a x before handles s answer → answer ≢ by_link
no_link limits a x before handles s answer (inl k) = asks_no_link a k.0.replies x answer k.0.asks
no_link limits a x before handles s answer (inr k) = asks_no_link _ k.two.replies _ answer k.two.asks

-- ---- the faults of the streams

-- the cause of a status that tells one
cause : (answer : Result SyncOk AskError) (source sink : Type 0) → answer ≢ by_link → (answer ≡ Err SourceFault → source) → (answer ≡ Err SinkFault → sink) → ask_status answer ≡ ends.LinkFault → source ⊎ sink
cause (Ok done) source sink unlinked f g h = cc
cause (Err SourceFault) source sink unlinked f g h = inl (f refl)
cause (Err SinkFault) source sink unlinked f g h = inr (g refl)
cause (Err Cut) source sink unlinked f g h = cc
cause (Err (Limit which)) source sink unlinked f g h = cc
cause (Err FullSet) source sink unlinked f g h = cc
cause (Err (Response code)) source sink unlinked f g h = cc
cause (Err (Transfer why.LinkFault)) source sink unlinked f g h = absurd (unlinked refl)
cause (Err (Transfer why.Memory)) source sink unlinked f g h = cc
cause (Err (Transfer why.NoSoa)) source sink unlinked f g h = cc
cause (Err (Transfer (why.Request x))) source sink unlinked f g h = cc
cause (Err (Transfer why.Ended)) source sink unlinked f g h = cc
cause (Err (Transfer (why.Short x))) source sink unlinked f g h = cc
cause (Err (Transfer (why.Primary x))) source sink unlinked f g h = cc
cause (Err (Transfer why.TooManyMessages)) source sink unlinked f g h = cc
cause (Err (Transfer (why.Tsig x))) source sink unlinked f g h = cc
cause (Err (Transfer why.OtherAnswer)) source sink unlinked f g h = cc
cause (Err (Transfer (why.Xfr x))) source sink unlinked f g h = cc
cause (Err (Transfer (why.Iteration x))) source sink unlinked f g h = cc
cause (Err (Transfer (why.Update x))) source sink unlinked f g h = cc
cause (Err (Transfer why.VersionsExhausted)) source sink unlinked f g h = cc

not_steady : (old new : ℕ) → old < new → new ≡ old → ⊥
not_steady old new rose same = omega (arith, rose, same)

source_rose : (answer : Result SyncOk AskError) (old new : ℕ) → (answer ≢ Err SourceFault → new ≡ old) → old < new → ask_status answer ≡ ends.LinkFault
source_rose (Err SourceFault) old new steady rose = refl
source_rose (Ok done) old new steady rose = absurd (not_steady old new rose (steady (λ e. cc)))
source_rose (Err SinkFault) old new steady rose = refl
source_rose (Err (Limit which)) old new steady rose = absurd (not_steady old new rose (steady (λ e. cc)))
source_rose (Err FullSet) old new steady rose = absurd (not_steady old new rose (steady (λ e. cc)))
source_rose (Err Cut) old new steady rose = absurd (not_steady old new rose (steady (λ e. cc)))
source_rose (Err (Response code)) old new steady rose = absurd (not_steady old new rose (steady (λ e. cc)))
source_rose (Err (Transfer e)) old new steady rose = absurd (not_steady old new rose (steady (λ h. cc)))

sink_rose : (answer : Result SyncOk AskError) (old new : ℕ) → (answer ≢ Err SinkFault → new ≡ old) → old < new → ask_status answer ≡ ends.LinkFault
sink_rose (Err SourceFault) old new steady rose = refl
sink_rose (Ok done) old new steady rose = absurd (not_steady old new rose (steady (λ e. cc)))
sink_rose (Err SinkFault) old new steady rose = refl
sink_rose (Err (Limit which)) old new steady rose = absurd (not_steady old new rose (steady (λ e. cc)))
sink_rose (Err FullSet) old new steady rose = absurd (not_steady old new rose (steady (λ e. cc)))
sink_rose (Err Cut) old new steady rose = absurd (not_steady old new rose (steady (λ e. cc)))
sink_rose (Err (Response code)) old new steady rose = absurd (not_steady old new rose (steady (λ e. cc)))
sink_rose (Err (Transfer e)) old new steady rose = absurd (not_steady old new rose (steady (λ h. cc)))

pub tells_answer : (answer : Result SyncOk AskError) (status : Status) (source_old source_new sink_old sink_new : ℕ) → status ≡ ask_status answer → answer ≢ by_link
    → (answer ≡ Err SourceFault → Rose source_old source_new) → (answer ≢ Err SourceFault → source_new ≡ source_old) → (answer ≡ Err SinkFault → Rose sink_old sink_new) → (answer ≢ Err SinkFault → sink_new ≡ sink_old)
    → TellsStreams source_old source_new sink_old sink_new status
tells_answer answer status source_old source_new sink_old sink_new is unlinked source_failed source_steady sink_failed sink_steady = record {
  fault = λ h. cause answer (Rose source_old source_new) (Rose sink_old sink_new) unlinked source_failed sink_failed (sym is ∙ h);
  source_told = λ rose. inl (is ∙ source_rose answer source_old source_new source_steady rose);
  sink_told = λ rose. inl (is ∙ sink_rose answer sink_old sink_new sink_steady rose);
}

-- .. where the report's sink may fail after it
pub tells_last : (source_old source_new sink_old sink_new : ℕ) (r s : Status) → (r ≢ ends.SinkFault → r ≡ s) → TellsStreams source_old source_new sink_old sink_new s → TellsStreams source_old source_new sink_old sink_new r
tells_last source_old source_new sink_old sink_new r s done t = by r done
  where
    same : (r : Status) → r ≡ s → TellsStreams source_old source_new sink_old sink_new r
    same r e = subst (λ x. TellsStreams source_old source_new sink_old sink_new x) (sym e) t

    by : (r : Status) → (r ≢ ends.SinkFault → r ≡ s) → TellsStreams source_old source_new sink_old sink_new r
    by ends.SinkFault done = record { fault = λ h. cc; source_told = λ rose. inr (inl refl); sink_told = λ rose. inr (inl refl) }
    by ends.Done done = same ends.Done (done (λ h. cc))
    by ends.Refused done = same ends.Refused (done (λ h. cc))
    by ends.Usage done = same ends.Usage (done (λ h. cc))
    by ends.Script done = same ends.Script (done (λ h. cc))
    by ends.SourceFault done = same ends.SourceFault (done (λ h. cc))
    by ends.Memory done = same ends.Memory (done (λ h. cc))
    by ends.LinkFault done = same ends.LinkFault (done (λ h. cc))
    by ends.TooLong done = same ends.TooLong (done (λ h. cc))

pub tells_memory : (source_old source_new sink_old sink_new : ℕ) → TellsStreams source_old source_new sink_old sink_new ends.Memory
tells_memory source_old source_new sink_old sink_new = record { fault = λ h. cc; source_told = λ rose. inr (inr refl); sink_told = λ rose. inr (inr refl) }

-- streams that stayed as they were
pub tells_idle : (source sink : ℕ) (s : Status) → s ≢ ends.LinkFault → TellsStreams source source sink sink s
tells_idle source sink s unlinked = record {
  fault = λ h. absurd (unlinked h);
  source_told = λ rose. absurd (omega (arith, rose));
  sink_told = λ rose. absurd (omega (arith, rose));
}

pub tells_line : (source sink : ℕ) (s : Status) → (s ≡ ends.Script) ⊎ ((s ≡ ends.SinkFault) ⊎ (s ≡ ends.Memory)) → TellsStreams source source sink sink s
tells_line source sink s (inl e) = tells_idle source sink s (λ h. absurd (cc (sym e ∙ h)))
tells_line source sink s (inr (inl e)) = tells_idle source sink s (λ h. absurd (cc (sym e ∙ h)))
tells_line source sink s (inr (inr e)) = tells_idle source sink s (λ h. absurd (cc (sym e ∙ h)))

-- ---- the script

pub script_tells : (text t items : List ℕ) (s : Status) → t ≡ text → t ≡ items → length items ≤ 16777216
    → ((script : scripts.Script TsigKey) → script_of wire_readers t ≡ Ok script → s ≢ ends.Script) → ((n : ℕ) → script_of wire_readers t ≡ Err n → (s ≡ ends.Script) ⊎ IsTrue (is_fault s))
    → (s ≢ ends.Usage) × (s ≢ ends.SourceFault) × (s ≢ ends.TooLong) → TellsScript text s
script_tells text t items s same value bounded script bad others = record {
  too_long = λ long. absurd (let e = ap length value in let f = ap length same in omega (arith, e, f, bounded, long));
  bad_line = λ n short spelt. bad n (ap (script_of wire_readers) same ∙ spelt);
  good = λ k short spelt. (script k (ap (script_of wire_readers) same ∙ spelt), others.2);
}
