-- The status of an answer, and its report.
use Rattle.std.specs.Prelude.{◌≡◌, ◌≢◌, ◌<◌, ℕ, List, length, true, false, Result, Ok, Err, IsTrue}
use Rattle.std.proofs.Common.{refl, sym, ap, ◌∙◌, subst, arith}
use Rattle.dns_name.specs.Names.{Name}
use Rattle.dns_rdata.specs.Records.{record_wire}
use Rattle.zone_model.specs.Commits.{Commit}
use Rattle.zone_reads.specs.Session.{Session}
use Rattle.xfr_outcomes.specs.declared.outcome.SyncOk.{SyncOk}
use Rattle.xfr_outcomes.specs.declared.outcome.SyncError.{SyncError}
use Rattle.xfr_outcomes.specs.declared.outcome.SyncError.TheVariants as why
use Rattle.zone_report.specs.Report.{ReaderLine, report}
use Rattle.zone_report.specs.Notices.{is_reported}
use Rattle.zone_report.specs.ReportsWritten.{AreReaders, Reports, status_by}
use Rattle.zone_report.specs.declared.status.Status.{Status}
use Rattle.zone_report.specs.declared.status.Status.TheVariants.{LinkFault, Memory}
use Rattle.zone_report.specs.contracts.status.StatusPartialEq.TheImpl as derived

-- a status that comes with a report
pub ends_reported : (answer : Result SyncOk SyncError) (status : Status) → status ≡ status_by answer → answer ≢ Err why.Memory → IsTrue (is_reported status)
ends_reported answer status e known = subst (λ t. IsTrue (is_reported t)) (sym e) (by answer known)
  where
    by : (answer : Result SyncOk SyncError) → answer ≢ Err why.Memory → IsTrue (is_reported (status_by answer))
    by (Ok done) h = refl
    by (Err why.LinkFault) h = refl
    by (Err why.Memory) h = absurd (h refl)
    by (Err e) h = refl

-- an answer that isn't want of memory, by its status
pub known_by_status : (answer : Result SyncOk SyncError) (status : Status) → status ≡ status_by answer → derived.ghosts.eq status Memory ≡ false → answer ≢ Err why.Memory
known_by_status answer status e test memory =
    let same : status ≡ Memory = e ∙ ap status_by memory in
    let clash : true ≡ false = ap (λ s. derived.ghosts.eq s Memory) (sym same) ∙ test in
    absurd cc

-- a status of a failed link is that of its answer
pub link_failed : (answer : Result SyncOk SyncError) (status : Status) → status ≡ status_by answer → status ≡ LinkFault → answer ≡ Err why.LinkFault
link_failed answer status e f = by answer (sym e ∙ f)
  where
    by : (r : Result SyncOk SyncError) → status_by r ≡ LinkFault → r ≡ Err why.LinkFault
    by (Ok done) h = cc
    by (Err why.LinkFault) h = refl
    by (Err why.Memory) h = cc
    by (Err e) h = cc

-- a count of faults that rose is that of the answer
pub link_fails : (answer : Result SyncOk SyncError) (status : Status) (old new : ℕ) → status ≡ status_by answer → (answer ≢ Err why.LinkFault → new ≡ old) → old < new → status ≡ LinkFault
link_fails answer status old new e steady rose = e ∙ by answer steady
  where
    not_steady : new ≡ old → ⊥
    not_steady f = omega arith

    by : (r : Result SyncOk SyncError) → (r ≢ Err why.LinkFault → new ≡ old) → status_by r ≡ LinkFault
    by (Ok done) h = absurd (not_steady (h (λ f. cc)))
    by (Err why.LinkFault) h = refl
    by (Err why.Memory) h = absurd (not_steady (h (λ f. cc)))
    by (Err e) h = absurd (not_steady (h (λ f. cc)))

-- what was made of an answer is its report
pub reports_so : (asked queries : List (Name × ℕ)) (handles : List Commit) (s : Session) (answer : Result SyncOk SyncError) (count : ℕ) (readers : List ReaderLine) (octets : List ℕ) (n : ℕ) (last : Commit) (status : Status)
    → n ≡ length handles → last ≡ s.current → status ≡ status_by answer → asked ≡ queries → AreReaders count last.number readers
    → octets ≡ report record_wire answer n last.version asked readers → Reports answer handles s queries count octets status
reports_so asked queries handles s answer count readers octets n last status counted current ends same reads is = record {
  ended = ends;
  readers = readers;
  reads = subst (λ (z : Commit). AreReaders count z.number readers) current reads;
  is =
      is ∙ ap (λ m. report record_wire answer m last.version asked readers) counted ∙ ap (λ z. report record_wire answer (length handles) z.version asked readers) current
      ∙ ap (λ q. report record_wire answer (length handles) s.current.version q readers) same;
}
