-- The report of a transfer, from what its parts ensure.
use Rattle.std.specs.Prelude.{◌≡◌, ◌≢◌, ℕ, List, [], length, Option, Result, Err}
use Rattle.std.proofs.Common.{ap, ◌∙◌, subst}
use Rattle.dns_name.specs.Names.{Name}
use Rattle.dns_rdata.specs.Records.{record_wire}
use Rattle.tsig_port.specs.Tsig.{TsigKey}
use Rattle.zone_model.specs.Commits.{Commit}
use Rattle.zone_reads.specs.Session.{Session}
use Rattle.zone_model.specs.Version.{Version}
use Rattle.zone_generated.specs.Generated as generated
use Rattle.zone_model.specs.Offer.{Provider}
use Rattle.zone_model.specs.TransferText.{Mode}
use Rattle.zone_devices.specs.Calls.{Rose}
use Rattle.zone_devices.specs.Links.{LinkLists}
use Rattle.xfr_server.specs.Items.{Sending}
use Rattle.zone_script.specs.declared.script.Script.{Script}
use Rattle.xfr_client.specs.SoFar.{asks_with}
use Rattle.xfr_services.specs.declared.services.ServiceError.{ServiceError}
use Rattle.zone_sync.specs.Delivery.{Synchronizes}
use Rattle.zone_sync.specs.LongQuestions.{WasHandedLong}
use Rattle.xfr_outcomes.specs.declared.outcome.SyncOk.{SyncOk}
use Rattle.xfr_outcomes.specs.declared.outcome.SyncError.{SyncError}
use Rattle.xfr_outcomes.specs.declared.outcome.SyncError.TheVariants as why
use Rattle.zone_report.specs.Report.{ReaderLine, report, generated_report}
use Rattle.zone_sync.specs.Reported.{crossed, Crossed, Transferred, EndsAs, ReportsOn, ReportsNumbers, read_provider, generating_provider, generated_asking}
use Rattle.zone_report.specs.ReportsWritten.{AreReaders, status_by}
use Rattle.zone_report.specs.declared.status.Status.{Status}
use Rattle.zone_report.specs.declared.status.Status.TheVariants.{LinkFault}
use Rattle.zone_report.proofs.ReportedAnswers.{reports_so}

module _ (Sends : List ℕ → Option (List Sending) → Type 0) (at longest : ℕ) (old new : Option LinkLists) (f g : ℕ) where
  -- a transfer into a new list of handles
  pub says_of_new : (key : TsigKey) (mode : Mode) (now : ℕ) (opened base : Commit) (before handles : List Commit) (s : Session) (answer : Result SyncOk SyncError)
      → opened ≡ base → before ≡ [] → Synchronizes Sends (asks_with key mode now opened) at longest old new f g before handles s answer → Synchronizes Sends (asks_with key mode now base) at longest old new f g [] handles s answer
  says_of_new key mode now opened base before handles s answer same none says =
      subst (λ b. Synchronizes Sends (asks_with key mode now b) at longest old new f g [] handles s answer) same
      (subst (λ had. Synchronizes Sends (asks_with key mode now opened) at longest old new f g had handles s answer) none says)

  -- .. and its parts as one
  abbrev pub transfer_so : (key : TsigKey) (mode : Mode) (now : ℕ) (opened base : Commit) (before handles : List Commit) (s : Session) (answer : Result SyncOk SyncError)
      → opened ≡ base → before ≡ [] → Synchronizes Sends (asks_with key mode now opened) at longest old new f g before handles s answer
      → (answer ≡ Err why.LinkFault → Rose f g) → (answer ≢ Err why.LinkFault → g ≡ f) → ((e : ServiceError) → answer ≡ Err (why.Primary e) → WasHandedLong old new)
      → Transferred Sends (asks_with key mode now base) at (crossed longest old new f g)
  transfer_so key mode now opened base before handles s answer same none says failed steady long = record {
    answer = answer;
    handles = handles;
    session = s;
    says = says_of_new key mode now opened base before handles s answer same none says;
    failed = failed;
    steady = steady;
    long = long;
  }

-- .. and that of a script's transfer
pub reported_so : (SendsOf : Provider → TsigKey → ℕ → List ℕ → Option (List Sending) → Type 0) (mode : Mode) (count : ℕ) (script : Script) (link : Crossed) (answer : Result SyncOk SyncError) (n : ℕ) (last : Commit) (status : Status)
    → EndsAs (SendsOf (read_provider script) script.key script.at_primary) (asks_with script.key mode script.at_secondary script.secondary) script.at_primary link answer n last status
    → (asked : List (Name × ℕ)) (octets : List ℕ) (readers : List ReaderLine) → asked ≡ script.queries → AreReaders count last.number readers → octets ≡ report record_wire answer n last.version asked readers
    → ReportsOn SendsOf mode count script link octets status
reported_so SendsOf mode count script link answer n last status e asked octets readers same reads is =
    let t = e.transfer in
    record {
      transfer = t;
      reports = reports_so asked script.queries t.handles t.session t.answer count readers octets n last status e.counted e.current (e.ended ∙ ap status_by e.answered) same reads (is ∙ ap (λ a. report record_wire a n last.version asked readers) e.answered);
      known = e.known;
    }

-- .. and that of a zone of numbers
pub numbers_so : (SendsOf : Provider → TsigKey → ℕ → List ℕ → Option (List Sending) → Type 0) (size seed : ℕ) (link : Crossed) (answer : Result SyncOk SyncError) (n : ℕ) (last : Commit) (status : Status)
    → EndsAs (SendsOf (generating_provider size seed) generated.key 0) generated_asking 0 link answer n last status
    → (sent : Version) (octets : List ℕ) → sent ≡ generated.generated size seed → octets ≡ generated_report answer n last.version sent → ReportsNumbers SendsOf size seed link octets status
numbers_so SendsOf size seed link answer n last status e sent octets same is =
    let t = e.transfer in
    record {
      transfer = t;
      ended = e.ended ∙ ap status_by e.answered;
      is =
          is ∙ ap (λ a. generated_report a n last.version sent) e.answered ∙ ap (λ m. generated_report t.answer m last.version sent) e.counted
          ∙ ap (λ (z : Commit). generated_report t.answer (length t.handles) z.version sent) e.current ∙ ap (generated_report t.answer (length t.handles) t.session.current.version) same;
      known = e.known;
    }
