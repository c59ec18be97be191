-- What a run of the program writes, and what passes over its link: the report of the transfer that a script asks for, the number of a bad line, or a notice.
use Rattle.std.specs.Prelude.{◌≡◌, ◌≢◌, ◌⊎◌, ℕ, ◌<◌, ◌≤◌, ◌^◌, List, [], ◌∷◌, ◌++◌, length, map, min, false, codes, Option, Some, IfSome, IsTrue, Result, Ok, Err}
use Rattle.tsig_port.specs.Tsig.{TsigKey}
use Rattle.zone_model.specs.Commits.{Commit}
use Rattle.zone_reads.specs.Session.{Session}
use Rattle.zone_model.specs.Version.{Version}
use Rattle.zone_model.specs.Edits.{close}
use Rattle.zone_model.specs.Classify.{opened}
use Rattle.zone_model.specs.Difference.{Difference}
use Rattle.zone_model.specs.TransferText.{Mode, Axfr, OnIxfr}
use Rattle.zone_model.specs.Spells.{spelling}
use Rattle.zone_model.specs.Offer.{Offer, Provider, after_push, difference_if}
use Rattle.zone_devices.specs.Calls.{Rose}
use Rattle.zone_devices.specs.Links.{LinkLists}
use Rattle.xfr_server.specs.Items.{Sending}
use Rattle.xfr_services.specs.declared.services.ServiceError.{ServiceError}
use Rattle.xfr_providers.specs.Offers.{key_id}
use Rattle.zone_script.specs.Words.{Form, Transfer, Generate}
use Rattle.zone_script.specs.Script.{Script, script_of, committed_by, secondary_version}
use Rattle.zone_script.specs.declared.script.Script as read_scripts
use Rattle.zone_script.specs.ScriptReaders.{wire_readers}
use Rattle.zone_generated.specs.Generated as generated
use Rattle.xfr_client.specs.SoFar.{Asking, asks_with, asked_octets}
use Rattle.zone_sync.specs.Fitting.{AreClose, ArePublished, RecordsFit, BaseMatches, sent_text}
use Rattle.zone_sync.specs.Grants.{history_offer}
use Rattle.zone_sync.specs.Delivery.{Synchronizes}
use Rattle.zone_sync.specs.LongQuestions.{WasHandedLong}
use Rattle.zone_script.specs.BadLines.{NamesLine}
use Rattle.zone_report.specs.Report.{generated_report}
use Rattle.zone_report.specs.ReportsWritten.{status_by, Reports}
use Rattle.zone_report.specs.Notices.{fault_line, long_line, is_reported}
use Rattle.xfr_outcomes.specs.declared.outcome.SyncOk.{SyncOk}
use Rattle.xfr_outcomes.specs.declared.outcome.SyncError.{SyncError}
use Rattle.xfr_outcomes.specs.declared.outcome.SyncError.TheVariants as why
use Rattle.zone_report.specs.declared.status.Status.{Status}
use Rattle.zone_report.specs.declared.status.Status.TheVariants as ends

-- what a link told, before and after: the longest request that it takes, what passed over it, and how often it had failed
pub record Crossed : Type 0 where
  pub longest : ℕ
  pub lists_old : Option LinkLists
  pub lists_new : Option LinkLists
  pub faults_old : ℕ
  pub faults_new : ℕ

abbrev pub crossed : ℕ → Option LinkLists → Option LinkLists → ℕ → ℕ → Crossed
crossed longest old new f g = record { longest = longest; lists_old = old; lists_new = new; faults_old = f; faults_new = g }

-- nothing passed over the link, and its count of faults is as before
pub record Untouched (link : Crossed) : Type 0 where
  pub lists : link.lists_new ≡ link.lists_old
  pub faults : link.faults_new ≡ link.faults_old

-- one transfer was made over the link: its answer, the versions that it made, and the session that it left
pub record Transferred (Sends : List ℕ → Option (List Sending) → Type 0) (a : Asking) (at : ℕ) (link : Crossed) : Type 0 where
  pub answer : Result SyncOk SyncError
  pub handles : List Commit
  pub session : Session
  pub says : Synchronizes Sends a at link.longest link.lists_old link.lists_new link.faults_old link.faults_new [] handles session answer
  -- the answer is the link's fault only where its count of faults rose, and with any other none came
  pub failed : answer ≡ Err why.LinkFault → Rose link.faults_old link.faults_new
  pub steady : answer ≢ Err why.LinkFault → link.faults_new ≡ link.faults_old
  -- .. and the primary's error only where the link handed it such a request
  pub long : (e : ServiceError) → answer ≡ Err (why.Primary e) → WasHandedLong link.lists_old link.lists_new

-- how a transfer ended that is to be reported: its answer, how many versions it made, the last one, and its status
pub record EndsAs (Sends : List ℕ → Option (List Sending) → Type 0) (a : Asking) (at : ℕ) (link : Crossed) (answer : Result SyncOk SyncError) (made : ℕ) (last : Commit) (status : Status) : Type 0 where
  pub transfer : Transferred Sends a at link
  pub answered : answer ≡ transfer.answer
  pub counted : made ≡ length transfer.handles
  pub current : last ≡ transfer.session.current
  pub ended : status ≡ status_by answer
  pub known : IsTrue (is_reported status)

-- ---- the primary and the secondary of a script

-- a provider, after these versions were pushed to it, each with its difference from the one before, where there is one to tell (RFC 1995, 5)
abbrev pub pushed_all : Provider → List Version → Provider
pushed_all p [] = p
pushed_all p (v ∷ more) = pushed_all (after_push p v (difference_if p.kept v)) more

-- a primary that opened with a version, committed these after it, and grants them to a key
abbrev pub provider_of : Version → List Version → TsigKey → Provider
provider_of first commits key = pushed_all (record { kept = first; differences = []; grants = key_id key ∷ []; compatibility = false }) commits

-- the primary's history is that of the script
abbrev pub primary_opening : Script TsigKey → Version
primary_opening script = close (opened script.primary)

abbrev pub primary_commits : Script TsigKey → List Version
primary_commits script = committed_by (primary_opening script) script.changes

abbrev pub provider_in : Script TsigKey → TsigKey → Provider
provider_in script key = provider_of (primary_opening script) (primary_commits script) key

-- the secondary asks with the script's key, at its own moment, with its own zone, whose number is 0
abbrev pub asking_in : Mode → Script TsigKey → TsigKey → Asking
asking_in mode script key = asks_with key mode script.at_secondary (record { number = 0; version = secondary_version script })

-- what the primary offers to it
abbrev pub offer_in : Mode → Script TsigKey → TsigKey → Offer
offer_in mode script key = history_offer (provider_in script key) (asking_in mode script key)

-- .. of a script that was read: the versions of its commits
abbrev pub versions_of : List (Commit × Option Difference) → List Version
versions_of commits = map (λ (c : Commit × Option Difference). c.0.version) commits

-- each commit has the difference from the version before it, where there is one to tell
abbrev pub AreTold : Version → List (Commit × Option Difference) → Type 0
AreTold v [] = Unit {0}
AreTold v (c ∷ more) = (c.1 ≡ difference_if v c.0.version) × AreTold c.0.version more

abbrev pub read_provider : read_scripts.Script → Provider
read_provider script = provider_of script.opening.version (versions_of script.commits) script.key

-- ---- a run

-- the transfer of a script that was read, from a primary of its history and key that sends so
abbrev pub TransfersOn : (Provider → TsigKey → ℕ → List ℕ → Option (List Sending) → Type 0) → Mode → read_scripts.Script → Crossed → Type 0
TransfersOn SendsOf mode script link =
    Transferred (SendsOf (read_provider script) script.key script.at_primary) (asks_with script.key mode script.at_secondary script.secondary) script.at_primary link

-- .. and octets are its report, with what so many readers saw
pub record ReportsOn (SendsOf : Provider → TsigKey → ℕ → List ℕ → Option (List Sending) → Type 0) (mode : Mode) (readers : ℕ) (script : read_scripts.Script) (link : Crossed) (octets : List ℕ) (status : Status) : Type 0 where
  pub transfer : TransfersOn SendsOf mode script link
  pub reports : Reports transfer.answer transfer.handles transfer.session script.queries readers octets status
  pub known : IsTrue (is_reported status)

-- the words ask for a transfer, what the source had, where it tells it, spells a script, and the script's transfer was made, from a primary of its history and key that sends so
pub record Tried (SendsOf : Provider → TsigKey → ℕ → List ℕ → Option (List Sending) → Type 0) (form : Option Form) (left : Option (List ℕ)) (link : Crossed) : Type 0 where
  pub mode : Mode
  pub readers : ℕ
  pub asked : form ≡ Some (Transfer mode readers)
  pub text : List ℕ
  pub whole : IfSome left (λ had. text ≡ had)
  pub script : Script TsigKey
  pub spells : script_of wire_readers text ≡ Ok script
  pub key : TsigKey
  pub keyed : script.key ≡ Some key
  pub transfer : Transferred (SendsOf (provider_in script key) key script.at_primary) (asking_in mode script key) script.at_primary link

-- .. and octets are its report, with what as many readers saw as the words ask for
pub record Ran (SendsOf : Provider → TsigKey → ℕ → List ℕ → Option (List Sending) → Type 0) (form : Option Form) (left : Option (List ℕ)) (link : Crossed) (octets : List ℕ) (status : Status) : Type 0 where
  pub tried : Tried SendsOf form left link
  pub reports : Reports tried.transfer.answer tried.transfer.handles tried.transfer.session tried.script.queries tried.readers octets status

-- A script whose zones, key and moments fit each other, and whose request fits the link: what is left of the premises of success. The others hold of every
-- script: its primary grants the one key of both sides, both zones are one, and the records of the text have wire forms.
pub record FitsLink (mode : Mode) (script : Script TsigKey) (key : TsigKey) (longest : ℕ) : Type 0 where
  pub keyed : script.key ≡ Some key
  -- a side's MACs are as long as the other takes them
  pub lengths : key.min_mac_len ≤ key.signing_len
  pub close_moments : AreClose script.at_primary script.at_secondary
  pub one_soa : ArePublished mode (asking_in mode script key).base.version.apex (offer_in mode script key)
  pub records_fit : RecordsFit (asking_in mode script key) key (offer_in mode script key)
  pub base_matches : OnIxfr mode (BaseMatches (secondary_version script) (offer_in mode script key) one_soa.history)
  pub room : length (spelling mode (sent_text (asking_in mode script key) (offer_in mode script key)) (secondary_version script)).versions < 2 ^ 64
  pub request_fits : length (asked_octets (asking_in mode script key)) ≤ min longest 65535

-- the words have no form
abbrev pub usage_line : List ℕ
usage_line = codes "usage: zonesync axfr [K] / ixfr [K] / gen N SEED" ++ 10 ∷ []

-- What there is to write with a status, and what passed over the link: the script's transfer with a report and nothing without one; where memory ran out,
-- nothing or that transfer. With the status of a failed sink nothing is due, and a first part of what another status would have written was taken.
abbrev pub IsDue : (Provider → TsigKey → ℕ → List ℕ → Option (List Sending) → Type 0) → Option Form → Option (List ℕ) → Crossed → List ℕ → Status → Type 0
IsDue SendsOf form left link octets ends.Usage = (octets ≡ usage_line) × Untouched link
IsDue SendsOf form left link octets ends.Script = NamesLine left octets × Untouched link
IsDue SendsOf form left link octets ends.SourceFault = (octets ≡ fault_line) × Untouched link
IsDue SendsOf form left link octets ends.TooLong = (octets ≡ long_line) × Untouched link
IsDue SendsOf form left link octets ends.Memory = (octets ≡ []) × (Untouched link ⊎ Tried SendsOf form left link)
IsDue SendsOf form left link octets ends.SinkFault = ⊥
IsDue SendsOf form left link octets status = Ran SendsOf form left link octets status

-- ---- a run on a zone that is made from numbers

-- its primary keeps that version alone, and grants it to the key of such zones
abbrev pub generating_provider : ℕ → ℕ → Provider
generating_provider size seed = provider_of (generated.generated size seed) [] generated.key

-- the secondary has no records, and both moments are 0
abbrev pub generated_asking : Asking
generated_asking = asks_with generated.key Axfr 0 (record { number = 0; version = generated.empty })

-- its transfer, from a primary of that provider and key that sends so
abbrev pub TransfersNumbers : (Provider → TsigKey → ℕ → List ℕ → Option (List Sending) → Type 0) → ℕ → ℕ → Crossed → Type 0
TransfersNumbers SendsOf size seed link = Transferred (SendsOf (generating_provider size seed) generated.key 0) generated_asking 0 link

-- .. and octets are its report: the answer, the count of versions made, how many RRsets and records the secondary's last version has, and whether it is
-- what was sent
pub record ReportsNumbers (SendsOf : Provider → TsigKey → ℕ → List ℕ → Option (List Sending) → Type 0) (size seed : ℕ) (link : Crossed) (octets : List ℕ) (status : Status) : Type 0 where
  pub transfer : TransfersNumbers SendsOf size seed link
  pub ended : status ≡ status_by transfer.answer
  pub is : octets ≡ generated_report transfer.answer (length transfer.handles) transfer.session.current.version (generated.generated size seed)
  pub known : IsTrue (is_reported status)

-- what there is to write with a status, and what passed over the link: that transfer with its report, and where memory ran out nothing or that transfer
abbrev pub IsDueOfNumbers : (Provider → TsigKey → ℕ → List ℕ → Option (List Sending) → Type 0) → ℕ → ℕ → Crossed → List ℕ → Status → Type 0
IsDueOfNumbers SendsOf size seed link octets ends.Memory = (octets ≡ []) × (Untouched link ⊎ TransfersNumbers SendsOf size seed link)
IsDueOfNumbers SendsOf size seed link octets status = ReportsNumbers SendsOf size seed link octets status

-- ---- any run

-- what there is to write by the words
abbrev pub IsDueOf : (Provider → TsigKey → ℕ → List ℕ → Option (List Sending) → Type 0) → Option Form → Option (List ℕ) → Crossed → List ℕ → Status → Type 0
IsDueOf SendsOf (Some (Generate size seed)) left link = IsDueOfNumbers SendsOf size seed link
IsDueOf SendsOf form left link = IsDue SendsOf form left link
