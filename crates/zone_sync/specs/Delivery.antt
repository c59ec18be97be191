-- A transfer over an honest link to a granting primary: when it has to end well, and what it leaves (RFC 5936, 2 and 6).
use Rattle.std.specs.Prelude.{◌≡◌, ℕ, ◌<◌, ◌≤◌, ◌-◌, ◌^◌, List, length, min, Option, Some, Result, Ok, Err}
use Rattle.tsig_port.specs.Tsig.{TsigKey}
use Rattle.zone_model.specs.Version.{Version, Same}
use Rattle.zone_model.specs.Offer.{Offer}
use Rattle.zone_model.specs.Commits.{Commit}
use Rattle.zone_reads.specs.Session.{Session}
use Rattle.xfr_server.specs.Items.{Sending}
use Rattle.xfr_server.specs.GrantedTransfers.{IsSentWhole}
use Rattle.zone_devices.specs.Links.{LinkLists, IsHonest}
use Rattle.xfr_client.specs.SoFar.{Asking, asked_octets, CanAsk}
use Rattle.zone_sync.specs.Serving.{request_at}
use Rattle.zone_sync.specs.Fitting.{Fits}
use Rattle.zone_sync.specs.LinkTransfers.{SyncSays}
use Rattle.xfr_outcomes.specs.declared.outcome.SyncOk.{SyncOk}
use Rattle.xfr_outcomes.specs.declared.outcome.SyncError.{SyncError}
use Rattle.xfr_outcomes.specs.declared.outcome.SyncError.TheVariants as why

-- a link that tells its lists was honest from one state to another, and its count of faults doesn't stand at the greatest number
abbrev pub WasHonest : Option LinkLists → Option LinkLists → ℕ → ℕ → Type 0
WasHonest (Some old) (Some new) faults_old faults_new = IsHonest old new faults_old faults_new × (faults_old < 2 ^ 64 - 1)
WasHonest _ _ faults_old faults_new = ⊥

-- The premises: a primary makes an offer of a version that fits the secondary, by a key that is one with the secondary's, and grants it: to the secondary's
-- request, if that can be made, it sends the pages of the offer's text, signed in sequence with that key; and the request fits the link.
pub record IsGranted (Sends : List ℕ → Option (List Sending) → Type 0) (a : Asking) (at longest : ℕ) (v : Version) : Type 0 where
  pub server : TsigKey
  pub offer : Offer
  pub offered : offer.version ≡ v
  pub fits : Fits a server at offer
  pub grants : CanAsk a longest → (sent : Option (List Sending)) → Sends (asked_octets a) sent → IsSentWhole (request_at (asked_octets a) at) server fits.records_fit.pages sent
  pub request_fits : length (asked_octets a) ≤ min longest 65535

-- the secondary's current version is the primary's, or memory ran out
abbrev pub Delivers : Version → Session → Result SyncOk SyncError → Type 0
Delivers v s (Ok done) = Same s.current.version v
Delivers v s (Err why.Memory) = Unit {0}
Delivers v s (Err e) = ⊥

-- The headline: whatever octets the link hands back, exactly the versions that the checked text spells are committed, in order, and the answer is its
-- outcome; nothing is pending then; and over an honest link to a primary that grants a version the answer is Ok or want of memory, and after Ok
-- that version is current.
pub record Synchronizes (Sends : List ℕ → Option (List Sending) → Type 0) (a : Asking) (at longest : ℕ) (old new : Option LinkLists) (faults_old faults_new : ℕ) (before handles : List Commit) (s : Session) (answer : Result SyncOk SyncError) : Type 0 where
  pub says : SyncSays Sends a longest old new before handles s answer
  pub settled : s.pending ≡ s.current.version
  pub delivers : (v : Version) → IsGranted Sends a at longest v → WasHonest old new faults_old faults_new → Delivers v s answer
