-- How a run ends over an honest link, where the script's parts fit each other.
use Rattle.std.specs.Prelude.{◌≡◌, ◌≢◌, ◌⊎◌, ◌≤◌, ◌&&◌, ◌||◌, ◌==◌, true, false, ℕ, List, [], ◌∷◌, length, min, Option, Some, Result, Ok, Err, unwrap_or}
use Rattle.std.specs.List.{list_any}
use Rattle.std.proofs.Common.{refl, sym, ap, subst, ◌∙◌, inl, inr, eq-eqb}
use Rattle.dns_name.specs.Names.{Name, same_name}
use Rattle.tsig_port.specs.Tsig.{TsigKey}
use Rattle.zone_model.specs.Version.{Version}
use Rattle.zone_reads.specs.Session.{Session}
use Rattle.zone_model.specs.Offer.{Provider, is_granted}
use Rattle.zone_model.specs.TransferText.{Mode}
use Rattle.zone_model.proofs.Folded.{same_name-Decides}
use Rattle.xfr_server.specs.Items.{Sending}
use Rattle.xfr_providers.specs.Offers.{key_id}
use Rattle.xfr_client.specs.SoFar.{Asking, asked_octets}
use Rattle.zone_sync.specs.Fitting.{Fits}
use Rattle.zone_sync.specs.Grants.{history_offer}
use Rattle.zone_sync.specs.Delivery.{WasHonest, IsGranted, Delivers}
use Rattle.xfr_outcomes.specs.declared.outcome.SyncOk.{SyncOk}
use Rattle.xfr_outcomes.specs.declared.outcome.SyncError.{SyncError}
use Rattle.xfr_outcomes.specs.declared.outcome.SyncError.TheVariants as why
use Rattle.zone_script.specs.Script as scripts
use Rattle.zone_script.specs.Script.{script_of}
use Rattle.zone_script.specs.ScriptReaders.{wire_readers}
use Rattle.zone_script.specs.Words.{Form, Transfer}
use Rattle.zone_sync.specs.Reported.{Crossed, Ran, IsDue, FitsLink, provider_in, primary_commits, asking_in}
use Rattle.zone_report.specs.ReportsWritten.{Took, status_by}
use Rattle.zone_report.specs.declared.status.Status.{Status}
use Rattle.zone_report.specs.declared.status.Status.TheVariants.{Done, Refused, Usage, Script, SourceFault, SinkFault, Memory, LinkFault, TooLong}
use Rattle.zone_sync.proofs.ScriptFacts.{script_fits, grants_kept}

-- the program's primary grants the zone to the script's key
granted_to_one : (name : Name) (n : ℕ) → list_any (λ (k : Name × ℕ). same_name k.0 name && (k.1 == n)) ((name, n) ∷ []) ≡ true
granted_to_one name n = ap (λ b. (b && (n == n)) || false) ((same_name-Decides name name).1 refl) ∙ ap (λ b. (true && b) || false) (eq-eqb n n refl)

granted_in : (t : scripts.Script TsigKey) (key : TsigKey) → is_granted (provider_in t key).grants (Some (key_id key)) ≡ true
granted_in t key = ap (λ gs. is_granted gs (Some (key_id key))) (grants_kept _ (primary_commits t)).0 ∙ granted_to_one key.name (key_id key).1

-- what is delivered has one of these statuses
pub good_status : (v : Version) (s : Session) (answer : Result SyncOk SyncError) → Delivers v s answer → (status_by answer ≡ Done) ⊎ (status_by answer ≡ Memory)
good_status v s (Ok x) d = inl refl
good_status v s (Err why.Memory) d = inr refl
good_status v s (Err why.NoSoa) d = absurd d
good_status v s (Err (why.Request x)) d = absurd d
good_status v s (Err why.LinkFault) d = absurd d
good_status v s (Err why.Ended) d = absurd d
good_status v s (Err (why.Short x)) d = absurd d
good_status v s (Err (why.Primary x)) d = absurd d
good_status v s (Err why.TooManyMessages) d = absurd d
good_status v s (Err (why.Tsig x)) d = absurd d
good_status v s (Err why.OtherAnswer) d = absurd d
good_status v s (Err (why.Xfr x)) d = absurd d
good_status v s (Err (why.Iteration x)) d = absurd d
good_status v s (Err (why.Update x)) d = absurd d
good_status v s (Err why.VersionsExhausted) d = absurd d

-- the law of the program's primary
abbrev pub Granting : (Provider → TsigKey → ℕ → List ℕ → Option (List Sending) → Type 0) → Type 0
Granting SendsOf = (p : Provider) (key : TsigKey) (a : Asking) (at longest : ℕ) → is_granted p.grants (Some (key_id key)) ≡ true → Fits a key at (history_offer p a) → length (asked_octets a) ≤ min longest 65535 → IsGranted (SendsOf p key at) a at longest p.kept

-- the request of a script is granted, where its parts fit each other and the link
pub script_granted : (SendsOf : Provider → TsigKey → ℕ → List ℕ → Option (List Sending) → Type 0) → Granting SendsOf → (mode : Mode) (text : List ℕ) (t : scripts.Script TsigKey) (key : TsigKey) (longest : ℕ)
    → script_of wire_readers text ≡ Ok t → FitsLink mode t key longest → IsGranted (SendsOf (provider_in t key) key t.at_primary) (asking_in mode t key) t.at_primary longest (provider_in t key).kept
script_granted SendsOf grants mode text t key longest spelt fit =
    grants (provider_in t key) key (asking_in mode t key) t.at_primary longest (granted_in t key) (script_fits mode text t key longest spelt fit) fit.request_fits

module _ (SendsOf : Provider → TsigKey → ℕ → List ℕ → Option (List Sending) → Type 0) (grants : Granting SendsOf) (mode : Mode) (count : ℕ)
    (text : List ℕ) (t : scripts.Script TsigKey) (key : TsigKey) (link : Crossed) (taken_old taken_new : Option (List ℕ)) (spelt : script_of wire_readers text ≡ Ok t) (fits : FitsLink mode t key link.longest) (honest : WasHonest link.lists_old link.lists_new link.faults_old link.faults_new) where
  abbrev pub form : Option Form
  form = Some (Transfer mode count)

  same_script : (u : scripts.Script TsigKey) → script_of wire_readers text ≡ Ok u → t ≡ u
  same_script u e = ap (unless t) (sym spelt ∙ e)
    where
      unless : scripts.Script TsigKey → Result (scripts.Script TsigKey) ℕ → scripts.Script TsigKey
      unless d (Ok x) = x
      unless d (Err n) = d

  same_key : (x y : TsigKey) → Some x ≡ Some y → x ≡ y
  same_key x y e = ap (λ o. unwrap_or o x) e

  same_mode : (m : Mode) (n : ℕ) → form ≡ Some (Transfer m n) → mode ≡ m
  same_mode m n e = ap (mode_in mode) e
    where
      mode_in : Mode → Option Form → Mode
      mode_in d (Some (Transfer x l)) = x
      mode_in d _ = d

  fits_too : (m : Mode) (n : ℕ) (u : scripts.Script TsigKey) (k : TsigKey) → form ≡ Some (Transfer m n) → script_of wire_readers text ≡ Ok u → u.key ≡ Some k → FitsLink m u k link.longest
  fits_too m n u k asked e keyed =
      let mine = subst (λ (x : scripts.Script TsigKey). FitsLink mode x key link.longest) (same_script u e) fits in
      let same = subst (λ (x : TsigKey). FitsLink mode u x link.longest) (same_key key k (sym mine.keyed ∙ keyed)) mine in
      subst (λ (x : Mode). FitsLink x u k link.longest) (same_mode m n asked) same

  -- a run that was reported ends so
  reported_well : (octets : List ℕ) (s : Status) → Ran SendsOf form (Some text) link octets s → (s ≡ Done) ⊎ (s ≡ Memory)
  reported_well octets s r =
      let k = r.tried in
      let spells = subst (λ (x : List ℕ). script_of wire_readers x ≡ Ok k.script) k.whole k.spells in
      let grant = script_granted SendsOf grants k.mode text k.script k.key link.longest spells (fits_too k.mode k.readers k.script k.key k.asked spells k.keyed) in
      ends_by (good_status (provider_in k.script k.key).kept k.transfer.session k.transfer.answer (k.transfer.says.delivers (provider_in k.script k.key).kept grant honest))
    where
      ends_by : (status_by r.tried.transfer.answer ≡ Done) ⊎ (status_by r.tried.transfer.answer ≡ Memory) → (s ≡ Done) ⊎ (s ≡ Memory)
      ends_by (inl e) = inl (r.reports.ended ∙ e)
      ends_by (inr e) = inr (r.reports.ended ∙ e)

  pub delivers_so : (SinkFaults : Type 0) (s : Status) → (s ≢ Usage) × (s ≢ SourceFault) × (s ≢ TooLong) × (s ≢ Script) → (s ≡ SinkFault → SinkFaults)
      → (s ≢ SinkFault → Took (λ octets. IsDue SendsOf form (Some text) link octets s) taken_old taken_new) → ¬ SinkFaults → (s ≡ Done) ⊎ (s ≡ Memory)
  delivers_so SinkFaults Done others sink written no_sink = inl refl
  delivers_so SinkFaults Memory others sink written no_sink = inr refl
  delivers_so SinkFaults Refused others sink written no_sink = let t = written (λ e. cc e) in reported_well t.octets Refused t.due
  delivers_so SinkFaults LinkFault others sink written no_sink = let t = written (λ e. cc e) in reported_well t.octets LinkFault t.due
  delivers_so SinkFaults Usage others sink written no_sink = absurd (others.0 refl)
  delivers_so SinkFaults SourceFault others sink written no_sink = absurd (others.1 refl)
  delivers_so SinkFaults TooLong others sink written no_sink = absurd (others.2 refl)
  delivers_so SinkFaults Script others sink written no_sink = absurd (others.3 refl)
  delivers_so SinkFaults SinkFault others sink written no_sink = absurd (no_sink (sink refl))
