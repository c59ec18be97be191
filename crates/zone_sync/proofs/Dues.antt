-- What a sink takes is due, from what the parts of a run ensure.
use Rattle.std.specs.Prelude.{◌≡◌, ◌≢◌, ◌⊎◌, ◌+◌, ℕ, List, [], ◌∷◌, take, Option, Some, None, IfSome, Ok, Err, IsTrue}
use Rattle.std.proofs.Common.{refl, sym, ap, ◌∙◌, subst, inl, inr}
use Rattle.dns_name.specs.Names.{Name}
use Rattle.tsig_port.specs.Tsig.{TsigKey}
use Rattle.zone_model.specs.Commits.{Commit}
use Rattle.zone_model.specs.Difference.{Difference}
use Rattle.zone_model.specs.Offer.{Provider}
use Rattle.zone_model.specs.TransferText.{Mode}
use Rattle.zone_model.specs.Version.{Version}
use Rattle.zone_devices.specs.Links.{LinkLists}
use Rattle.zone_devices.specs.Streams.{with_more}
use Rattle.xfr_server.specs.Items.{Sending}
use Rattle.zone_script.specs.Script as scripts
use Rattle.zone_script.specs.Script.{script_of, committed_by}
use Rattle.zone_script.specs.ScriptReaders.{wire_readers}
use Rattle.zone_script.specs.Keeping.{Gives, told_commits}
use Rattle.zone_script.specs.Words.{Form, Transfer, Generate}
use Rattle.zone_script.specs.declared.script.Script.{Script}
use Rattle.xfr_client.specs.SoFar.{Asking, asks_with}
use Rattle.zone_sync.specs.Reported.{usage_line, Crossed, crossed, Untouched, Transferred, TransfersOn, ReportsOn, Tried, Ran, IsDue, IsDueOf, AreTold, versions_of, read_provider, provider_of, provider_in, asking_in}
use Rattle.zone_script.specs.BadLines.{bad_line, NamesLine}
use Rattle.zone_report.specs.Notices.{is_reported}
use Rattle.zone_report.specs.ReportsWritten.{Reports, Took, TookFirst, Wrote}
use Rattle.zone_report.specs.declared.status.Status.{Status}
use Rattle.zone_report.specs.declared.status.Status.TheVariants as ends
use Rattle.zone_report.proofs.WrittenParts.{not_sink, with_nothing, along, wrote_nothing}

-- a link that is as it was
pub untouched : {longest f : ℕ} {lists : Option LinkLists} → Untouched (crossed longest lists lists f f)
untouched = record { lists = refl; faults = refl }

pub report_taken : (SendsOf : Provider → TsigKey → ℕ → List ℕ → Option (List Sending) → Type 0) (mode : Mode) (count : ℕ) (script : Script) (link : Crossed) (octets shown : List ℕ) (status s : Status) (taken_old taken_new : Option (List ℕ)) → ReportsOn SendsOf mode count script link octets status → shown ≡ octets
    → (s ≢ ends.SinkFault → s ≡ status) → (s ≢ ends.SinkFault → taken_new ≡ with_more shown taken_old) → IsTrue (is_reported s) → Took (λ o. ReportsOn SendsOf mode count script link o s) taken_old taken_new
report_taken SendsOf mode count script link octets shown status s taken_old taken_new r same done written h = record {
  octets = octets;
  due = subst (λ t. ReportsOn SendsOf mode count script link octets t) (sym (done (not_sink s h))) r;
  taken = written (not_sink s h) ∙ ap (λ o. with_more o taken_old) same;
}

-- what a text spells, as a script that was read
abbrev pub Spelt : List ℕ → Script → Type 0
Spelt text k = (t : scripts.Script TsigKey) × (script_of wire_readers text ≡ Ok t) × Gives t k

-- the versions of the commits that a list of versions makes
versions_told : (last : Commit) (vs : List Version) → versions_of (told_commits last vs) ≡ vs
versions_told last [] = refl
versions_told last (v ∷ more) = ap (λ ws. v ∷ ws) (versions_told (record { number = last.number + 1; version = v }) more)

-- .. whose differences are those that there are to tell
are_told : (last : Commit) (vs : List Version) → AreTold last.version (told_commits last vs)
are_told last [] = tt
are_told last (v ∷ more) = (refl, are_told (record { number = last.number + 1; version = v }) more)

pub script_told : (text : List ℕ) (k : Script) → Spelt text k → AreTold k.opening.version k.commits
script_told text k (t, spells, gives) = subst (λ (cs : List (Commit × Option Difference)). AreTold k.opening.version cs) (sym gives.commits) (are_told k.opening (committed_by k.opening.version t.changes))

-- a script that was read has the primary of what it says
same_provider : (text : List ℕ) (k : Script) (spelt : Spelt text k) → read_provider k ≡ provider_in spelt.0 k.key
same_provider text k (t, spells, gives) =
    ap (λ (cs : List (Commit × Option Difference)). provider_of k.opening.version (versions_of cs) k.key) gives.commits
    ∙ ap (λ (vs : List Version). provider_of k.opening.version vs k.key) (versions_told k.opening (committed_by k.opening.version t.changes))
    ∙ ap (λ (c : Commit). provider_of c.version (committed_by c.version t.changes) k.key) gives.opening

-- what holds of a transfer that was asked as the script was read holds of one that is asked as it says
asked_so : (SendsOf : Provider → TsigKey → ℕ → List ℕ → Option (List Sending) → Type 0) (mode : Mode) (Holds : (List ℕ → Option (List Sending) → Type 0) → Asking → ℕ → List (Name × ℕ) → Type 0) (text : List ℕ) (k : Script) (spelt : Spelt text k)
    → Holds (SendsOf (read_provider k) k.key k.at_primary) (asks_with k.key mode k.at_secondary k.secondary) k.at_primary k.queries
    → Holds (SendsOf (provider_in spelt.0 k.key) k.key spelt.0.at_primary) (asking_in mode spelt.0 k.key) spelt.0.at_primary spelt.0.queries
asked_so SendsOf mode Holds text k spelt r =
    let t = spelt.0 in
    let gives = spelt.2 in
    let zone = subst (λ (p : Provider). Holds (SendsOf p k.key k.at_primary) (asks_with k.key mode k.at_secondary k.secondary) k.at_primary k.queries) (same_provider text k spelt) r in
    let at = subst (λ (n : ℕ). Holds (SendsOf (provider_in t k.key) k.key n) (asks_with k.key mode k.at_secondary k.secondary) n k.queries) gives.at_primary zone in
    let later = subst (λ (n : ℕ). Holds (SendsOf (provider_in t k.key) k.key t.at_primary) (asks_with k.key mode n k.secondary) t.at_primary k.queries) gives.at_secondary at in
    let own = subst (λ (z : Commit). Holds (SendsOf (provider_in t k.key) k.key t.at_primary) (asks_with k.key mode t.at_secondary z) t.at_primary k.queries) gives.secondary later in
    subst (λ (q : List (Name × ℕ)). Holds (SendsOf (provider_in t k.key) k.key t.at_primary) (asking_in mode t k.key) t.at_primary q) gives.queries own

-- a transfer of the script that a text spells, for words that ask for that kind
tried_so : (SendsOf : Provider → TsigKey → ℕ → List ℕ → Option (List Sending) → Type 0) (mode : Mode) (count : ℕ) (text : List ℕ) (link : Crossed) (k : Script) → Spelt text k → TransfersOn SendsOf mode k link → Tried SendsOf (Some (Transfer mode count)) (Some text) link
tried_so SendsOf mode count text link k spelt t = record {
  mode = mode;
  readers = count;
  asked = refl;
  text = text;
  whole = refl;
  script = spelt.0;
  spells = spelt.1;
  key = k.key;
  keyed = spelt.2.key;
  transfer = asked_so SendsOf mode (λ Sends a at queries. Transferred Sends a at link) text k spelt t;
}

-- .. and its report
ran_so : (SendsOf : Provider → TsigKey → ℕ → List ℕ → Option (List Sending) → Type 0) (mode : Mode) (count : ℕ) (text : List ℕ) (link : Crossed) (octets : List ℕ) (s : Status) (k : Script) → Spelt text k
    → ReportsOn SendsOf mode count k link octets s → Ran SendsOf (Some (Transfer mode count)) (Some text) link octets s
ran_so SendsOf mode count text link octets s k spelt r =
    let asked = asked_so SendsOf mode (λ Sends a at queries. (t : Transferred Sends a at link) × Reports t.answer t.handles t.session queries count octets s) text k spelt (r.transfer, r.reports) in
    record {
      tried = record { mode = mode; readers = count; asked = refl; text = text; whole = refl; script = spelt.0; spells = spelt.1; key = k.key; keyed = spelt.2.key; transfer = asked.0 };
      reports = asked.1;
    }

pub due_of_report : (SendsOf : Provider → TsigKey → ℕ → List ℕ → Option (List Sending) → Type 0) (mode : Mode) (count : ℕ) (text : List ℕ) (link : Crossed) (octets : List ℕ) (s : Status) (k : Script) → Spelt text k
    → ReportsOn SendsOf mode count k link octets s → IsDue SendsOf (Some (Transfer mode count)) (Some text) link octets s
due_of_report SendsOf mode count text link octets s k spelt r = by s r.known (ran_so SendsOf mode count text link octets s k spelt r)
  where
    form : Option Form
    form = Some (Transfer mode count)

    by : (s : Status) → IsTrue (is_reported s) → Ran SendsOf form (Some text) link octets s → IsDue SendsOf form (Some text) link octets s
    by ends.Done h r = r
    by ends.Refused h r = r
    by ends.LinkFault h r = r
    by ends.Usage h r = cc
    by ends.Script h r = cc
    by ends.SourceFault h r = cc
    by ends.SinkFault h r = cc
    by ends.Memory h r = cc
    by ends.TooLong h r = cc

pub first_due_of_report : (SendsOf : Provider → TsigKey → ℕ → List ℕ → Option (List Sending) → Type 0) (mode : Mode) (count : ℕ) (text : List ℕ) (link : Crossed) (taken_old taken_new : Option (List ℕ)) (k : Script) → Spelt text k
    → TookFirst (ReportsOn SendsOf mode count k link) taken_old taken_new → TookFirst (IsDue SendsOf (Some (Transfer mode count)) (Some text) link) taken_old taken_new
first_due_of_report SendsOf mode count text link taken_old taken_new k spelt t =
    record { octets = t.octets; status = t.status; count = t.count; due = due_of_report SendsOf mode count text link t.octets t.status k spelt t.due; taken = t.taken }

pub written_of_transfer : (SendsOf : Provider → TsigKey → ℕ → List ℕ → Option (List Sending) → Type 0) (mode : Mode) (count : ℕ) (text : List ℕ) (link : Crossed) (taken_old taken_new : Option (List ℕ)) (s : Status) (k : Script) → Spelt text k
    → (IsTrue (is_reported s) → Took (λ octets. ReportsOn SendsOf mode count k link octets s) taken_old taken_new)
    → (s ≡ ends.Memory → taken_new ≡ taken_old) → Untouched link ⊎ TransfersOn SendsOf mode k link → (s ≢ ends.Usage) × (s ≢ ends.SourceFault) × (s ≢ ends.TooLong) × (s ≢ ends.Script) → s ≢ ends.SinkFault
    → Took (λ octets. IsDue SendsOf (Some (Transfer mode count)) (Some text) link octets s) taken_old taken_new
written_of_transfer SendsOf mode count text link taken_old taken_new s k spelt reported nothing over_link others no_sink = by s reported nothing others no_sink
  where
    passed : Untouched link ⊎ TransfersOn SendsOf mode k link → Untouched link ⊎ Tried SendsOf (Some (Transfer mode count)) (Some text) link
    passed (inl u) = inl u
    passed (inr t) = inr (tried_so SendsOf mode count text link k spelt t)

    as_due : (s : Status) → Took (λ octets. ReportsOn SendsOf mode count k link octets s) taken_old taken_new
        → Took (λ octets. IsDue SendsOf (Some (Transfer mode count)) (Some text) link octets s) taken_old taken_new
    as_due s t = record { octets = t.octets; due = due_of_report SendsOf mode count text link t.octets s k spelt t.due; taken = t.taken }

    by : (s : Status) → (IsTrue (is_reported s) → Took (λ octets. ReportsOn SendsOf mode count k link octets s) taken_old taken_new)
        → (s ≡ ends.Memory → taken_new ≡ taken_old) → (s ≢ ends.Usage) × (s ≢ ends.SourceFault) × (s ≢ ends.TooLong) × (s ≢ ends.Script) → s ≢ ends.SinkFault
        → Took (λ octets. IsDue SendsOf (Some (Transfer mode count)) (Some text) link octets s) taken_old taken_new
    by ends.Done reported nothing others no_sink = as_due ends.Done (reported refl)
    by ends.Refused reported nothing others no_sink = as_due ends.Refused (reported refl)
    by ends.LinkFault reported nothing others no_sink = as_due ends.LinkFault (reported refl)
    by ends.Memory reported nothing others no_sink = record { octets = []; due = (refl, passed over_link); taken = nothing refl ∙ with_nothing taken_old }
    by ends.SinkFault reported nothing others no_sink = absurd (no_sink refl)
    by ends.Usage reported nothing others no_sink = absurd (others.0 refl)
    by ends.SourceFault reported nothing others no_sink = absurd (others.1 refl)
    by ends.TooLong reported nothing others no_sink = absurd (others.2 refl)
    by ends.Script reported nothing others no_sink = absurd (others.3 refl)

-- the number of a bad line is due
line_due : (text : List ℕ) (link : Crossed) (number : ℕ) → Untouched link → script_of wire_readers text ≡ Err number → NamesLine (Some text) (bad_line number) × Untouched link
line_due text link number idle bad = (record { text = text; whole = refl; number = number; bad = bad; is = refl }, idle)

-- a first part of it
pub first_line : (SendsOf : Provider → TsigKey → ℕ → List ℕ → Option (List Sending) → Type 0) (form : Option Form) (text : List ℕ) (link : Crossed) (number : ℕ) (taken_old taken_new : Option (List ℕ)) → Untouched link → script_of wire_readers text ≡ Err number
    → ((n : ℕ) × (taken_new ≡ with_more (take n (bad_line number)) taken_old)) → TookFirst (IsDue SendsOf form (Some text) link) taken_old taken_new
first_line SendsOf form text link number taken_old taken_new idle bad (n, taken) = record {
  octets = bad_line number;
  status = ends.Script;
  count = n;
  due = line_due text link number idle bad;
  taken = taken;
}

pub due_of_source : (SendsOf : Provider → TsigKey → ℕ → List ℕ → Option (List Sending) → Type 0) (form : Option Form) (left : Option (List ℕ)) (text : List ℕ) (link : Crossed) (octets : List ℕ) (s : Status) → IfSome left (λ had. text ≡ had)
    → IsDue SendsOf form (Some text) link octets s → IsDue SendsOf form left link octets s
due_of_source SendsOf form left text link octets s e = by s
  where
    as_tried : Tried SendsOf form (Some text) link → Tried SendsOf form left link
    as_tried r = record { mode = r.mode; readers = r.readers; asked = r.asked; text = r.text; whole = along left text r.text e r.whole; script = r.script; spells = r.spells; key = r.key; keyed = r.keyed; transfer = r.transfer }

    as_ran : (s : Status) → Ran SendsOf form (Some text) link octets s → Ran SendsOf form left link octets s
    as_ran s r =
        let k = r.tried in
        let tried : Tried SendsOf form left link = record { mode = k.mode; readers = k.readers; asked = k.asked; text = k.text; whole = along left text k.text e k.whole; script = k.script; spells = k.spells; key = k.key; keyed = k.keyed; transfer = k.transfer } in
        record { tried = tried; reports = r.reports }

    passed : Untouched link ⊎ Tried SendsOf form (Some text) link → Untouched link ⊎ Tried SendsOf form left link
    passed (inl u) = inl u
    passed (inr t) = inr (as_tried t)

    by : (s : Status) → IsDue SendsOf form (Some text) link octets s → IsDue SendsOf form left link octets s
    by ends.Done r = as_ran ends.Done r
    by ends.Refused r = as_ran ends.Refused r
    by ends.LinkFault r = as_ran ends.LinkFault r
    by ends.Script r = (record { text = r.0.text; whole = along left text r.0.text e r.0.whole; number = r.0.number; bad = r.0.bad; is = r.0.is }, r.1)
    by ends.Usage r = r
    by ends.SourceFault r = r
    by ends.SinkFault r = r
    by ends.Memory r = (r.0, passed r.1)
    by ends.TooLong r = r

pub written_of_source : (SendsOf : Provider → TsigKey → ℕ → List ℕ → Option (List Sending) → Type 0) (form : Option Form) (left : Option (List ℕ)) (text : List ℕ) (link : Crossed) (taken_old taken_new : Option (List ℕ)) (s : Status) → IfSome left (λ had. text ≡ had)
    → Took (λ octets. IsDue SendsOf form (Some text) link octets s) taken_old taken_new → Took (λ octets. IsDue SendsOf form left link octets s) taken_old taken_new
written_of_source SendsOf form left text link taken_old taken_new s e t =
    record { octets = t.octets; due = due_of_source SendsOf form left text link t.octets s e t.due; taken = t.taken }

pub first_of_source : (SendsOf : Provider → TsigKey → ℕ → List ℕ → Option (List Sending) → Type 0) (form : Option Form) (left : Option (List ℕ)) (text : List ℕ) (link : Crossed) (taken_old taken_new : Option (List ℕ)) → IfSome left (λ had. text ≡ had)
    → TookFirst (IsDue SendsOf form (Some text) link) taken_old taken_new → TookFirst (IsDue SendsOf form left link) taken_old taken_new
first_of_source SendsOf form left text link taken_old taken_new e t =
    record { octets = t.octets; status = t.status; count = t.count; due = due_of_source SendsOf form left text link t.octets t.status e t.due; taken = t.taken }

-- the number of a bad line was written, or a first part of it, or nothing
pub wrote_line : (SendsOf : Provider → TsigKey → ℕ → List ℕ → Option (List Sending) → Type 0) (form : Option Form) (text : List ℕ) (link : Crossed) (number : ℕ) (old new : Option (List ℕ)) (s : Status) → Untouched link → script_of wire_readers text ≡ Err number
    → (s ≡ ends.Script → new ≡ with_more (bad_line number) old) → (s ≡ ends.SinkFault → (n : ℕ) × (new ≡ with_more (take n (bad_line number)) old)) → (s ≡ ends.Memory → new ≡ old)
    → (s ≡ ends.Script) ⊎ ((s ≡ ends.SinkFault) ⊎ (s ≡ ends.Memory)) → Wrote (IsDue SendsOf form (Some text) link) old new s
wrote_line SendsOf form text link number old new s idle bad written part nothing others = by others
  where
    by : (s ≡ ends.Script) ⊎ ((s ≡ ends.SinkFault) ⊎ (s ≡ ends.Memory)) → Wrote (IsDue SendsOf form (Some text) link) old new s
    by (inl e) = subst (λ (t : Status). Wrote (IsDue SendsOf form (Some text) link) old new t) (sym e) (record {
      whole = λ well. record { octets = bad_line number; due = line_due text link number idle bad; taken = written e };
      part = λ failed. cc;
    })
    by (inr (inl e)) = record {
      whole = λ well. absurd (well e);
      part = λ failed. first_line SendsOf form text link number old new idle bad (part failed);
    }
    by (inr (inr e)) = subst (λ (t : Status). Wrote (IsDue SendsOf form (Some text) link) old new t) (sym e) (wrote_nothing (IsDue SendsOf form (Some text) link) old new (refl, inl idle) (nothing e))

-- the usage line is due of words that don't ask for a zone of numbers
pub usage_due : (SendsOf : Provider → TsigKey → ℕ → List ℕ → Option (List Sending) → Type 0) (form : Option Form) (left : Option (List ℕ)) (link : Crossed) → ((size seed : ℕ) → form ≢ Some (Generate size seed)) → Untouched link
    → IsDueOf SendsOf form left link usage_line ends.Usage
usage_due SendsOf None left link other idle = (refl, idle)
usage_due SendsOf (Some (Transfer mode readers)) left link other idle = (refl, idle)
usage_due SendsOf (Some (Generate size seed)) left link other idle = absurd (other size seed refl)
