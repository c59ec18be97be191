-- Calls in turn, each as its contract says (RFC 5936, 2.2; RFC 1995, 4).
use Rattle.std.specs.Prelude.{◌≡◌, Bool, true, false, List, [], ◌∷◌, ◌++◌, map, if◌then◌else◌, Some, None, Result, Ok, Err, IsOk, IsTrue}
use Rattle.std.specs.Option.{option_map}
use Rattle.std.specs.Cmp.Lexicographic.{pointwise}
use Rattle.dns_name.specs.Names.{same_name}
use Rattle.dns_rdata.specs.Records.{Record}
use Rattle.zone_model.specs.Version.{Version, IsValid, Same, same_version, has_one_soa}
use Rattle.zone_reads.specs.Session.{Session}
use Rattle.zone_model.specs.Edits.{Refusal, add, delete}
use Rattle.zone_model.specs.Difference.{difference, diffable, records_in}
use Rattle.zone_model.specs.TransferText.{Mode, is_soa}
use Rattle.zone_model.specs.TransferLaws.{IsSoaOf, batch_of}
use Rattle.zone_model.specs.Spells.{spelling}
use Rattle.zone_model.specs.Updates.{Update, UpdateFault, Edit, Finished, apply_update, batch_updates}
use Rattle.xfr_model.specs.Messages.{ReadMessage}
use Rattle.xfr_model.specs.Read.{message_fault, read_by}
use Rattle.xfr_model.specs.Interpreter.{mode_of, updates_in, is_finished}
use Rattle.xfr_model.specs.Machine.{AtStart, no_messages}
use Rattle.xfr_model.specs.Applying.{commits}
use Rattle.xfr_outcomes.specs.declared.update.ZoneUpdate.{ZoneUpdate}
use Rattle.xfr_outcomes.specs.ZoneUpdates.{update_of}
use Rattle.xfr_client.specs.Rest.{Rest, NextTold}
use Rattle.xfr_client.specs.Interpreting.{Interpreting, Interprets, is_over}
use Rattle.xfr_client.specs.Updating.{Updating, progress_of, new_version, told_by}

-- Updates told: `next_update` in turn, each time with an update.
abbrev pub Tells : Rest → List (ZoneUpdate Record) → Rest → Type 0
Tells a [] b = b ≡ a
Tells a (u ∷ more) b = (next : Rest) × NextTold a (Some (Ok u)) next × Tells next more b

-- the law of updates told: up to None they are all that the message says, and it has no fault
abbrev pub TellsAll : Type 0
TellsAll = (a b c : Rest) (us : List (ZoneUpdate Record)) → Tells a us b → NextTold b None c
    → (map update_of us ≡ a.run.updates) × (a.run.fault ≡ None) × (a.retry ≡ false)

-- Messages taken: `interpret_response` in turn, from a new interpreter on, with what each message says.
abbrev pub new_interpreter : Interpreting
new_interpreter = record { begun = false; place = AtStart; signalled = false }

-- one message, which has no fault unless it is the last, and then others
pub record TakesOne (i : Interpreting) (m : ReadMessage) (is_last : Bool) (told : List Update)
    (Others : Interpreting → List Update → Type 0) : Type 0 where
  pub rest : Rest
  pub next : Interpreting
  pub others : List Update
  pub taken : Interprets i m rest next
  pub faultless : is_last ≡ false → rest.run.fault ≡ None
  pub joined : told ≡ rest.run.updates ++ others
  pub behind : Others next others

abbrev pub Takes : Interpreting → List ReadMessage → List Update → Interpreting → Type 0
Takes i [] told j = (told ≡ []) × (j ≡ i)
Takes i (m ∷ more) told j = TakesOne i m (no_messages more) told (λ next others. Takes next more others j)

-- the records that an interpreter reads of messages
abbrev pub records_read : List ReadMessage → List Record
records_read ms = (read_by (mode_of ms) message_fault ms).records

-- the law of messages taken: they say the updates that the grammar names of the records read so far, and the
-- interpreter is finished where they are
abbrev pub NamesUpdates : Type 0
NamesUpdates = (ms : List ReadMessage) (told : List Update) (j : Interpreting)
    → Takes new_interpreter ms told j
    → (told ≡ updates_in (mode_of ms) (records_read ms)) × (is_over j ≡ is_finished ms)

-- Updates applied: `apply` in turn, each time with Ok, from a new updater on, and the versions published.
abbrev pub new_updater : Updating
new_updater = record { replacing = false; finished = false }

abbrev pub Applies : Updating → Session → Update → Updating → Session → Type 0
Applies u s w v t = (before : List Version)
    → apply_update (progress_of u s before) w ≡ Ok (progress_of v t (before ++ new_version (commits w) t))

-- the law of differences told: where one is wanted, an update that commits tells that of the version published before and the one published by it
abbrev pub TellsOfPublished : Type 0
TellsOfPublished = (u v : Updating) (s t : Session) (w : Update) → Applies u s w v t → commits w ≡ true
    → told_by s w ≡ (if s.compares then (if diffable s.current.version t.current.version then Some (difference s.current.version t.current.version) else None) else None)

-- one that is refused
abbrev pub IsRefused : Updating → Session → Update → UpdateFault → Type 0
IsRefused u s w why = (before : List Version) → apply_update (progress_of u s before) w ≡ Err why

-- one update, and then others
pub record AppliesOne (u : Updating) (s : Session) (w : Update) (told : List Version)
    (Others : Updating → Session → List Version → Type 0) : Type 0 where
  pub updating : Updating
  pub session : Session
  pub others : List Version
  pub applied : Applies u s w updating session
  pub joined : told ≡ new_version (commits w) session ++ others
  pub behind : Others updating session others

abbrev pub AppliesAll : Updating → Session → List Update → List Version → Updating → Session → Type 0
AppliesAll u s [] told v t = (told ≡ []) × (v ≡ u) × (t ≡ s)
AppliesAll u s (w ∷ more) told v t = AppliesOne u s w told (λ x y others. AppliesAll x y more others v t)

-- the law of updates applied: those of a list of records publish exactly the versions that it spells
abbrev pub CommitsWhatIsSpelt : Type 0
CommitsWhatIsSpelt = (mode : Mode) (rs : List Record) (s t : Session) (v : Updating) (told : List Version)
    → AppliesAll new_updater s (updates_in mode rs) told v t
    → spelling mode rs s.pending ≡ record { versions = told; fault = None }

-- .. and where one of them is refused, what is spelt ends there, for that reason
abbrev pub CommitsUpToRefusal : Type 0
CommitsUpToRefusal = (mode : Mode) (rs : List Record) (s t : Session) (v : Updating) (told : List Version)
    (done left : List Update) (w : Update) (why : UpdateFault) → updates_in mode rs ≡ done ++ w ∷ left
    → AppliesAll new_updater s done told v t → IsRefused v t w why
    → ((spelling mode rs s.pending).versions ≡ told)
    × (option_map Edit (spelling mode rs s.pending).fault ≡ Some why)

-- the law of a transfer: messages taken, and what they say applied, publish what the records read spell
abbrev pub PublishesWhatIsRead : Type 0
PublishesWhatIsRead = (ms : List ReadMessage) (told : List Update) (j : Interpreting)
    (s t : Session) (v : Updating) (made : List Version)
    → Takes new_interpreter ms told j → AppliesAll new_updater s told made v t
    → spelling (mode_of ms) (records_read ms) s.pending ≡ record { versions = made; fault = None }

-- Differences: two valid versions of a zone, and a base that is the same as the first.
pub record IsBetween (v w base : Version) : Type 0 where
  pub valid : IsValid v
  pub next_valid : IsValid w
  pub apex : IsTrue (same_name v.apex w.apex)
  pub base_apex : IsTrue (same_name base.apex v.apex)
  pub same : Same base v

-- the records of the base that go, and those that come
abbrev pub removed_from : Version → Version → Version → List Record
removed_from v w base = records_in base (difference v w).removed

abbrev pub added_to : Version → Version → Version → List Record
added_to v w base = records_in base (difference v w).added

-- Records edited: `delete_record` or `add_record` in turn, each time with Ok.
abbrev pub Edits : (Version → Record → Result Version Refusal) → Version → List Record → Version → Type 0
Edits edit p [] q = q ≡ p
Edits edit p (r ∷ more) q = (next : Version) × (edit p r ≡ Ok next) × Edits edit next more q

-- the law of a difference by edits: what goes deleted and what comes added, it makes the same as the second
abbrev pub EditsLead : Type 0
EditsLead = (v w base mid end : Version) → IsBetween v w base
    → Edits delete base (removed_from v w base) mid → Edits add mid (added_to v w base) end → Same end w

-- .. and none of these edits is refused
abbrev pub DeletesFit : Type 0
DeletesFit = (v w base at : Version) (done left : List Record) (r : Record) → IsBetween v w base
    → removed_from v w base ≡ done ++ r ∷ left → Edits delete base done at → IsOk (delete at r)

abbrev pub AddsFit : Type 0
AddsFit = (v w base mid at : Version) (done left : List Record) (r : Record) → IsBetween v w base
    → Edits delete base (removed_from v w base) mid
    → added_to v w base ≡ done ++ r ∷ left → Edits add mid done at → IsOk (add at r)

-- versions with one SOA record each, and a record with the TTL and data of the second one's
pub record HaveSoas (v w : Version) (new : Record) : Type 0 where
  pub one : IsTrue (has_one_soa v)
  pub next_one : IsTrue (has_one_soa w)
  pub is : is_soa new ≡ true
  pub of : IsSoaOf w new

-- a difference as updates: one batch, and the end
abbrev pub updates_between : Version → Version → Record → Record → List Update
updates_between v w old new = batch_updates (batch_of w (difference v w) old new) ++ Finished new ∷ []

-- the law of a difference by the updater: it publishes the first version again, and the same as the second
abbrev pub UpdatesLead : Type 0
UpdatesLead = (v w : Version) (s t : Session) (x : Updating) (old new : Record) (told : List Version)
    → IsBetween v w s.pending → HaveSoas v w new
    → AppliesAll new_updater s (updates_between v w old new) told x t
    → IsTrue (pointwise same_version told (v ∷ w ∷ [])) × Same t.pending w

-- .. and none of these updates is refused
abbrev pub UpdatesFit : Type 0
UpdatesFit = (v w : Version) (s t : Session) (x : Updating) (old new : Record) (told : List Version)
    (done left : List Update) (u : Update) (why : UpdateFault) → IsBetween v w s.pending → HaveSoas v w new
    → updates_between v w old new ≡ done ++ u ∷ left
    → AppliesAll new_updater s done told x t → IsRefused x t u why → ⊥
