-- What the calls of a session and of its handles do to the zones that they stand for.
use Rattle.std.proofs.Common.{◌≡◌, ℕ, ◌+◌, ◌-◌, ◌≤◌, Bool, true, false, List, [], ◌∷◌, ◌++◌, length, map, refl, sym, ap, subst, ◌∙◌, Option, Some, None, slice_get, option_map, option_and_then, unwrap_or, arith, append-nil, length-append, Bor}
use Rattle.std.specs.List.{last_or}
use Rattle.std.specs.Slice.{IsItemAt}
use Rattle.std.proofs.lemmas.List.{append_assoc, map-append}
use Rattle.std.proofs.lemmas.Option.{slice_get_within, get_or_from_slice_get, slice_get-get_or, slice_get-map, slice_get_read, slice_get_past}
use Rattle.std.proofs.Math.ListN.{get_or-append}
use Rattle.zone_model.specs.Version.{Version}
use Rattle.zone_model.specs.Edits.{bump, close}
use Rattle.published.specs.History.{Past}
use Rattle.zone_reads.specs.Session.{Session, opened_session, with_pending, with_commit, committed, new_session}
use Rattle.zone_model.specs.Commits.{Commit, CommitList, Zone, latest, Event, Open, Edit, Publish, Abandon, next_commit, appended, reset, kept_or, after, after_all, AllMayHappen, version_of}
use Rattle.zone_model.proofs.Handles.{handles_keep}
use Rattle.zone_handles.specs.declared.steps.Step.{Step}
use Rattle.zone_handles.specs.declared.steps.Step.TheVariants.{Edit as EditStep, Open as OpenStep, Commit as CommitStep, Rollback, EndSession, Read as ReadStep, Copy}
use Rattle.zone_handles.specs.declared.zone_edits.ZoneEdit.{ZoneEdit}
use Rattle.zone_handles.specs.ZoneEdits.{edited}
use Rattle.zone_handles.specs.Steps.{HandlesStand, StandFor, counted_on, read_at, events_of, events_of_all, wish_after, wish_after_all, Leads, Stays, OpensSo, DropAbandons, LeaveNoTrace, HandlesStay}

-- lists
last_more : {A : Type 0} (o : Option A) (xs : List A) (x : A) → last_or o (xs ++ x ∷ []) ≡ Some x
last_more o [] x = refl
last_more o (y ∷ xs) x = last_more (Some y) xs x

at_end : {A : Type 0} (y : A) (ys : List A) → slice_get (y ∷ ys) (length ys) ≡ last_or (Some y) ys
at_end y [] = refl
at_end y (w ∷ ys) = at_end w ys

latest_at : {A : Type 0} (xs : List A) (x : A) → last_or None xs ≡ Some x → slice_get xs (length xs - 1) ≡ Some x
latest_at [] x e = cc
latest_at (y ∷ ys) x e =
    let n : length (y ∷ ys) - 1 ≡ length ys = omega arith in
    ap (slice_get (y ∷ ys)) n ∙ at_end y ys ∙ e

get_longer : {A : Type 0} (xs ys : List A) (i : ℕ) (x : A) → slice_get xs i ≡ Some x → slice_get (xs ++ ys) i ≡ Some x
get_longer xs ys i x at =
    let n = slice_get_within xs i x at in
    slice_get-get_or (xs ++ ys) i x (omega (arith, n, length-append xs ys)) ∙ ap Some (get_or-append xs ys x i n ∙ get_or_from_slice_get xs i x x at)

pub got : {A : Type 0} (xs : List A) (i : ℕ) (r : Bor A) → IsItemAt xs i (Some r) → slice_get xs i ≡ Some r.now
got xs i r h = slice_get_read xs (length xs) i r.now refl h.3.0 h.1

pub lacks : {A : Type 0} (xs : List A) (i : ℕ) → IsItemAt xs i None → slice_get xs i ≡ None
lacks xs i h = slice_get_past xs i h.3

abbrev head_or : {A : Type 0} → A → List A → A
head_or d [] = d
head_or d (x ∷ xs) = x

abbrev tail_of : {A : Type 0} → List A → List A
tail_of [] = []
tail_of (x ∷ xs) = xs

-- handles
readers_keep : (commits more handles : CommitList) (positions : List ℕ) → map (λ c. Some c) handles ≡ map (λ p. slice_get commits p) positions
    → map (λ c. Some c) handles ≡ map (λ p. slice_get (commits ++ more) p) positions
readers_keep commits more [] [] e = refl
readers_keep commits more [] (p ∷ ps) e = cc
readers_keep commits more (h ∷ hs) [] e = cc
readers_keep commits more (h ∷ hs) (p ∷ ps) e =
    let first : slice_get commits p ≡ Some h = sym (ap (head_or None) e) in
    λ i. sym (get_longer commits more p h first) i ∷ readers_keep commits more hs ps (ap tail_of e) i

one_more : (handles : CommitList) (z : Zone) (c : Commit) (p : ℕ) → HandlesStand handles z → slice_get z.commits p ≡ Some c → HandlesStand (handles ++ c ∷ []) (record z { positions = z.positions ++ p ∷ [] })
one_more handles z c p h at =
    map-append (λ d. Some d) handles (c ∷ []) ∙ (λ i. h i ++ sym at i ∷ []) ∙ sym (map-append (λ q. slice_get z.commits q) z.positions (p ∷ []))

stands_at : (handles : CommitList) (z : Zone) → HandlesStand handles z → (k : ℕ) → option_map (λ c. Some c) (slice_get handles k) ≡ option_map (λ p. slice_get z.commits p) (slice_get z.positions k)
stands_at handles z h k = sym (slice_get-map (λ c. Some c) handles k) ∙ (λ i. slice_get (h i) k) ∙ slice_get-map (λ p. slice_get z.commits p) z.positions k

abbrev version_in : Option (Option Commit) → Option Version
version_in None = None
version_in (Some None) = None
version_in (Some (Some c)) = Some c.version

of_handle : (o : Option Commit) → version_in (option_map (λ c. Some c) o) ≡ option_map (λ (c : Commit). c.version) o
of_handle None = refl
of_handle (Some c) = refl

of_commit : (o : Option Commit) → version_in (Some o) ≡ option_map (λ (c : Commit). c.version) o
of_commit None = refl
of_commit (Some c) = refl

of_position : (commits : CommitList) (o : Option ℕ) → version_in (option_map (λ p. slice_get commits p) o) ≡ option_map (λ (c : Commit). c.version) (option_and_then (λ p. slice_get commits p) o)
of_position commits None = refl
of_position commits (Some p) = of_commit (slice_get commits p)

-- the version of a handle is the one at its position
pub versions_stand : (handles : CommitList) (z : Zone) → HandlesStand handles z → (k : ℕ) → option_map (λ (c : Commit). c.version) (slice_get handles k) ≡ version_of z k
versions_stand handles z h k = sym (of_handle (slice_get handles k)) ∙ ap version_in (stands_at handles z h k) ∙ of_position z.commits (slice_get z.positions k)

-- .. whatever happened since
pub versions_since : (handles : CommitList) (z : Zone) (since : List Event) (k : ℕ) (v : Version) → HandlesStand handles (after_all since z) → version_of z k ≡ Some v
    → option_map (λ (c : Commit). c.version) (slice_get handles k) ≡ Some v
versions_since handles z since k v h at = versions_stand handles (after_all since z) h k ∙ handles_keep z since k v at

-- .. so that a handle is of that version
pub same_since : (handles : CommitList) (z : Zone) (since : List Event) (k : ℕ) (c : Commit) (v : Version) → slice_get handles k ≡ Some c → HandlesStand handles (after_all since z) → version_of z k ≡ Some v → c.version ≡ v
same_since handles z since k c v found h at = ap (λ o. unwrap_or o c.version) (sym (ap (option_map (λ (d : Commit). d.version)) found) ∙ versions_since handles z since k v h at)

pub none_since : (handles : CommitList) (z : Zone) (since : List Event) (k : ℕ) (v : Version) → slice_get handles k ≡ None → HandlesStand handles (after_all since z) → version_of z k ≡ Some v → ⊥
none_since handles z since k v lacks h at = let e : None ≡ Some v = sym (ap (option_map (λ (d : Commit). d.version)) lacks) ∙ versions_since handles z since k v h at in cc

-- the history of a session stays with it
list_at : (s t : Session) (z : Zone) → z.commits ≡ s.past.list → t.past ≡ s.past → z.commits ≡ t.past.list
list_at s t z h past = h ∙ ap (λ (p : Past Commit). p.list) (sym past)

last_at : (s t : Session) → s.past.last ≡ s.current → t.past ≡ s.past → t.current ≡ s.current → t.past.last ≡ t.current
last_at s t h past same = ap (λ (p : Past Commit). p.last) past ∙ h ∙ sym same

-- commits
abbrev published_from : Session → Version → Bool → Session
published_from s v b = let c : Commit = record { number = s.current.number + 1; version = close v } in
    record { past = with_commit s.past c; current = c; pending = close v; compares = false; has_handle = b }

publishes : (s : Session) (handles : CommitList) (z : Zone) (v : Version) (b : Bool) → latest z.commits ≡ Some s.current → z.commits ≡ s.past.list → v ≡ z.pending → HandlesStand handles z
    → StandFor (published_from s v b) handles (after Publish z)
publishes s handles z v b last list pending readers =
    subst (λ o. StandFor (published_from s v b) handles (appended o z)) (sym last)
    (record {
      current = last_more None z.commits (next_commit s.current z.pending) ∙ (λ i. Some (next_commit s.current (sym pending i)));
      commits = λ i. list i ++ next_commit s.current (sym pending i) ∷ [];
      last = refl;
      pending = ap close pending;
      readers = readers_keep z.commits (next_commit s.current z.pending ∷ []) handles z.positions readers;
    })

commits : (bumps : Bool) (s : Session) (handles : CommitList) → Leads (events_of (CommitStep bumps)) s handles (committed s bumps) handles
commits false s handles z h = ((tt, tt), publishes s handles z s.pending true h.current h.commits h.pending h.readers)
commits true s handles z h = (
  (tt, (tt, tt)),
  publishes s handles (after (Edit (counted_on (latest z.commits))) z) (bump s.current.version s.pending) true h.current h.commits (λ i. kept_or (h.pending i) (counted_on (sym h.current i) (h.pending i))) h.readers,
)

pub commit_leads : (bumps : Bool) (s t : Session) (handles : CommitList) → t ≡ committed s bumps → Leads (events_of (CommitStep bumps)) s handles t handles
commit_leads bumps s t handles e = subst (λ u. Leads (events_of (CommitStep bumps)) s handles u handles) (sym e) (commits bumps s handles)

-- edits, opening and what drops them
pub edit_leads : (edit : ZoneEdit) (s t : Session) (handles : CommitList) → t ≡ with_pending s (kept_or s.pending (edited edit s.pending)) → Leads (events_of (EditStep edit)) s handles t handles
edit_leads edit s t handles e = subst (λ u. Leads (events_of (EditStep edit)) s handles u handles) (sym e) moved
  where
    moved : Leads (events_of (EditStep edit)) s handles (with_pending s (kept_or s.pending (edited edit s.pending))) handles
    moved z h = ((tt, tt), record { current = h.current; commits = h.commits; last = h.last; pending = λ i. kept_or (h.pending i) (edited edit (h.pending i)); readers = h.readers })

pub open_leads : (create_diff : Bool) (s t : Session) (handles : CommitList) → t ≡ opened_session s create_diff → Leads (events_of (OpenStep create_diff)) s handles t handles
open_leads create_diff s t handles e z h =
    let past = ap (λ (u : Session). u.past) e in
    let same = ap (λ (u : Session). u.current) e in (
      (tt, tt),
      record { current = h.current ∙ ap Some (sym same); commits = list_at s t z h.commits past; last = last_at s t h.last past same; pending = ap (λ (u : Session). u.pending) e ∙ h.pending; readers = h.readers },
    )

abandons : (s t : Session) (handles : CommitList) (z : Zone) → t.past ≡ s.past → t.current ≡ s.current → t.pending ≡ s.current.version → StandFor s handles z → StandFor t handles (after Abandon z)
abandons s t handles z past same back h =
    subst (λ o. StandFor t handles (reset o z)) (sym h.current)
    (record { current = h.current ∙ ap Some (sym same); commits = list_at s t z h.commits past; last = last_at s t h.last past same; pending = back; readers = h.readers })

pub rollback_leads : (s t : Session) (handles : CommitList) → t.past ≡ s.past → t.current ≡ s.current → t.pending ≡ s.current.version → Leads (events_of Rollback) s handles t handles
rollback_leads s t handles past same back z h = ((tt, tt), abandons s t handles z past same back h)

pub end_leads : (s t : Session) (handles : CommitList) → t ≡ new_session s.past → Leads (events_of EndSession) s handles t handles
end_leads s t handles e z h = (
  (tt, tt),
  abandons s t handles z (ap (λ (u : Session). u.past) e) (ap (λ (u : Session). u.current) e ∙ h.last) (ap (λ (u : Session). u.pending) e ∙ ap (λ (c : Commit). c.version) h.last) h,
)

-- what is refused
pub still_stands : (s t : Session) (handles later : CommitList) (b : Bool) → t ≡ record s { has_handle = b } → later ≡ handles → Stays s handles t later
still_stands s t handles later b e same z h =
    let past = ap (λ (u : Session). u.past) e in
    let current = ap (λ (u : Session). u.current) e in
    subst (λ all. StandFor t all z) (sym same)
    (record {
      current = h.current ∙ ap Some (sym current);
      commits = list_at s t z h.commits past;
      last = last_at s t h.last past current;
      pending = ap (λ (u : Session). u.pending) e ∙ h.pending;
      readers = h.readers;
    })

-- reads
reads_at : (s t : Session) (handles : CommitList) (z : Zone) (c : Commit) (p : ℕ) → StandFor s handles z → t.past ≡ s.past → t.current ≡ s.current → t.pending ≡ s.pending → slice_get z.commits p ≡ Some c
    → AllMayHappen (read_at (Some p)) z × StandFor t (handles ++ c ∷ []) (after_all (read_at (Some p)) z)
reads_at s t handles z c p h past same pending at =
    let within = slice_get_within z.commits p c at in
    let stays : p ≤ p = omega arith in (
      ((stays, within), tt),
      record { current = h.current ∙ ap Some (sym same); commits = list_at s t z h.commits past; last = last_at s t h.last past same; pending = pending ∙ h.pending; readers = one_more handles z c p h.readers at },
    )

pub reads : (s t : Session) (handles : CommitList) (b : Bool) (c : Commit) → t ≡ record s { has_handle = b } → c ≡ s.current → Leads (events_of ReadStep) s handles t (handles ++ c ∷ [])
reads s t handles b c same current z h =
    reads_at s t handles z c (length z.commits - 1) h (ap (λ (u : Session). u.past) same) (ap (λ (u : Session). u.current) same) (ap (λ (u : Session). u.pending) same) (latest_at z.commits c (h.current ∙ ap Some (sym current)))

some_in : (commits : CommitList) (c : Commit) (o : Option ℕ) → Some (Some c) ≡ option_map (λ p. slice_get commits p) o → (p : ℕ) × (o ≡ Some p) × (slice_get commits p ≡ Some c)
some_in commits c None e = cc
some_in commits c (Some p) e = (p, refl, sym (ap (λ (o : Option (Option Commit)). unwrap_none o) e))
  where
    unwrap_none : Option (Option Commit) → Option Commit
    unwrap_none None = None
    unwrap_none (Some o) = o

pub copies : (s : Session) (handles : CommitList) (k : ℕ) (c : Commit) → slice_get handles k ≡ Some c → Leads (events_of (Copy k)) s handles s (handles ++ c ∷ [])
copies s handles k c found z h =
    let at = some_in z.commits c (slice_get z.positions k) (ap (option_map (λ d. Some d)) (sym found) ∙ stands_at handles z h.readers k) in
    subst (λ o. AllMayHappen (read_at o) z × StandFor s (handles ++ c ∷ []) (after_all (read_at o) z)) (sym at.1) (reads_at s s handles z c at.0 h refl refl refl at.2)

none_in : (commits : CommitList) (o : Option ℕ) → None ≡ option_map (λ p. slice_get commits p) o → o ≡ None
none_in commits None e = refl
none_in commits (Some p) e = cc

pub copies_none : (s : Session) (handles : CommitList) (k : ℕ) → slice_get handles k ≡ None → Leads (events_of (Copy k)) s handles s handles
copies_none s handles k lacks z h =
    let at = none_in z.commits (slice_get z.positions k) (ap (option_map (λ d. Some d)) (sym lacks) ∙ stands_at handles z h.readers k) in
    subst (λ o. AllMayHappen (read_at o) z × StandFor s handles (after_all (read_at o) z)) (sym at) (tt, h)

-- steps in a row
after_both : (xs ys : List Event) (z : Zone) → after_all (xs ++ ys) z ≡ after_all ys (after_all xs z)
after_both [] ys z = refl
after_both (x ∷ xs) ys z = after_both xs ys (after x z)

may_both : (xs ys : List Event) (z : Zone) → AllMayHappen xs z → AllMayHappen ys (after_all xs z) → AllMayHappen (xs ++ ys) z
may_both [] ys z h k = k
may_both (x ∷ xs) ys z h k = (h.0, may_both xs ys (after x z) h.1 k)

events_more : (xs : List Step) (x : Step) (z : Zone) → events_of_all (xs ++ x ∷ []) z ≡ events_of_all xs z ++ events_of x (after_all (events_of_all xs z) z)
events_more [] x z = append-nil (events_of x z)
events_more (y ∷ xs) x z =
    let here = events_of y z in
    let z' = after_all here z in
    ap (λ rest. here ++ rest) (events_more xs x z')
    ∙ sym (append_assoc here (events_of_all xs z') (events_of x (after_all (events_of_all xs z') z')))
    ∙ (λ i. (here ++ events_of_all xs z') ++ events_of x (sym (after_both here (events_of_all xs z') z) i))

pub one_step_more : (xs : List Step) (x : Step) (s t u : Session) (handles then_handles later : CommitList) → Leads (events_of_all xs) s handles t then_handles → Leads (events_of x) t then_handles u later
    → Leads (events_of_all (xs ++ x ∷ [])) s handles u later
one_step_more xs x s t u handles then_handles later f g z h =
    let first = f z h in
    let second = g (after_all (events_of_all xs z) z) first.1 in
    subst (λ events. AllMayHappen events z × StandFor u later (after_all events z)) (sym (events_more xs x z)) (
      may_both (events_of_all xs z) (events_of x (after_all (events_of_all xs z) z)) z first.0 second.0,
      subst (λ y. StandFor u later y) (sym (after_both (events_of_all xs z) (events_of x (after_all (events_of_all xs z) z)) z)) second.1,
    )

pub wish_more : (xs : List Step) (x : Step) (wish : Bool) → wish_after_all (xs ++ x ∷ []) wish ≡ wish_after x (wish_after_all xs wish)
wish_more [] x wish = refl
wish_more (y ∷ xs) x wish = wish_more xs x (wish_after y wish)

pub stays_then : (events : Zone → List Event) (s t u : Session) (handles then_handles later : CommitList) → Leads events s handles t then_handles → Stays t then_handles u later → Leads events s handles u later
stays_then events s t u handles then_handles later f g z h = ((f z h).0, g (after_all (events z) z) (f z h).1)

-- laws
pub opens_so : OpensSo
opens_so p e = record { current = e; commits = refl; last = refl; pending = refl; readers = refl }

pub drop_abandons : DropAbandons
drop_abandons s handles z h = abandons s (new_session s.past) handles z refl h.last (ap (λ (c : Commit). c.version) h.last) h

pub leave_no_trace : LeaveNoTrace
leave_no_trace z [] last e = λ i. reset (e i) z
leave_no_trace z (f ∷ more) last e = leave_no_trace (after (Edit f) z) more last e

pub handles_stay : HandlesStay
handles_stay z events handles later h k handle c at =
    let now : version_of z handle ≡ Some c.version = sym (versions_stand handles z h handle) ∙ ap (option_map (λ (d : Commit). d.version)) at in
    (now, versions_since later z events handle c.version k now)
