-- Single updates, and all that a message says.
use Rattle.std.proofs.Common.{◌≡◌, ◌≢◌, ℕ, ◌+◌, ◌-◌, ◌<◌, ◌≤◌, ◌^◌, Bool, true, false, if◌then◌else◌, List, [], ◌∷◌, ◌++◌, length, length-append, append_assoc, append-nil, refl, sym, ap, ◌∙◌, subst, arith, Option, Some, Result, Ok, Err, inl, inr}
use Rattle.std.specs.Prelude.{nat_lt, ◌==◌, ◌&&◌, IsOk, IfSome}
use Rattle.std.proofs.lemmas.Bool.{le-ltb, eq-eqb}
use Rattle.zone_model.specs.Version.{Version}
use Rattle.zone_model.specs.Commits.{Commit}
use Rattle.zone_model.specs.Difference.{Difference}
use Rattle.zone_model.specs.Commits.{commits_after}
use Rattle.zone_reads.specs.Session.{Session, with_pending}
use Rattle.zone_model.specs.Edits as edits
use Rattle.zone_model.specs.Updates.{Update, Progress, UpdateFault, Edit, NotSoaRecord, AfterFinish, apply_update, after_refusal}
use Rattle.xfr_outcomes.specs.declared.update.Error.{Error}
use Rattle.xfr_outcomes.specs.declared.update.Error.TheVariants as errors
use Rattle.xfr_client.specs.Causes.{update_fault_of}
use Rattle.xfr_model.specs.Applying.{Halt, Denied, NoNumber, within, apply_within, unless_halted, commits}
use Rattle.xfr_model.proofs.Limits.{within-append, then_held}
use Rattle.xfr_model.proofs.FinerSteps.{last_number}
use Rattle.xfr_client.specs.Updating.{Updating, progress_of, new_version, next_commit, lacks_number}
use Rattle.xfr_client.specs.Steps.{commit_after, numbers_left, HasMade, KeepsWish, Ahead, DoesOne, TakesOne, Led}

-- one version more after those committed on a base
pub number_after : (base : Commit) (vs : List Version) → (commit_after base vs).number ≡ base.number + length vs
number_after base [] = omega arith
number_after base (v ∷ more) = let e = number_after (record { number = base.number + 1; version = v }) more in omega (arith, e)

pub last_after : (base : Commit) (vs : List Version) (w : Version) → commit_after base (vs ++ w ∷ []) ≡ record { number = (commit_after base vs).number + 1; version = w }
last_after base [] w = refl
last_after base (v ∷ more) w = last_after (record { number = base.number + 1; version = v }) more w

pub all_after : (base : Commit) (vs : List Version) (w : Version) → commits_after base (vs ++ w ∷ []) ≡ commits_after base vs ++ (record { number = (commit_after base vs).number + 1; version = w }) ∷ []
all_after base [] w = refl
all_after base (v ∷ more) w = let c : Commit = record { number = base.number + 1; version = v } in ap (λ l. c ∷ l) (all_after c more w)

-- updates done, and one more
abbrev pub led_none : (limit : ℕ) (g : Progress) (all : List Update) → Led limit g all g all
led_none limit g all = record { done = []; joined = refl; led = refl }

abbrev pub led_more : (limit : ℕ) (g p q : Progress) (all left : List Update) (u : Update) → Led limit g all p (u ∷ left) → within limit (apply_update p u) ≡ Ok q → Led limit g all q left
led_more limit g p q all left u l h = record {
  done = l.done ++ u ∷ [];
  joined = l.joined ∙ sym (append_assoc l.done (u ∷ []) left);
  led = within-append limit l.done (u ∷ []) g ∙ ap (λ x. then_held limit x (u ∷ [])) l.led ∙ ap (λ r. unless_halted p (λ x. apply_within limit x []) r) h;
}

-- so what all of them make is what those that are left make
pub led_all : (limit : ℕ) (g p : Progress) (all left : List Update) → Led limit g all p left → apply_within limit g all ≡ apply_within limit p left
led_all limit g p all left l = ap (apply_within limit g) l.joined ∙ within-append limit l.done left g ∙ ap (λ x. then_held limit x left) l.led

-- an update that isn't done halts what is left
pub halts_left : (limit : ℕ) (p : Progress) (left : List Update) (u : Update) (h : Halt) → within limit (apply_update p u) ≡ Err h
    → apply_within limit p (u ∷ left) ≡ record { progress = p; halt = Some h }
halts_left limit p left u h e = ap (λ r. unless_halted p (λ x. apply_within limit x left) r) e

-- progress within the numbers
pub within_numbers : (base : Commit) (q : Progress) → base.number + length q.committed ≤ 2 ^ 64 - 1 → within (numbers_left base) (Ok q) ≡ Ok q
within_numbers base q few = ap (λ b. if b then Err NoNumber else Ok q) (le-ltb (numbers_left base) (length q.committed) (omega (arith, few)))

-- a session that keeps its current commit has made what it had made
pub made_still : (base : Commit) (before handles now : List Commit) (s t : Session) (vs : List Version) → HasMade base before s handles vs → t.current ≡ s.current → now ≡ handles → HasMade base before t now vs
made_still base before handles now s t vs m e h = record { current = e ∙ m.current; behind = h ∙ m.behind }

-- one version more
pub made_more : (base : Commit) (before handles now : List Commit) (s t : Session) (vs : List Version) → HasMade base before s handles vs
    → t.current ≡ record { number = s.current.number + 1; version = t.current.version } → now ≡ handles ++ t.current ∷ [] → HasMade base before t now (vs ++ t.current.version ∷ [])
made_more base before handles now s t vs m e h =
    let last = last_after base vs t.current.version in
    let is : t.current ≡ record { number = (commit_after base vs).number + 1; version = t.current.version } = e ∙ ap (λ (c : Commit). record { number = c.number + 1; version = t.current.version }) m.current in
    record {
      current = is ∙ sym last;
      behind = h ∙ ap (λ l. l ++ t.current ∷ []) m.behind ∙ append_assoc before (commits_after base vs) (t.current ∷ [])
          ∙ ap (λ c. before ++ (commits_after base vs ++ c ∷ [])) is ∙ ap (λ l. before ++ l) (sym (all_after base vs t.current.version));
    }

-- an update that was done and committed nothing
pub one_edited : (base : Commit) (before : List Commit) (u v : Updating) (s t : Session) (handles now : List Commit) (g : Progress) (update : Update)
    → Ahead base before u s handles g → t.current ≡ s.current → now ≡ handles
    → apply_update (progress_of u s g.committed) update ≡ Ok (progress_of v t (g.committed ++ [])) → DoesOne base before v t now g update
one_edited base before u v s t handles now g update a e h ok =
    let q : Progress = progress_of v t g.committed in
    let did : apply_update g update ≡ Ok q = ap (λ p. apply_update p update) (sym a.progress) ∙ ok ∙ ap (λ l. Ok (progress_of v t l)) (append-nil g.committed) in
    record {
      progress = q;
      done = ap (within (numbers_left base)) did ∙ within_numbers base q a.few;
      ahead = record { progress = refl; made = made_still base before handles now s t g.committed a.made e h; few = a.few };
    }

-- .. and one that committed a version, of which there is a handle now
not_last : (b c : Bool) → b ≡ true → (b && c) ≡ false → c ≡ false
not_last true c e h = h
not_last false c e h = absurd (cc e)

pub one_committed : (base : Commit) (before : List Commit) (u v : Updating) (s t : Session) (handles now : List Commit) (g : Progress) (update : Update)
    → Ahead base before u s handles g → t.current ≡ record { number = s.current.number + 1; version = t.current.version } → now ≡ handles ++ t.current ∷ []
    → commits update ≡ true → lacks_number s.current.number update ≡ false
    → apply_update (progress_of u s g.committed) update ≡ Ok (progress_of v t (g.committed ++ t.current.version ∷ [])) → DoesOne base before v t now g update
one_committed base before u v s t handles now g update a e h commit number ok =
    let q : Progress = progress_of v t (g.committed ++ t.current.version ∷ []) in
    let did : apply_update g update ≡ Ok q = ap (λ p. apply_update p update) (sym a.progress) ∙ ok in
    let at : s.current.number ≡ base.number + length g.committed = ap (λ (c : Commit). c.number) a.made.current ∙ number_after base g.committed in
    let other : (s.current.number == 2 ^ 64 - 1) ≡ false = not_last (commits update) (s.current.number == 2 ^ 64 - 1) commit number in
    let small = a.few in
    let unlike : s.current.number ≢ 2 ^ 64 - 1 = λ (k : s.current.number ≡ 2 ^ 64 - 1). cc (sym (eq-eqb s.current.number (2 ^ 64 - 1) k) ∙ other) in
    let size = length-append g.committed (t.current.version ∷ []) in
    let few : base.number + length q.committed ≤ 2 ^ 64 - 1 = omega (arith, at, small, unlike, size) in
    record {
      progress = q;
      done = ap (within (numbers_left base)) did ∙ within_numbers base q few;
      ahead = record { progress = refl; made = made_more base before handles now s t g.committed a.made e h; few = few };
    }

-- an update that is refused
pub one_refused : (base : Commit) (before : List Commit) (u : Updating) (s : Session) (handles : List Commit) (g : Progress) (update : Update) (why : UpdateFault)
    → Ahead base before u s handles g → apply_update (progress_of u s g.committed) update ≡ Err why → within (numbers_left base) (apply_update g update) ≡ Err (Denied why)
one_refused base before u s handles g update why a h = ap (λ p. within (numbers_left base) (apply_update p update)) (sym a.progress) ∙ ap (within (numbers_left base)) h

-- .. and one for which there is no number
ok_of : (p : Result Progress UpdateFault) → IsOk p → (q : Progress) × (p ≡ Ok q)
ok_of (Ok q) h = (q, refl)
ok_of (Err e) h = absurd (cc h)

pub one_unnumbered : (base : Commit) (before : List Commit) (u : Updating) (s : Session) (handles : List Commit) (g : Progress) (update : Update)
    → Ahead base before u s handles g → lacks_number s.current.number update ≡ true → IsOk (apply_update (progress_of u s g.committed) update)
    → within (numbers_left base) (apply_update g update) ≡ Err NoNumber
one_unnumbered base before u s handles g update a lacks ok =
    let q = ok_of (apply_update g update) (subst (λ p. IsOk (apply_update p update)) a.progress ok) in
    let at : s.current.number ≡ base.number + length g.committed = ap (λ (c : Commit). c.number) a.made.current ∙ number_after base g.committed in
    let few = a.few in
    let law = last_number (2 ^ 64 - 1) base.number g q.0 update (omega (arith, few)) (omega (arith, few)) q.1 in
    let none : nat_lt (numbers_left base) (length q.0.committed) ≡ true = law ∙ ap (λ n. commits update && (n == 2 ^ 64 - 1)) (sym at) ∙ lacks in
    ap (within (numbers_left base)) q.1 ∙ ap (λ b. if b then Err NoNumber else Ok q.0) none

-- what an error of the updater becomes
pub one_error : (base : Commit) (before : List Commit) (u v : Updating) (s t : Session) (handles now : List Commit) (g : Progress) (update : Update) (e : Error)
    → Ahead base before u s handles g → t.current ≡ s.current → now ≡ handles
    → IfSome (update_fault_of e) (λ why. (apply_update (progress_of u s g.committed) update ≡ Err why) × (progress_of v t g.committed ≡ after_refusal (progress_of u s g.committed) why))
    → (◌≡◌ {A = Result (Option Difference) Error} (Err e) (Err errors.VersionsExhausted) → (lacks_number s.current.number update ≡ true) × IsOk (apply_update (progress_of u s g.committed) update))
    → TakesOne base before v t now g update (Err e)
one_error base before u v s t handles now g update errors.Memory a c h refused exhausted = (made_still base before handles now s t g.committed a.made c h, inl refl)
one_error base before u v s t handles now g update errors.VersionsExhausted a c h refused exhausted =
    let x = exhausted refl in
    (made_still base before handles now s t g.committed a.made c h, inr (record { halt = NoNumber; halts = one_unnumbered base before u s handles g update a x.0 x.1; why = refl }))
one_error base before u v s t handles now g update errors.OutOfZone a c h refused exhausted =
    (made_still base before handles now s t g.committed a.made c h, inr (record { halt = Denied (Edit edits.OutOfZone); halts = one_refused base before u s handles g update (Edit edits.OutOfZone) a refused.0; why = refl }))
one_error base before u v s t handles now g update errors.IncompatibleUpdate a c h refused exhausted =
    (made_still base before handles now s t g.committed a.made c h, inr (record { halt = Denied (Edit edits.Incompatible); halts = one_refused base before u s handles g update (Edit edits.Incompatible) a refused.0; why = refl }))
one_error base before u v s t handles now g update errors.InvalidData a c h refused exhausted =
    (made_still base before handles now s t g.committed a.made c h, inr (record { halt = Denied (Edit edits.InvalidData); halts = one_refused base before u s handles g update (Edit edits.InvalidData) a refused.0; why = refl }))
one_error base before u v s t handles now g update errors.NotSoaRecord a c h refused exhausted =
    (made_still base before handles now s t g.committed a.made c h, inr (record { halt = Denied NotSoaRecord; halts = one_refused base before u s handles g update NotSoaRecord a refused.0; why = refl }))
one_error base before u v s t handles now g update errors.Finished a c h refused exhausted =
    (made_still base before handles now s t g.committed a.made c h, inr (record { halt = Denied AfterFinish; halts = one_refused base before u s handles g update AfterFinish a refused.0; why = refl }))

-- an update that committed, of which a handle was taken
pub one_told : (base : Commit) (before : List Commit) (u v : Updating) (s r t : Session) (handles now : List Commit) (g : Progress) (update : Update)
    → Ahead base before u s handles g → commits update ≡ true → t.current ≡ r.current → t.pending ≡ r.pending
    → r.current ≡ next_commit (commits update) s.current r.current.version → lacks_number s.current.number update ≡ false → now ≡ handles ++ r.current ∷ []
    → apply_update (progress_of u s g.committed) update ≡ Ok (progress_of v r (g.committed ++ new_version (commits update) r)) → DoesOne base before v t now g update
one_told base before u v s r t handles now g update a is same pending next number h ok =
    one_committed base before u v s t handles now g update a
    (same ∙ next ∙ ap (λ b. next_commit b s.current r.current.version) is ∙ ap (λ (c : Commit). record { number = s.current.number + 1; version = c.version }) (sym same))
    (h ∙ ap (λ c. handles ++ c ∷ []) (sym same)) is number
    (ok ∙ ap (λ b. Ok (progress_of v r (g.committed ++ new_version b r))) is
    ∙ ap (λ (x : Version). Ok (record { committed = g.committed ++ x ∷ []; pending = r.pending; replacing = v.replacing; finished = v.finished })) (ap (λ (c : Commit). c.version) (sym same))
    ∙ ap (λ (x : Version). Ok (record { committed = g.committed ++ t.current.version ∷ []; pending = x; replacing = v.replacing; finished = v.finished })) (sym pending))

-- .. and one that didn't
pub one_untold : (base : Commit) (before : List Commit) (u v : Updating) (s t : Session) (handles now : List Commit) (g : Progress) (update : Update)
    → Ahead base before u s handles g → commits update ≡ false → t.current ≡ next_commit (commits update) s.current t.current.version → now ≡ handles
    → apply_update (progress_of u s g.committed) update ≡ Ok (progress_of v t (g.committed ++ new_version (commits update) t)) → DoesOne base before v t now g update
one_untold base before u v s t handles now g update a is next h ok =
    one_edited base before u v s t handles now g update a (next ∙ ap (λ b. next_commit b s.current t.current.version) is) h
    (ok ∙ ap (λ b. Ok (progress_of v t (g.committed ++ new_version b t))) is)

-- ---- the wish for a difference

pub wish_stays : (s : Session) → KeepsWish s s
wish_stays s = inl (refl, refl)

pub wish_on : (s t u : Session) → KeepsWish s t → KeepsWish t u → KeepsWish s u
wish_on s t u (inl h) (inl k) = inl (k.0 ∙ h.0, k.1 ∙ h.1)
wish_on s t u (inl h) (inr k) = inr (subst (λ (c : Commit). c.number < u.current.number) h.0 k)
wish_on s t u (inr h) (inl k) = inr (subst (λ (c : Commit). s.current.number < c.number) (sym k.0) h)
wish_on s t u (inr h) (inr k) = let p = h in let q = k in inr (omega (arith, p, q))

-- an update that commits counts on, and one that doesn't leaves the wish
pub wish_told : (s r t : Session) (update : Update) → commits update ≡ true → r.current ≡ next_commit (commits update) s.current r.current.version → t.current ≡ r.current → KeepsWish s t
wish_told s r t update is next same =
    let e : t.current.number ≡ s.current.number + 1 = ap (λ (c : Commit). c.number) (same ∙ next ∙ ap (λ b. next_commit b s.current r.current.version) is) in
    inr (omega (arith, e))

pub wish_untold : (s t : Session) (update : Update) → commits update ≡ false → (commits update ≡ false → t ≡ with_pending s t.pending) → KeepsWish s t
wish_untold s t update is kept = let e = kept is in inl (ap (λ (x : Session). x.current) e, ap (λ (x : Session). x.compares) e)
