-- What a step's answer says, from what its call told.
use Rattle.std.proofs.Common.{◌≡◌, ℕ, ◌-◌, ◌^◌, ◌<◌, ◌↔◌, Bool, true, List, refl, sym, ap, subst, ◌∙◌, Option, Some, slice_get, length, Result, Ok, Err, Bor}
use Rattle.std.specs.Prelude.{OnOk, OnErr, IfErr, IfSome}
use Rattle.std.specs.Slice.{IsItemAt}
use Rattle.std.proofs.lemmas.Option.{slice_get_within}
use Rattle.zone_reads.specs.Session.{Session}
use Rattle.zone_model.specs.Commits.{CommitList}
use Rattle.zone_values.specs.declared.edit_errors.CommitError.{CommitError}
use Rattle.zone_values.specs.declared.edit_errors.CommitError.TheVariants.{VersionsExhausted as NoNumber, Memory as NoMemory}
use Rattle.zone_handles.specs.declared.zone_edits.ZoneEdit.{ZoneEdit}
use Rattle.zone_handles.specs.declared.steps.Step.{Step}
use Rattle.zone_handles.specs.declared.steps.Step.TheVariants.{Edit as EditStep, Open as OpenStep, Commit as CommitStep, Rollback, EndSession, Read as ReadStep, Copy}
use Rattle.zone_handles.specs.ZoneEdits.{can_change}
use Rattle.zone_handles.specs.Steps.{Exhausts, TakesMemory, Refuses}
use Rattle.zone_handles.proofs.Moves.{got}

abbrev pub Told : Type 0
Told = Result (Unit {0}) CommitError

-- a session that is the same is so but for its handle
pub but_handle : (s t : Session) → t ≡ s → t ≡ record s { has_handle = t.has_handle }
but_handle s t e = e ∙ ap (λ b. record s { has_handle = b }) (sym (ap (λ (u : Session). u.has_handle) e))

-- what holds whatever a call told
pub on_err_always : {T E P : Type 0} (r : Result T E) → P → OnErr r P
on_err_always (Ok x) p = tt
on_err_always (Err e) p = p

-- why an edit is refused
pub edit_cause : (edit : ZoneEdit) (s : Session) (handles : CommitList) (r : Told) → IfErr r (λ e. e ≡ NoMemory) → OnErr r (can_change edit s.pending ≡ true)
    → IfErr r (λ e. Refuses (EditStep edit) s handles e)
edit_cause edit s handles (Ok x) m k = tt
edit_cause edit s handles (Err e) m k = subst (λ f. Refuses (EditStep edit) s handles f) (sym m) k

-- why a commit is
pub commit_cause : (bumps : Bool) (s : Session) (handles : CommitList) (r : Told) → ((r ≡ Err NoNumber) ↔ (s.current.number ≡ 2 ^ 64 - 1))
    → IfErr r (λ e. Refuses (CommitStep bumps) s handles e)
commit_cause bumps s handles (Ok x) h = tt
commit_cause bumps s handles (Err NoMemory) h = λ last. let e : ◌≡◌ {A = Told} (Err NoMemory) (Err NoNumber) = h.1 last in cc
commit_cause bumps s handles (Err NoNumber) h = h.0 refl

-- why a copy is
pub copy_cause : (handle : ℕ) (s : Session) (handles : CommitList) (r : Told) → IfErr r (λ e. e ≡ NoMemory) → OnErr r (handle < length handles) → IfErr r (λ e. Refuses (Copy handle) s handles e)
copy_cause handle s handles (Ok x) m k = tt
copy_cause handle s handles (Err e) m k = subst (λ f. Refuses (Copy handle) s handles f) (sym m) k

-- a handle that was got is one of them
pub there : (xs all : CommitList) (i : ℕ) (r : Bor _) → xs ≡ all → IsItemAt xs i (Some r) → i < length all
there xs all i r same h = slice_get_within all i r.now (ap (λ ys. slice_get ys i) (sym same) ∙ got xs i r h)

-- why a step is refused still holds of a session and handles that stayed
exhausts_still : (step : Step) (s : Session) (b : Bool) → Exhausts step s → Exhausts step (record s { has_handle = b })
exhausts_still (EditStep edit) s b h = h
exhausts_still (OpenStep create_diff) s b h = h
exhausts_still (CommitStep bumps) s b h = h
exhausts_still Rollback s b h = h
exhausts_still EndSession s b h = h
exhausts_still ReadStep s b h = h
exhausts_still (Copy handle) s b h = h

takes_still : (step : Step) (s : Session) (handles : CommitList) (b : Bool) → TakesMemory step s handles → TakesMemory step (record s { has_handle = b }) handles
takes_still (EditStep edit) s handles b h = h
takes_still (OpenStep create_diff) s handles b h = h
takes_still (CommitStep bumps) s handles b h = h
takes_still Rollback s handles b h = h
takes_still EndSession s handles b h = h
takes_still ReadStep s handles b h = h
takes_still (Copy handle) s handles b h = h

refuses_still : (step : Step) (s : Session) (handles : CommitList) (b : Bool) (e : CommitError) → Refuses step s handles e → Refuses step (record s { has_handle = b }) handles e
refuses_still step s handles b NoMemory h = takes_still step s handles b h
refuses_still step s handles b NoNumber h = exhausts_still step s b h

pub still_refuses : (step : Step) (s t : Session) (handles later : CommitList) (e : CommitError) → t ≡ record s { has_handle = t.has_handle } → later ≡ handles → Refuses step s handles e → Refuses step t later e
still_refuses step s t handles later e stays same h =
    subst (λ all. Refuses step t all e) (sym same) (subst (λ u. Refuses step u handles e) (sym stays) (refuses_still step s handles t.has_handle e h))

-- .. of the step at a place
pub refused_at : (steps : List Step) (made : ℕ) (step : Step) (s : Session) (handles : CommitList) (e : CommitError) → slice_get steps made ≡ Some step → Refuses step s handles e
    → IfSome (slice_get steps made) (λ x. Refuses x s handles e)
refused_at steps made step s handles e at h = subst (λ o. IfSome o (λ x. Refuses x s handles e)) (sym at) h
