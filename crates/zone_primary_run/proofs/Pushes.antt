-- What a primary keeps after commits were pushed to it.
use Rattle.std.specs.Prelude.{◌≡◌, Bool, true, false, if◌then◌else◌, List, [], ◌∷◌, length, Option, Some, None}
use Rattle.std.proofs.Common.{refl, sym, ap, ◌∙◌, subst, arith}
use Rattle.zone_model.specs.Commits.{Commit}
use Rattle.zone_model.specs.Difference.{Difference, diffable, difference}
use Rattle.zone_model.specs.Version.{Version}
use Rattle.zone_model.specs.Offer.{Provider, MayPush, after_push, difference_if}
use Rattle.zone_primary_run.specs.ScriptPrimaries.{AreTold, pushed_all, versions_of}

-- the difference that there is to tell may be pushed
may_push : (v w : Version) → MayPush v w (difference_if v w)
may_push v w = by (diffable v w) refl
  where
    by : (b : Bool) → diffable v w ≡ b → MayPush v w (if b then Some (difference v w) else None)
    by true e = (refl, e)
    by false e = tt

pub first_may : (kept : Version) (c : Commit × Option Difference) (more : List (Commit × Option Difference)) (left : List (Commit × Option Difference)) → left ≡ c ∷ more → AreTold kept left → MayPush kept c.0.version c.1
first_may kept c more left split told =
    let all = subst (λ (cs : List (Commit × Option Difference)). AreTold kept cs) split told in
    subst (λ (d : Option Difference). MayPush kept c.0.version d) (sym all.0) (may_push kept c.0.version)

-- after one more, the others are to be pushed
pub one_pushed : (p q last : Provider) (c : Commit × Option Difference) (more left : List (Commit × Option Difference)) → left ≡ c ∷ more → AreTold p.kept left → pushed_all p (versions_of left) ≡ last → q ≡ after_push p c.0.version c.1
    → (pushed_all q (versions_of more) ≡ last) × AreTold q.kept more
one_pushed p q last c more left split told so_far is =
    let all = subst (λ (cs : List (Commit × Option Difference)). AreTold p.kept cs) split told in
    let same : q ≡ after_push p c.0.version (difference_if p.kept c.0.version) = is ∙ ap (λ d. after_push p c.0.version d) all.0 in (
      ap (λ x. pushed_all x (versions_of more)) same ∙ ap (λ cs. pushed_all p (versions_of cs)) (sym split) ∙ so_far,
      subst (λ (x : Provider). AreTold x.kept more) (sym same) all.1,
    )

pub none_left : {X : Type 0} (l : List X) → length l ≡ 0 → l ≡ []
none_left [] h = refl
none_left (x ∷ xs) h = absurd (omega arith)
