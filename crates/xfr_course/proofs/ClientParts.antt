-- A client that gives up anywhere has committed a first part of the versions made.
use Rattle.std.proofs.Common.{◌≡◌, ℕ, true, false, if◌then◌else◌, List, [], ◌∷◌, ◌++◌, length, append_assoc, append-nil, sym, ap, ◌∙◌, is_some, Result, Ok, Err}
use Rattle.std.specs.Prelude.{nat_lt}
use Rattle.zone_model.specs.Version.{Version}
use Rattle.xfr_course.specs.Outcome.{Checked, Course, room}
use Rattle.zone_model.specs.Updates.{Update, Progress, UpdateFault, apply_update}
use Rattle.xfr_model.specs.Machine.{Run}
use Rattle.xfr_model.specs.Applying.{NoNumber, Held, apply_within, unless_halted, within}
use Rattle.xfr_course.specs.Client.{IsPart, PartIsMade, Client, new_client, client_after, run_message, take_checked, take_course}
use Rattle.xfr_model.proofs.Limits.{then_held, within-append, GrowsIf, update_grows}
use Rattle.xfr_course.proofs.Clients.{client_meets, course_on}

-- Parts.
part_itself : (xs : List Version) → IsPart xs xs
part_itself xs = record { rest = []; is = sym (append-nil xs) }

part_on : (xs ys zs : List Version) → IsPart xs ys → IsPart ys zs → IsPart xs zs
part_on xs ys zs a b = record { rest = a.rest ++ b.rest; is = b.is ∙ ap (λ l. l ++ b.rest) a.is ∙ append_assoc xs a.rest b.rest }

within_grows : (n : ℕ) (us : List Update) (p : Progress) → IsPart p.committed (apply_within n p us).progress.committed
within_grows n [] p = part_itself p.committed
within_grows n (u ∷ more) p = by (apply_update p u) (update_grows p u) (λ q. within_grows n more q)
  where
    by : (o : Result Progress UpdateFault) → GrowsIf p o → ((q : Progress) → IsPart q.committed (apply_within n q more).progress.committed)
        → IsPart p.committed (unless_halted p (λ q. apply_within n q more) (within n o)).progress.committed
    by (Err e) g next = part_itself p.committed
    by (Ok q) g next =
        elim (nat_lt n (length q.committed)) as (λ b. IsPart p.committed (unless_halted p (λ x. apply_within n x more) (if b then Err NoNumber else Ok q)).progress.committed) [
          | true ↦ part_itself p.committed
          | false ↦ part_on p.committed q.committed (apply_within n q more).progress.committed (record { rest = g.new; is = g.behind }) (next q)
        ]

taken_grows : (c : Course) (cl : Client) (k : Checked) → IsPart cl.progress.committed (take_checked c cl k).progress.committed
taken_grows c cl k =
    elim (is_some cl.met) as (λ b. IsPart cl.progress.committed (if b then cl else client_after c cl.begun (run_message c cl k) (apply_within (room c) cl.progress (run_message c cl k).updates)).progress.committed) [
      | true ↦ part_itself cl.progress.committed
      | false ↦ within_grows (room c) (run_message c cl k).updates cl.progress
    ]

course_grows : (c : Course) (cl : Client) (ks : List Checked) → IsPart cl.progress.committed (take_course c cl ks).progress.committed
course_grows c cl [] = part_itself cl.progress.committed
course_grows c cl (k ∷ more) = part_on cl.progress.committed (take_checked c cl k).progress.committed (take_course c (take_checked c cl k) more).progress.committed (taken_grows c cl k) (course_grows c (take_checked c cl k) more)

held_grows : (n : ℕ) (h : Held) (vs : List Update) → IsPart h.progress.committed (then_held n h vs).progress.committed
held_grows n h vs =
    elim (is_some h.halt) as (λ b. IsPart h.progress.committed (if b then h else apply_within n h.progress vs).progress.committed) [
      | true ↦ part_itself h.progress.committed
      | false ↦ within_grows n vs h.progress
    ]

pub part_is_made : PartIsMade
part_is_made c ks k more us vs unmet told =
    let d : Course = record c { checked = ks ++ k ∷ more } in
    let cl : Client = take_course c (new_client c) ks in
    let r : Run = run_message c cl k in
    let next : Client = take_checked c cl k in
    let h : Held = apply_within (room c) cl.progress us in
    let took : next ≡ client_after c cl.begun r (apply_within (room c) cl.progress r.updates) = ap (λ o. if is_some o then cl else client_after c cl.begun r (apply_within (room c) cl.progress r.updates)) unmet in
    let all : next.progress.committed ≡ (then_held (room c) h vs).progress.committed =
    ap (λ x. x.progress.committed) took ∙ ap (λ l. (apply_within (room c) cl.progress l).progress.committed) told ∙ ap (λ x. x.progress.committed) (within-append (room c) us vs cl.progress) in
    let now = held_grows (room c) h vs in
    let later = course_grows c next more in
    let whole = part_on h.progress.committed next.progress.committed (take_course c next more).progress.committed (record { rest = now.rest; is = all ∙ now.is }) later in
    record { rest = whole.rest; is = sym (client_meets d).made ∙ ap (λ x. x.progress.committed) (course_on c (new_client c) ks (k ∷ more)) ∙ whole.is }
