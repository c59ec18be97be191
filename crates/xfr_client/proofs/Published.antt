-- Updates applied in turn publish what their records spell.
use Rattle.std.proofs.Common.{◌≡◌, List, [], ◌∷◌, ◌++◌, refl, sym, ap, ◌∙◌, append_assoc, append-nil, Option, Some, None}
use Rattle.std.specs.Option.{option_map}
use Rattle.zone_model.specs.Version.{Version}
use Rattle.zone_reads.specs.Session.{Session}
use Rattle.zone_model.specs.Edits.{Refusal}
use Rattle.zone_model.specs.Spells.{Spelling, spelling}
use Rattle.zone_model.specs.Updates.{Update, UpdateFault, Edit, Progress, begin}
use Rattle.xfr_model.specs.Interpreter.{updates_in}
use Rattle.xfr_model.specs.Applying.{Applied, unless_refused, apply_all, then_applied, commits}
use Rattle.xfr_model.proofs.Refused.{commits_read, applies_on}
use Rattle.xfr_client.specs.Updating.{Updating, progress_of, new_version}
use Rattle.xfr_client.specs.CallsInTurn.{new_updater, IsRefused, AppliesAll, CommitsWhatIsSpelt, CommitsUpToRefusal}

abbrev pub done_at : Progress → Applied
done_at p = record { progress = p; refused = None }

-- calls in turn are updates in turn
pub applied_all : (u : Updating) (s : Session) (us : List Update) (told : List Version) (v : Updating) (t : Session) (before : List Version)
    → AppliesAll u s us told v t → apply_all (progress_of u s before) us ≡ done_at (progress_of v t (before ++ told))
applied_all u s [] told v t before a = rw (a.0, a.1, a.2) (ap (λ l. done_at (progress_of u s l)) (sym (append-nil before)))
applied_all u s (w ∷ more) told v t before a =
    let new : List Version = new_version (commits w) a.session in
    ap (unless_refused (progress_of u s before) (λ q. apply_all q more)) (a.applied before)
    ∙ applied_all a.updating a.session more a.others v t (before ++ new) a.behind
    ∙ ap (λ l. done_at (progress_of v t l)) (append_assoc before new a.others ∙ ap (λ l. before ++ l) (sym a.joined))

no_fault : (o : Option Refusal) → None ≡ option_map Edit o → o ≡ None
no_fault None h = refl
no_fault (Some e) h = cc

pub commits_what_is_spelt : CommitsWhatIsSpelt
commits_what_is_spelt mode rs s t v told a =
    let c = commits_read mode s.pending rs in
    let e = applied_all new_updater s (updates_in mode rs) told v t [] a in
    let x : Spelling = spelling mode rs s.pending in
    let versions : x.versions ≡ told = sym c.versions ∙ ap (λ (z : Applied). z.progress.committed) e in
    let fault : x.fault ≡ None = no_fault x.fault (sym (ap (λ (z : Applied). z.refused) e) ∙ c.refused) in
    (λ i. record { versions = versions i; fault = fault i })

-- a refusal after them
pub refused_at : (s t : Session) (v : Updating) (told : List Version) (done left : List Update) (w : Update) (why : UpdateFault)
    → AppliesAll new_updater s done told v t → IsRefused v t w why
    → apply_all (begin s.pending) (done ++ w ∷ left) ≡ record { progress = progress_of v t told; refused = Some why }
refused_at s t v told done left w why a r =
    applies_on (begin s.pending) done (w ∷ left)
    ∙ ap (λ z. then_applied z (w ∷ left)) (applied_all new_updater s done told v t [] a)
    ∙ ap (unless_refused (progress_of v t told) (λ q. apply_all q left)) (r told)

pub commits_up_to_refusal : CommitsUpToRefusal
commits_up_to_refusal mode rs s t v told done left w why is a r =
    let c = commits_read mode s.pending rs in
    let e = ap (apply_all (begin s.pending)) is ∙ refused_at s t v told done left w why a r in
    (sym c.versions ∙ ap (λ (z : Applied). z.progress.committed) e, sym c.refused ∙ ap (λ (z : Applied). z.refused) e)
