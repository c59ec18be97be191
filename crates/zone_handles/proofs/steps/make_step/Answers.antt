use Rattle.std.proofs.Common.{◌≡◌, ap, refl, subst, sym, Err}
use Rattle.std.specs.Prelude.{OnOk, IfErr}
use Rattle.std.proofs.lemmas.Result.{on_ok_weaker, on_err_weaker}
use Rattle.zone_values.specs.declared.edit_errors.CommitError.TheVariants.{VersionsExhausted}
use Rattle.zone_reads.specs.Session.{Session}
use Rattle.zone_handles.specs.Steps.{Leads, Refuses, Exhausts, events_of, wish_after}
use Rattle.zone_handles.proofs.Moves.{edit_leads, open_leads, rollback_leads, end_leads, still_stands}
use Rattle.zone_handles.proofs.Told.{but_handle, edit_cause, commit_cause, copy_cause}
use Rattle.zone_handles.proofs.steps.make_step.Goals as goal

pub returns-in-Edit-clause-made : goal.returns-in-Edit-clause-made
returns-in-Edit-clause-made g c =
    let s = c.args.session in
    let t = c.make_edit-told.new.session in
    let all = c.args.handles.now.items in
    subst (λ x. OnOk c.make_edit-told.result (Leads (events_of x) s all t all)) (sym c.in-Edit.is) (on_ok_weaker c.make_edit-told.result (λ e. edit_leads c.in-Edit.edit s t all e) c.make_edit-told.ensures.ok)

pub returns-in-Edit-clause-refused : goal.returns-in-Edit-clause-refused
returns-in-Edit-clause-refused g c =
    let s = c.args.session in
    let all = c.args.handles.now.items in
    on_err_weaker c.make_edit-told.result (λ e. still_stands s c.make_edit-told.new.session all all s.has_handle e refl) c.make_edit-told.ensures.err

pub returns-in-Edit-clause-session_stays : goal.returns-in-Edit-clause-session_stays
returns-in-Edit-clause-session_stays g c = on_err_weaker c.make_edit-told.result (λ e. but_handle c.args.session c.make_edit-told.new.session e) c.make_edit-told.ensures.err

pub returns-in-Edit-clause-wish : goal.returns-in-Edit-clause-wish
returns-in-Edit-clause-wish g c =
    let s = c.args.session in
    subst (λ x. OnOk c.make_edit-told.result (c.make_edit-told.new.session.compares ≡ wish_after x s.compares)) (sym c.in-Edit.is) (on_ok_weaker c.make_edit-told.result (λ e. ap (λ (u : Session). u.compares) e) c.make_edit-told.ensures.ok)

pub returns-in-Edit-clause-cause : goal.returns-in-Edit-clause-cause
returns-in-Edit-clause-cause g c =
    let s = c.args.session in
    let all = c.args.handles.now.items in
    subst (λ x. IfErr c.make_edit-told.result (λ e. Refuses x s all e)) (sym c.in-Edit.is) (edit_cause c.in-Edit.edit s all c.make_edit-told.result c.make_edit-told.ensures.memory c.make_edit-told.ensures.cause)

pub returns-in-Open-clause-made : goal.returns-in-Open-clause-made
returns-in-Open-clause-made g c =
    let s = c.args.session in
    let t = c.open.new.session in
    let all = c.args.handles.now.items in
    subst (λ x. Leads (events_of x) s all t all) (sym c.in-Open.is) (open_leads c.in-Open.create_diff s t all c.open.ensures)

pub returns-in-Commit-clause-made : goal.returns-in-Commit-clause-made
returns-in-Commit-clause-made g c =
    let all = c.args.handles.now.items in
    on_ok_weaker c.commit-told.result (λ f. subst (λ s. Leads (events_of s) c.args.session all c.commit-told.new.session all) (sym c.in-Commit.is) (f all)) c.commit-told.ensures.made

pub returns-in-Commit-clause-refused : goal.returns-in-Commit-clause-refused
returns-in-Commit-clause-refused g c =
    let s = c.args.session in
    let all = c.args.handles.now.items in
    on_err_weaker c.commit-told.result (λ e. still_stands s c.commit-told.new.session all all s.has_handle e refl) c.commit-told.ensures.err

pub returns-in-Commit-clause-session_stays : goal.returns-in-Commit-clause-session_stays
returns-in-Commit-clause-session_stays g c = on_err_weaker c.commit-told.result (λ e. but_handle c.args.session c.commit-told.new.session e) c.commit-told.ensures.err

pub returns-in-Commit-clause-cause : goal.returns-in-Commit-clause-cause
returns-in-Commit-clause-cause g c =
    let s = c.args.session in
    let all = c.args.handles.now.items in
    subst (λ x. IfErr c.commit-told.result (λ e. Refuses x s all e)) (sym c.in-Commit.is) (commit_cause c.in-Commit.bumps s all c.commit-told.result c.commit-told.ensures.exhausted)

pub returns-in-Commit-clause-exhausted : goal.returns-in-Commit-clause-exhausted
returns-in-Commit-clause-exhausted g c =
    subst (λ x. Exhausts x c.args.session → c.commit-told.result ≡ Err VersionsExhausted) (sym c.in-Commit.is) (λ last. c.commit-told.ensures.exhausted.1 last)

pub returns-in-Rollback-clause-made : goal.returns-in-Rollback-clause-made
returns-in-Rollback-clause-made g c =
    let s = c.args.session in
    let t = c.rollback.new.self in
    let all = c.args.handles.now.items in
    subst (λ x. Leads (events_of x) s all t all) (sym c.in-Rollback.is) (rollback_leads s t all (ap (λ (u : Session). u.past) c.rollback.ensures) (ap (λ (u : Session). u.current) c.rollback.ensures) (ap (λ (u : Session). u.pending) c.rollback.ensures))

pub returns-in-EndSession-clause-made : goal.returns-in-EndSession-clause-made
returns-in-EndSession-clause-made g c =
    let s = c.args.session in
    let t = c.begin_again.result in
    let all = c.args.handles.now.items in
    subst (λ x. Leads (events_of x) s all t all) (sym c.in-EndSession.is) (end_leads s t all c.begin_again.ensures)

pub returns-in-Read-clause-refused : goal.returns-in-Read-clause-refused
returns-in-Read-clause-refused g c =
    let s = c.args.session in
    let t = c.read-told.new.session in
    on_err_weaker c.read-told.result (λ same. still_stands s t c.args.handles.now.items c.read-told.new.handles.items t.has_handle c.read-told.ensures.session_stays same) c.read-told.ensures.handles_stay

pub returns-in-Copy-clause-made : goal.returns-in-Copy-clause-made
returns-in-Copy-clause-made g c =
    let s = c.args.session in
    on_ok_weaker c.copy-told.result (λ f. subst (λ x. Leads (events_of x) s c.args.handles.now.items s c.copy-told.new.handles.items) (sym c.in-Copy.is) (f s)) c.copy-told.ensures.made

pub returns-in-Copy-clause-refused : goal.returns-in-Copy-clause-refused
returns-in-Copy-clause-refused g c =
    let s = c.args.session in
    on_err_weaker c.copy-told.result (λ same. still_stands s s c.args.handles.now.items c.copy-told.new.handles.items s.has_handle refl same) c.copy-told.ensures.handles_stay

pub returns-in-Copy-clause-cause : goal.returns-in-Copy-clause-cause
returns-in-Copy-clause-cause g c =
    let s = c.args.session in
    let all = c.args.handles.now.items in
    subst (λ x. IfErr c.copy-told.result (λ e. Refuses x s all e)) (sym c.in-Copy.is) (copy_cause c.in-Copy.handle s all c.copy-told.result c.copy-told.ensures.memory c.copy-told.ensures.there)
