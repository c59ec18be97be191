use Rattle.std.proofs.Common.{◌∷◌, ◌++◌, [], sym, ap, ◌∙◌}
use Rattle.std.proofs.lemmas.Result.{err_from_is_err_and}
use Rattle.xfr_outcomes.specs.ZoneUpdates.{update_of}
use Rattle.xfr_client.proofs.Steps.{one_error, one_told, one_untold, wish_told, wish_untold}
use Rattle.xfr_client.proofs.Growing.{grows_one, grows_still}
use Rattle.xfr_client.proofs.exchange.apply_one.Goals as goal

pub returns-in_err-told-clause-takes : goal.returns-in_err-told-clause-takes
returns-in_err-told-clause-takes met c base before g a =
    let p = err_from_is_err_and c.from_residual.result c.from_residual.ensures.1 in
    rw (p.1, p.2) (one_error base before c.args.updater.now c.apply.new.self c.args.session.now c.apply.new.session c.args.made.now.items c.reserve.new.self.items g (update_of c.args.update) c.in_err-told.field-0.0
    a (ap (λ x. x.current) c.in_err-told.ensures.err) c.reserve.ensures.items (c.in_err-told.ensures.refused g.committed) (c.in_err-told.ensures.exhausted g.committed))

pub returns-in-Ok-push-clause-takes : goal.returns-in-Ok-push-clause-takes
returns-in-Ok-push-clause-takes met c base before g a =
    one_told base before c.args.updater.now c.apply.new.self c.args.session.now c.apply.new.session c.handle.new.self c.args.made.now.items c.push.new.self.items g (update_of c.args.update)
    a (sym c.commits-commits.ensures ∙ c.if-commits.true) (ap (λ x. x.current) c.handle.ensures.same) (ap (λ x. x.pending) c.handle.ensures.same)
    c.in_ok-told.ensures.current c.in_ok-told.ensures.numbered
    (c.in-Ok-push.ensures.items ∙ ap (λ l. l ++ c.in-Ok.handle ∷ []) c.reserve.ensures.items ∙ ap (λ h. c.args.made.now.items ++ h ∷ []) c.in-Ok.ensures.current)
    (c.in_ok-told.ensures.ok g.committed)

pub returns-else-commits-clause-takes : goal.returns-else-commits-clause-takes
returns-else-commits-clause-takes met c base before g a =
    one_untold base before c.args.updater.now c.apply.new.self c.args.session.now c.apply.new.session c.args.made.now.items c.reserve.new.self.items g (update_of c.args.update)
    a (sym c.commits-commits.ensures ∙ c.if-commits.false) c.in_ok-told.ensures.current c.reserve.ensures.items (c.in_ok-told.ensures.ok g.committed)

pub returns-in-Ok-push-clause-keeps : goal.returns-in-Ok-push-clause-keeps
returns-in-Ok-push-clause-keeps met c =
    wish_told c.args.session.now c.apply.new.session c.handle.new.self (update_of c.args.update) (sym c.commits-commits.ensures ∙ c.if-commits.true) c.in_ok-told.ensures.current
    (ap (λ x. x.current) c.handle.ensures.same)

pub returns-else-commits-clause-keeps : goal.returns-else-commits-clause-keeps
returns-else-commits-clause-keeps met c = wish_untold c.args.session.now c.apply.new.session (update_of c.args.update) (sym c.commits-commits.ensures ∙ c.if-commits.false) c.in_ok-told.ensures.kept

pub returns-in_err-told-clause-history : goal.returns-in_err-told-clause-history
returns-in_err-told-clause-history met c = grows_still c.args.session.now c.apply.new.session c.args.made.now.items c.reserve.new.self.items (ap (λ x. x.past) c.in_err-told.ensures.err) c.reserve.ensures.items

pub returns-in-Ok-push-clause-history : goal.returns-in-Ok-push-clause-history
returns-in-Ok-push-clause-history met c =
    grows_one c.args.session.now.past c.handle.new.self.past c.args.made.now.items c.push.new.self.items c.apply.new.session.current
    (ap (λ x. x.past) c.handle.ensures.same ∙ c.in_ok-told.ensures.history (sym c.commits-commits.ensures ∙ c.if-commits.true))
    (c.in-Ok-push.ensures.items ∙ ap (λ l. l ++ c.in-Ok.handle ∷ []) c.reserve.ensures.items ∙ ap (λ h. c.args.made.now.items ++ h ∷ []) c.in-Ok.ensures.current)

pub returns-else-commits-clause-history : goal.returns-else-commits-clause-history
returns-else-commits-clause-history met c =
    grows_still c.args.session.now c.apply.new.session c.args.made.now.items c.reserve.new.self.items
    (ap (λ x. x.past) (c.in_ok-told.ensures.kept (sym c.commits-commits.ensures ∙ c.if-commits.false))) c.reserve.ensures.items
