use Rattle.std.proofs.Common.{sym, ap, ◌∙◌, refl}
use Rattle.zone_versions.specs.Held.{counted}
use Rattle.zone_versions.proofs.Named.{counted_ok, counted_err, on_ok}
use Rattle.zone_versions.proofs.tree.VersionTree.edit_own.Goals as goal

pub returns-clause-steps : goal.returns-clause-steps
returns-clause-steps g c =
    counted_ok c.edit_set-done.result c.is_ok.result c.keep_if.new.self c.args.steps.now c.args.before _ c.is_ok.ensures.value c.keep_if.ensures
    (on_ok c.edit_set-done.result (λ e. c.requires.one ∙ ap (counted c.args.before) (sym e)) c.edit_set-done.ensures.one)

pub returns-clause-uncounted : goal.returns-clause-uncounted
returns-clause-uncounted g c = counted_err c.edit_set-done.result c.is_ok.result c.keep_if.new.self c.args.steps.now c.args.before c.args.before c.is_ok.ensures.value c.keep_if.ensures refl
