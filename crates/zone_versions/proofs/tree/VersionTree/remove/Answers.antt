use Rattle.std.proofs.Common.{◌≡◌, true, sym, ap, ◌∙◌, subst}
use Rattle.dns_name.specs.Names.{under}
use Rattle.zone_model.specs.Edits.{remove_set}
use Rattle.zone_versions.specs.Held.{counted}
use Rattle.zone_versions.specs.Trees.{built}
use Rattle.zone_versions.specs.Ways.{version_of}
use Rattle.zone_versions.proofs.Edited.{remove_result, remove_view, remove_built}
use Rattle.zone_versions.proofs.Named.{on_ok, on_both, counted_ok, counted_err}
use Rattle.zone_versions.proofs.tree.VersionTree.remove.Goals as goal

pub invariant_of-self : goal.invariant_of-self
invariant_of-self c = remove_result c.self.inside.apex c.self.inside.class c.self.inside.nodes c.self.invariant c.args.owner.now c.as_slice.ensures.folded c.args.rtype (subst (λ v. under c.args.owner.now v.apex ≡ true) (sym c.self.view_is) c.requires) c.put-apex.result c.put-apex.ensures.value c.remove_set-done.new.nodes c.remove_set-done.result c.remove_set-done.ensures.ok c.remove_set-done.ensures.err

pub returns-clause-ok : goal.returns-clause-ok
returns-clause-ok c =
    on_ok c.remove_set-done.result (λ e. remove_view c.self.inside.apex c.self.inside.class c.self.inside.nodes c.self.invariant c.args.owner.now c.as_slice.ensures.folded c.args.rtype (subst (λ v. under c.args.owner.now v.apex ≡ true) (sym c.self.view_is) c.requires) c.put-apex.result c.put-apex.ensures.value c.remove_set-done.new.nodes e ∙ ap (λ v. remove_set v c.args.owner.now c.args.rtype) c.self.view_is) c.remove_set-done.ensures.ok

pub returns-clause-steps : goal.returns-clause-steps
returns-clause-steps c =
    counted_ok c.remove_set-done.result c.is_ok.result c.keep_if.new.self c.remove_set-done.new.steps c.get-before.result _ c.is_ok.ensures.value c.keep_if.ensures
    (on_both c.remove_set-done.result
    (λ e h. h ∙ ap (counted c.args.steps.now) (sym (remove_built c.self.inside.apex c.self.inside.class c.self.inside.nodes c.self.invariant c.args.owner.now c.as_slice.ensures.folded c.args.rtype (subst (λ v. under c.args.owner.now v.apex ≡ true) (sym c.self.view_is) c.requires) c.put-apex.result c.put-apex.ensures.value c.remove_set-done.new.nodes e) ∙ ap (λ v. built v (version_of c.self.inside.apex c.self.inside.class c.remove_set-done.new.nodes) c.args.owner.now c.args.rtype) c.self.view_is))
    c.remove_set-done.ensures.ok c.remove_set-done.ensures.steps)

pub returns-clause-uncounted : goal.returns-clause-uncounted
returns-clause-uncounted c = counted_err c.remove_set-done.result c.is_ok.result c.keep_if.new.self c.remove_set-done.new.steps c.get-before.result c.args.steps.now c.is_ok.ensures.value c.keep_if.ensures c.get-before.ensures
