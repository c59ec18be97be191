use Rattle.std.proofs.Common.{◌≡◌, true, Some, is_some, sym, ap, ◌∙◌, subst}
use Rattle.dns_name.specs.Names.{under}
use Rattle.zone_versions.specs.Held.{counted}
use Rattle.zone_versions.specs.Trees.{with_set, node_of, built}
use Rattle.zone_versions.specs.Ways.{version_of}
use Rattle.zone_versions.proofs.Edited.{put_result, put_view, put_built}
use Rattle.zone_versions.proofs.Named.{on_ok, on_both, counted_ok, counted_err}
use Rattle.zone_versions.proofs.Told.{no_node}
use Rattle.zone_versions.proofs.tree.VersionTree.put_in_new.Goals as goal

pub put_in_new-done-requires-clause-new : goal.put_in_new-done-requires-clause-new
put_in_new-done-requires-clause-new c =
    no_node (version_of c.self.inside.apex c.self.inside.class c.self.inside.nodes) c.self.inside.nodes c.args.owner.now c.self.invariant
    (ap (λ v. is_some (node_of v c.args.owner.now)) c.self.view_is ∙ c.requires.new)

pub invariant_of-self : goal.invariant_of-self
invariant_of-self c = put_result c.self.inside.apex c.self.inside.class c.self.inside.nodes c.self.invariant c.args.owner.now c.as_slice.ensures.folded c.args.rtype (subst (λ v. under c.args.owner.now v.apex ≡ true) (sym c.self.view_is) c.requires.zone) c.args.set.contents c.requires.full c.put_in_new-done.new.nodes c.put_in_new-done.result c.put_in_new-done.ensures.ok c.put_in_new-done.ensures.err

pub returns-clause-ok : goal.returns-clause-ok
returns-clause-ok c =
    on_ok c.put_in_new-done.result (λ e. put_view c.self.inside.apex c.self.inside.class c.self.inside.nodes c.self.invariant c.args.owner.now c.as_slice.ensures.folded c.args.rtype (subst (λ v. under c.args.owner.now v.apex ≡ true) (sym c.self.view_is) c.requires.zone) c.args.set.contents c.requires.full c.put_in_new-done.new.nodes e ∙ ap (λ v. with_set v c.args.owner.now c.args.rtype (Some c.args.set.contents)) c.self.view_is) c.put_in_new-done.ensures.ok

pub returns-clause-steps : goal.returns-clause-steps
returns-clause-steps c =
    counted_ok c.put_in_new-done.result c.is_ok.result c.keep_if.new.self c.put_in_new-done.new.steps c.get-before.result _ c.is_ok.ensures.value c.keep_if.ensures
    (on_both c.put_in_new-done.result
    (λ e h. h ∙ ap (counted c.args.steps.now) (sym (put_built c.self.inside.apex c.self.inside.class c.self.inside.nodes c.self.invariant c.args.owner.now c.as_slice.ensures.folded c.args.rtype (subst (λ v. under c.args.owner.now v.apex ≡ true) (sym c.self.view_is) c.requires.zone) c.args.set.contents c.requires.full c.put_in_new-done.new.nodes e) ∙ ap (λ v. built v (version_of c.self.inside.apex c.self.inside.class c.put_in_new-done.new.nodes) c.args.owner.now c.args.rtype) c.self.view_is))
    c.put_in_new-done.ensures.ok c.put_in_new-done.ensures.steps)

pub returns-clause-uncounted : goal.returns-clause-uncounted
returns-clause-uncounted c = counted_err c.put_in_new-done.result c.is_ok.result c.keep_if.new.self c.put_in_new-done.new.steps c.get-before.result c.args.steps.now c.is_ok.ensures.value c.keep_if.ensures c.get-before.ensures
