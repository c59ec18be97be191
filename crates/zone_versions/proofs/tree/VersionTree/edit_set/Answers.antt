use Rattle.std.proofs.Common.{◌≡◌, ◌≤◌, length, true, is_some, Some, sym, ap, ◌∙◌, subst}
use Rattle.dns_name.specs.Names.{under}
use Rattle.zone_model.specs.Version.{set_at}
use Rattle.zone_versions.specs.Trees.{with_set, built, type_in, node_at}
use Rattle.zone_versions.specs.Ways.{version_of}
use Rattle.zone_versions.proofs.Edited.{put_result, put_view, put_built}
use Rattle.zone_versions.proofs.Named.{on_ok}
use Rattle.zone_versions.proofs.Told.{set_told}
use Rattle.zone_versions.proofs.Written.{one_counted}
use Rattle.zone_versions.proofs.tree.VersionTree.edit_set.Goals as goal

pub edit_set-requires-clause-there : goal.edit_set-requires-clause-there
edit_set-requires-clause-there g c =
    ap is_some (set_told (version_of c.self.inside.apex c.self.inside.class c.self.inside.nodes) c.self.inside.nodes c.args.owner.now c.args.rtype c.self.invariant ∙ ap (λ v. set_at v c.args.owner.now c.args.rtype) c.self.view_is)
    ∙ c.requires.there

pub edit_set-requires-clause-full : goal.edit_set-requires-clause-full
edit_set-requires-clause-full g c =
    subst (λ o. 1 ≤ length (g.E.SetEdit.edited c.args.edit o).items)
    (sym (set_told (version_of c.self.inside.apex c.self.inside.class c.self.inside.nodes) c.self.inside.nodes c.args.owner.now c.args.rtype c.self.invariant ∙ ap (λ v. set_at v c.args.owner.now c.args.rtype) c.self.view_is))
    c.requires.full

pub invariant_of-self : goal.invariant_of-self
invariant_of-self g c =
    put_result c.self.inside.apex c.self.inside.class c.self.inside.nodes c.self.invariant c.args.owner.now c.as_slice.ensures.folded c.args.rtype (subst (λ v. under c.args.owner.now v.apex ≡ true) (sym c.self.view_is) c.requires.zone)
    (g.E.SetEdit.edited c.args.edit (type_in (node_at c.self.inside.nodes c.args.owner.now) c.args.rtype))
    (subst (λ o. 1 ≤ length (g.E.SetEdit.edited c.args.edit o).items)
    (sym (set_told (version_of c.self.inside.apex c.self.inside.class c.self.inside.nodes) c.self.inside.nodes c.args.owner.now c.args.rtype c.self.invariant ∙ ap (λ v. set_at v c.args.owner.now c.args.rtype) c.self.view_is))
    c.requires.full) c.edit_set.new.nodes c.edit_set.result c.edit_set.ensures.ok c.edit_set.ensures.err

pub returns-clause-ok : goal.returns-clause-ok
returns-clause-ok g c =
    let told =
    set_told (version_of c.self.inside.apex c.self.inside.class c.self.inside.nodes) c.self.inside.nodes c.args.owner.now c.args.rtype c.self.invariant ∙ ap (λ v. set_at v c.args.owner.now c.args.rtype) c.self.view_is in
    on_ok c.edit_set.result
    (λ e.
    put_view c.self.inside.apex c.self.inside.class c.self.inside.nodes c.self.invariant c.args.owner.now c.as_slice.ensures.folded c.args.rtype (subst (λ v. under c.args.owner.now v.apex ≡ true) (sym c.self.view_is) c.requires.zone)
    (g.E.SetEdit.edited c.args.edit (type_in (node_at c.self.inside.nodes c.args.owner.now) c.args.rtype))
    (subst (λ o. 1 ≤ length (g.E.SetEdit.edited c.args.edit o).items) (sym told) c.requires.full) c.edit_set.new.nodes e
    ∙ (λ i. with_set (c.self.view_is i) c.args.owner.now c.args.rtype (Some (g.E.SetEdit.edited c.args.edit (told i)))))
    c.edit_set.ensures.ok

pub returns-clause-one : goal.returns-clause-one
returns-clause-one g c =
    let told =
    set_told (version_of c.self.inside.apex c.self.inside.class c.self.inside.nodes) c.self.inside.nodes c.args.owner.now c.args.rtype c.self.invariant ∙ ap (λ v. set_at v c.args.owner.now c.args.rtype) c.self.view_is in
    on_ok c.edit_set.result
    (λ e.
    ap (λ v. built v (version_of c.self.inside.apex c.self.inside.class c.edit_set.new.nodes) c.args.owner.now c.args.rtype) (sym c.self.view_is)
    ∙ put_built c.self.inside.apex c.self.inside.class c.self.inside.nodes c.self.invariant c.args.owner.now c.as_slice.ensures.folded c.args.rtype (subst (λ v. under c.args.owner.now v.apex ≡ true) (sym c.self.view_is) c.requires.zone)
    (g.E.SetEdit.edited c.args.edit (type_in (node_at c.self.inside.nodes c.args.owner.now) c.args.rtype))
    (subst (λ o. 1 ≤ length (g.E.SetEdit.edited c.args.edit o).items) (sym told) c.requires.full) c.edit_set.new.nodes e
    ∙ one_counted c.self.inside.nodes c.args.owner.now c.args.rtype (g.E.SetEdit.edited c.args.edit (type_in (node_at c.self.inside.nodes c.args.owner.now) c.args.rtype))
    (node_at c.self.inside.nodes c.args.owner.now) (ap is_some told ∙ c.requires.there))
    c.edit_set.ensures.ok
