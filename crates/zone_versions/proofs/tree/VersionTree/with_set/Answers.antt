use Rattle.std.proofs.Common.{Some, None, sym, ap, ◌∙◌, option_map}
use Rattle.zone_versions.specs.Held.{counted}
use Rattle.zone_versions.specs.Trees.{with_set, built}
use Rattle.std.proofs.Common.{Option}
use Rattle.zone_values.specs.TypedSets.{TypedSet}
use Rattle.zone_versions.proofs.Told.{with_folded, built_folded}
use Rattle.zone_versions.proofs.Named.{on_ok}
use Rattle.zone_versions.proofs.tree.VersionTree.with_set.Goals as goal

pub returns-in-Some-clause-ok : goal.returns-in-Some-clause-ok
returns-in-Some-clause-ok g c =
    on_ok c.put.result
    (λ e. e ∙ ap (λ n. with_set c.args.self.now n c.args.rtype (Some c.in-Some.set.contents)) c.put_labels-name.ensures.value ∙ with_folded c.args.self.now (g.N.Labelled.labels c.args.owner.now) c.args.rtype (Some c.in-Some.set.contents)
    ∙ ap (λ (s : Option TypedSet). with_set c.args.self.now (g.N.Labelled.labels c.args.owner.now) c.args.rtype (option_map (λ (t : TypedSet). t.contents) s)) (sym c.in-Some.is))
    c.put.ensures.ok

pub returns-in-Some-clause-steps : goal.returns-in-Some-clause-steps
returns-in-Some-clause-steps g c =
    on_ok c.put.result
    (λ e. e ∙ ap (counted c.args.steps.now) (ap (λ n. built c.args.self.now c.put.new.self n c.args.rtype) c.put_labels-name.ensures.value ∙ built_folded c.args.self.now c.put.new.self (g.N.Labelled.labels c.args.owner.now) c.args.rtype))
    c.put.ensures.steps

pub returns-in-None-clause-ok : goal.returns-in-None-clause-ok
returns-in-None-clause-ok g c =
    on_ok c.remove.result
    (λ e. e ∙ ap (λ n. with_set c.args.self.now n c.args.rtype None) c.put_labels-name.ensures.value ∙ with_folded c.args.self.now (g.N.Labelled.labels c.args.owner.now) c.args.rtype None
    ∙ ap (λ (s : Option TypedSet). with_set c.args.self.now (g.N.Labelled.labels c.args.owner.now) c.args.rtype (option_map (λ (t : TypedSet). t.contents) s)) (sym c.in-None.is))
    c.remove.ensures.ok

pub returns-in-None-clause-steps : goal.returns-in-None-clause-steps
returns-in-None-clause-steps g c =
    on_ok c.remove.result
    (λ e. e ∙ ap (counted c.args.steps.now) (ap (λ n. built c.args.self.now c.remove.new.self n c.args.rtype) c.put_labels-name.ensures.value ∙ built_folded c.args.self.now c.remove.new.self (g.N.Labelled.labels c.args.owner.now) c.args.rtype))
    c.remove.ensures.steps
