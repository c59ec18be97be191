use Rattle.std.proofs.Common.{ap, ◌∙◌, option_map}
use Rattle.zone_model.specs.Version.{set_at, set_in}
use Rattle.zone_model.proofs.Folded.{fold-fold}
use Rattle.zone_values.specs.TypedEntries.{typed}
use Rattle.zone_versions.proofs.tree.VersionTree.get.Goals as goal

pub returns : goal.returns
returns g c =
    c.set_at.ensures ∙ ap (λ n. option_map (typed c.args.rtype) (set_at c.args.self.now n c.args.rtype)) c.put_labels.ensures.value
    ∙ ap (λ n. option_map (typed c.args.rtype) (set_in c.args.self.now.sets (n, c.args.rtype))) (fold-fold (g.N.Labelled.labels c.args.owner.now))
