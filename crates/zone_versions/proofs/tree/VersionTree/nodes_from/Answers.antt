use Rattle.std.proofs.Common.{filter, ap, ◌∙◌, is_le}
use Rattle.dns_name.specs.Names.{fold, canonical_cmp, spelling_cmp}
use Rattle.zone_model.specs.Version.{RecordSet, Key}
use Rattle.zone_model.proofs.Folded.{fold-fold}
use Rattle.zone_versions.proofs.tree.VersionTree.nodes_from.Goals as goal

pub returns-clause-sets : goal.returns-clause-sets
returns-clause-sets g c =
    c.entries_from.ensures.sets ∙ ap (λ n. filter (λ (e : Key × RecordSet). is_le (canonical_cmp n e.0.0)) c.args.self.now.sets) c.put_labels.ensures.value
    ∙ ap (λ m. filter (λ (e : Key × RecordSet). is_le (spelling_cmp m (fold e.0.0))) c.args.self.now.sets) (fold-fold (g.N.Labelled.labels c.args.owner.now))
