use Rattle.std.proofs.Common.{filter, ap, ◌∙◌, is_le}
use Rattle.dns_name.specs.Names.{canonical_cmp}
use Rattle.zone_model.specs.Version.{RecordSet, Key, Version}
use Rattle.zone_versions.specs.Trees.{sets_of}
use Rattle.zone_versions.proofs.Flat.{sets_filtered}
use Rattle.zone_versions.proofs.tree.VersionTree.entries_from.Goals as goal

pub returns-clause-sets : goal.returns-clause-sets
returns-clause-sets c =
    ap sets_of c.entries_from.ensures.is ∙ sets_filtered (λ n. is_le (canonical_cmp c.args.name.now n)) c.self.inside.nodes
    ∙ ap (λ (v : Version). filter (λ (e : Key × RecordSet). is_le (canonical_cmp c.args.name.now e.0.0)) v.sets) c.self.view_is
