use Rattle.std.proofs.Common.{is_le}
use Rattle.dns_name.specs.Names.{canonical_cmp}
use Rattle.zone_versions.proofs.Walked.{first_told}
use Rattle.zone_versions.proofs.tree.VersionTree.first_from.Goals as goal

pub returns : goal.returns
returns g c =
    first_told (λ e. is_le (canonical_cmp (g.N.Labelled.labels c.args.owner.now) e.0.0)) c.args.self.now.sets c.sets_from.result c.next.result c.next.new.self c.sets_from.ensures c.next.ensures.steps
