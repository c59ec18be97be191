use Rattle.dns_name.specs.Names.{fold}
use Rattle.zone_versions.proofs.Walked.{is_after, first_told}
use Rattle.zone_versions.proofs.tree.VersionTree.first_after.Goals as goal

pub returns : goal.returns
returns g c =
    first_told (is_after (fold (g.N.Labelled.labels c.args.owner.now)) c.args.rtype) c.args.self.now.sets c.sets_after.result c.next.result c.next.new.self c.sets_after.ensures c.next.ensures.steps
