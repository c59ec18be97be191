use Rattle.std.proofs.Common.{Some, None, ap, ◌∙◌}
use Rattle.dns_name.specs.Names.{fold}
use Rattle.zone_versions.proofs.Stops.{behind_shown}
use Rattle.zone_versions.proofs.version.ZoneVersion.next_stop.Goals as goal

-- The set after the key is the first stop after it.
pub returns-in-Some : goal.returns-in-Some
returns-in-Some g c = ap Some c.stop.ensures ∙ behind_shown c.args.self.now (fold (g.N.Labelled.labels c.args.owner.now), c.args.rtype) (Some c.in-Some.found) c.in-Some.ensures

pub returns-in-None : goal.returns-in-None
returns-in-None g c = behind_shown c.args.self.now (fold (g.N.Labelled.labels c.args.owner.now), c.args.rtype) None c.in-None.ensures
