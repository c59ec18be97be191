use Rattle.xfr_replies.proofs.Placing.{whole_at_soa, whole_without_soa}
use Rattle.xfr_replies.proofs.steps.whole_place.Goals as goal

pub returns-in-Some : goal.returns-in-Some
returns-in-Some c ds = whole_at_soa c.args.zone.now.version ds c.in-Some.place c.in-Some.ensures

pub returns-in-None : goal.returns-in-None
returns-in-None c ds = whole_without_soa c.args.zone.now.version ds c.zone_place.result c.in-None.ensures (c.zone_place.ensures c.args.zone.now.version.sets c.first_stop.ensures ds)
