use Rattle.zone_records.proofs.TypesIn.{no_glue_is}
use Rattle.zone_records.proofs.owners.Owners.first_non_glue.Goals as goal

pub returns : goal.returns
returns g c =
    no_glue_is c.args.self.now (g.N.Labelled.labels c.args.name.now) c.first_type.result c.past-no_a.result c.past.result c.first_type.ensures c.past-no_a.ensures c.past.ensures
