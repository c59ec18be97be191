use Rattle.std.proofs.Common.{◌∙◌}
use Rattle.dns_rdata.specs.ZoneData.{rtype_of, data_fields}
use Rattle.zone_values.specs.SetEdits.{opening_set}
use Rattle.zone_versions.proofs.Named.{on_ok}
use Rattle.zone_versions.proofs.Told.{edit_by_key, counted_by_key}
use Rattle.zone_versions.proofs.tree.VersionTree.open_with.Goals as goal

pub returns-clause-ok : goal.returns-clause-ok
returns-clause-ok g c =
    on_ok c.open_at.result
    (λ e. e ∙ edit_by_key (g.N.Labelled.labels c.args.owner.now) c.put_labels-key.result c.put_labels-key.ensures.value c.args.self.now (rtype_of c.args.item) (opening_set c.args.ttl (data_fields c.args.item)))
    c.open_at.ensures.ok

pub returns-clause-steps : goal.returns-clause-steps
returns-clause-steps g c =
    on_ok c.open_at.result
    (λ e. e ∙ counted_by_key (g.N.Labelled.labels c.args.owner.now) c.put_labels-key.result c.put_labels-key.ensures.value c.args.self.now c.open_at.new.self (rtype_of c.args.item) c.args.steps.now)
    c.open_at.ensures.steps
