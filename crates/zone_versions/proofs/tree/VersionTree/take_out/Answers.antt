use Rattle.std.proofs.Common.{◌∙◌}
use Rattle.dns_rdata.specs.ZoneData.{rtype_of, data_fields}
use Rattle.zone_versions.specs.DataEdits.{thinned_set}
use Rattle.zone_versions.proofs.Named.{on_ok}
use Rattle.zone_versions.proofs.Told.{edit_by_key, counted_by_key}
use Rattle.zone_versions.proofs.tree.VersionTree.take_out.Goals as goal

pub returns-clause-ok : goal.returns-clause-ok
returns-clause-ok g c =
    on_ok c.take_out_at.result
    (λ e. e ∙ edit_by_key (g.N.Labelled.labels c.args.owner.now) c.put_labels-key.result c.put_labels-key.ensures.value c.args.self.now (rtype_of c.args.item.now) (thinned_set c.args.ttl (data_fields c.args.item.now)))
    c.take_out_at.ensures.ok

pub returns-clause-steps : goal.returns-clause-steps
returns-clause-steps g c =
    on_ok c.take_out_at.result
    (λ e. e ∙ counted_by_key (g.N.Labelled.labels c.args.owner.now) c.put_labels-key.result c.put_labels-key.ensures.value c.args.self.now c.take_out_at.new.self (rtype_of c.args.item.now) c.args.steps.now)
    c.take_out_at.ensures.steps
