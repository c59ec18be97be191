use Rattle.std.proofs.Common.{◌∙◌, subst}
use Rattle.dns_rdata.specs.ZoneData.{rtype_of, data_fields}
use Rattle.zone_values.specs.SetEdits.{last_set}
use Rattle.zone_values.specs.PutCauses.{TellsPut}
use Rattle.zone_versions.proofs.Named.{on_ok}
use Rattle.zone_versions.proofs.Told.{set_by_key, edit_by_key, counted_by_key}
use Rattle.zone_versions.proofs.tree.VersionTree.append.Goals as goal

pub returns-clause-ok : goal.returns-clause-ok
returns-clause-ok g c =
    on_ok c.append_at.result
    (λ e. e ∙ edit_by_key (g.N.Labelled.labels c.args.owner.now) c.put_labels-key.result c.put_labels-key.ensures.value c.args.self.now (rtype_of c.args.item) (last_set c.args.ttl (data_fields c.args.item)))
    c.append_at.ensures.ok

pub returns-clause-cause : goal.returns-clause-cause
returns-clause-cause g c =
    subst (λ o. TellsPut (data_fields c.args.item) c.args.alone o c.append_at.result)
    (set_by_key (g.N.Labelled.labels c.args.owner.now) c.put_labels-key.result c.put_labels-key.ensures.value c.args.self.now (rtype_of c.args.item))
    c.append_at.ensures.cause

pub returns-clause-steps : goal.returns-clause-steps
returns-clause-steps g c =
    on_ok c.append_at.result
    (λ e. e ∙ counted_by_key (g.N.Labelled.labels c.args.owner.now) c.put_labels-key.result c.put_labels-key.ensures.value c.args.self.now c.append_at.new.self (rtype_of c.args.item) c.args.steps.now)
    c.append_at.ensures.steps
