use Rattle.std.proofs.Common.{ap, subst, ◌∙◌, Option}
use Rattle.dns_name.specs.Names.{under}
use Rattle.dns_rdata.specs.ZoneData.{data_fields}
use Rattle.zone_model.specs.Version.{RecordSet, set_at}
use Rattle.zone_model.specs.Edits.{put_set}
use Rattle.zone_values.specs.PutCauses.{TellsPut}
use Rattle.zone_values.specs.SetEdits.{last_set}
use Rattle.zone_versions.specs.Held.{counted}
use Rattle.zone_versions.specs.Trees.{built}
use Rattle.zone_versions.proofs.Adding.{last_put, set_there}
use Rattle.zone_versions.proofs.Outcomes.{on_ok}
use Rattle.zone_versions.proofs.version.put_last.Goals as goal

pub append-requires : goal.append-requires
append-requires c = ap (λ n. under n c.args.tree.now.apex) c.owner.ensures ∙ c.requires.zone

-- The data are of the key's type, and its owner is in lower case.
pub returns-clause-ok : goal.returns-clause-ok
returns-clause-ok c =
    let v = c.args.tree.now in
    on_ok c.append.result
    (λ e. e ∙ (λ i. put_set v (c.owner.ensures i) (c.requires.item i) (last_set c.args.ttl (data_fields c.args.item) (set_at v (c.owner.ensures i) (c.requires.item i))))
    ∙ last_put v c.args.key.now c.args.ttl (data_fields c.args.item) c.tell_folded.ensures)
    c.append.ensures.ok

pub returns-clause-cause : goal.returns-clause-cause
returns-clause-cause c =
    let v = c.args.tree.now in
    subst (λ (o : Option RecordSet). TellsPut (data_fields c.args.item) c.args.alone o c.append.result)
    ((λ i. set_at v (c.owner.ensures i) (c.requires.item i)) ∙ set_there v c.args.key.now c.tell_folded.ensures) c.append.ensures.cause

pub returns-clause-steps : goal.returns-clause-steps
returns-clause-steps c =
    on_ok c.append.result
    (λ e. e ∙ (λ i. counted c.args.steps.now (built c.args.tree.now c.append.new.self (c.owner.ensures i) (c.requires.item i))))
    c.append.ensures.steps
