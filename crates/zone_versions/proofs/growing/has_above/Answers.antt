use Rattle.std.proofs.Common.{sym, ap, ◌∙◌}
use Rattle.zone_versions.specs.Ways.{put_node, add_above, lacking_above}
use Rattle.zone_versions.proofs.Upwards.{parent_add, parent_lacking}
use Rattle.zone_versions.proofs.growing.has_above.Goals as goal

pub returns-in-Some-clause-add : goal.returns-in-Some-clause-add
returns-in-Some-clause-add c = λ held h. parent_add c.args.nodes.now c.args.name.now c.in-Some.parent c.in-Some.ensures.0 held c.in-Some.ensures.1 (sym c.has_node.ensures ∙ h)

pub returns-in-Some-clause-lacking : goal.returns-in-Some-clause-lacking
returns-in-Some-clause-lacking c = λ held h. parent_lacking c.args.nodes.now c.args.name.now c.in-Some.parent c.in-Some.ensures.0 held c.in-Some.ensures.1 (sym c.has_node.ensures ∙ h)

pub returns-in-None-clause-add : goal.returns-in-None-clause-add
returns-in-None-clause-add c = λ held h. ap (add_above (put_node c.args.nodes.now c.args.name.now held)) c.in-None.ensures

pub returns-in-None-clause-lacking : goal.returns-in-None-clause-lacking
returns-in-None-clause-lacking c = λ held h. ap (lacking_above (put_node c.args.nodes.now c.args.name.now held)) c.in-None.ensures
