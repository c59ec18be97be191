use Rattle.std.proofs.Common.{ap, ◌∙◌}
use Rattle.zone_model.specs.Edits.{put_set}
use Rattle.zone_values.specs.TypedSets.{TypedSet}
use Rattle.zone_versions.proofs.Outcomes.{on_ok}
use Rattle.zone_versions.proofs.nodes.put_at.Goals as goal

pub with_set-requires-clause-own : goal.with_set-requires-clause-own
with_set-requires-clause-own c = ap (λ (s : TypedSet). s.rtype) c.in_ok-set.ensures ∙ c.requires.own

pub returns-clause-ok : goal.returns-clause-ok
returns-clause-ok c =
    on_ok c.with_set.result (λ e. e ∙ ap (λ (s : TypedSet). put_set c.args.tree.now c.args.owner.now c.args.rtype s.contents) c.in_ok-set.ensures) c.with_set.ensures.ok
