use Rattle.std.proofs.Common.{ap, ◌∙◌}
use Rattle.dns_name.specs.Names.{fold}
use Rattle.zone_versions.specs.Held.{counted}
use Rattle.zone_versions.specs.Trees.{built}
use Rattle.zone_versions.proofs.Told.{built_folded}
use Rattle.zone_versions.proofs.Outcomes.{on_ok}
use Rattle.zone_sessions.proofs.write.WriteZone.add_record_counted.Goals as goal

-- The nodes are counted at the record's owner in lower case.
pub returns-clause-steps : goal.returns-clause-steps
returns-clause-steps c =
    let v = c.args.self.now.pending in
    let w = c.add_at-done.new.self.pending in
    on_ok c.add_at-done.result
    (λ e. e ∙ (λ i. counted c.args.steps.now (built v w (fold (c.into_parts-owner.ensures.owner i)) (c.into_parts-owner.ensures.rtype i)))
    ∙ ap (counted c.args.steps.now) (built_folded v w c.args.added.owner c.args.added.rtype))
    c.add_at-done.ensures.steps
