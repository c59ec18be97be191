use Rattle.std.proofs.Common.{◌≡◌, ◌∙◌}
use Rattle.zone_model.specs.Version.{set_at}
use Rattle.zone_model.specs.Edits.{put_set}
use Rattle.zone_values.specs.SetEdits.{opening_set}
use Rattle.zone_versions.proofs.Outcomes.{on_ok}
use Rattle.zone_versions.proofs.version.put_opening.Goals as goal

-- Owner, type, TTL and data are the record's.
pub returns-clause-ok : goal.returns-clause-ok
returns-clause-ok c =
    let v = c.args.tree.now in
    let parts = c.into_parts-owner.ensures in
    on_ok c.open_with.result
    (λ e. e ∙ (λ i. put_set v (parts.owner i) (parts.rtype i) (opening_set (parts.ttl i) (parts.fields i) (set_at v (parts.owner i) (parts.rtype i)))))
    c.open_with.ensures.ok
