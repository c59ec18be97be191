use Rattle.std.proofs.Common.{ap, ◌∙◌}
use Rattle.zone_model.specs.Edits.{is_bad_alias}
use Rattle.zone_values.specs.TypedSets.{TypedSet}
use Rattle.zone_versions.proofs.NodeEdits.{alias_first}
use Rattle.zone_versions.proofs.building.replace_set.Goals as goal

-- The first of equal data are as good an alias.
pub put_set-requires-clause-alias : goal.put_set-requires-clause-alias
put_set-requires-clause-alias c =
    let v = c.args.version.now in
    let n = c.args.owner.now in
    ap (λ (t : TypedSet). is_bad_alias v n t.rtype t.contents) c.in_ok-first.ensures.is ∙ alias_first v n c.args.set.now.rtype c.args.set.now.contents ∙ c.requires.alias
