use Rattle.std.proofs.Common.{ap, ◌∙◌}
use Rattle.zone_model.specs.Version.{set_at}
use Rattle.zone_values.specs.PutCauses.{has_equal}
use Rattle.zone_versions.proofs.Adding.{found_at, lacks_at}
use Rattle.zone_versions.proofs.version.ZoneVersion.has_data.Goals as goal

-- The owner, the type and the data are the record's.
pub returns-in-Some : goal.returns-in-Some
returns-in-Some c =
    let v = c.args.self.now in
    c.contains.ensures ∙ (λ i. has_equal (c.data.ensures.fields i) (found_at c.rtype.result (set_at v c.owner.result.now c.rtype.result) c.in-Some.set.now c.in-Some.ensures i))
    ∙ (λ i. has_equal c.args.added.now.fields (set_at v (c.owner.ensures i) (c.rtype.ensures i)))

pub returns-in-None : goal.returns-in-None
returns-in-None c =
    let v = c.args.self.now in
    ap (has_equal c.args.added.now.fields) (lacks_at c.rtype.result (set_at v c.owner.result.now c.rtype.result) c.in-None.ensures ∙ (λ i. set_at v (c.owner.ensures i) (c.rtype.ensures i)))
