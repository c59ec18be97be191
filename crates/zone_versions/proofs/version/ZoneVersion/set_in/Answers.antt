use Rattle.std.proofs.Common.{ap, ◌∙◌, option_map}
use Rattle.zone_model.specs.Version.{set_at}
use Rattle.zone_values.specs.TypedEntries.{typed, typed_set_in}
use Rattle.zone_versions.proofs.version.ZoneVersion.set_in.Goals as goal

-- The key's owner is in lower case.
pub returns : goal.returns
returns c =
    c.get.ensures ∙ (λ i. option_map (typed (c.rtype.ensures i)) (set_at (c.self.view_is i) (c.owner.ensures i) (c.rtype.ensures i)))
    ∙ ap (λ n. typed_set_in c.args.self.now.sets (n, c.args.key.now.1)) c.tell_folded.ensures
