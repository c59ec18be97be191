use Rattle.std.proofs.Common.{sym, ap, ◌∙◌, subst}
use Rattle.dns_name.specs.Names.{same_name}
use Rattle.zone_model.specs.Version.{Version}
use Rattle.zone_versions.specs.Sound.{IsSound}
use Rattle.zone_versions.proofs.Reopened.{reopened_sound}
use Rattle.zone_versions.proofs.version.ZoneVersion.reopened.Goals as goal

-- What is kept speaks of the apex by its name in lower case.
pub invariant_of-result : goal.invariant_of-result
invariant_of-result c =
    let before = c.self.inside.tree in
    subst (λ (v : Version). IsSound v) (sym c.in_ok-reopened.ensures)
    (reopened_sound c.args.apex c.args.class before (ap (λ (v : Version). same_name c.args.apex v.apex) c.self.view_is ∙ c.requires) c.self.invariant)
