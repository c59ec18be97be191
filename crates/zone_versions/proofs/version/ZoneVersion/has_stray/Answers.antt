use Rattle.std.proofs.Common.{sym, ◌∙◌}
use Rattle.zone_versions.specs.Strays.{is_stray_at}
use Rattle.zone_versions.proofs.Sound.{closed_sound}
use Rattle.zone_versions.proofs.Stops.{any_told}
use Rattle.zone_versions.proofs.version.ZoneVersion.has_stray.Goals as goal

pub returns-clause-is : goal.returns-clause-is
returns-clause-is c =
    let v = c.args.self.now in
    c.any_stray.ensures ∙ any_told (is_stray_at v) c.sets.result v.sets c.sets.ensures.is

-- What loses nothing may be published as it is.
pub returns-clause-none : goal.returns-clause-none
returns-clause-none c none =
    let v = c.args.self.now in
    closed_sound v c.sets.ensures.sound (sym (any_told (is_stray_at v) c.sets.result v.sets c.sets.ensures.is) ∙ sym c.any_stray.ensures ∙ none)
