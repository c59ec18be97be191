use Rattle.std.proofs.Common.{sym, subst}
use Rattle.zone_model.specs.Version.{Version, IsValid}
use Rattle.zone_versions.specs.Sound.{IsSound}
use Rattle.zone_versions.proofs.Sound.{empty_sound, empty_valid}
use Rattle.zone_versions.proofs.version.ZoneVersion.empty.Goals as goal

-- A version without sets is sound.
pub invariant_of-result : goal.invariant_of-result
invariant_of-result c = subst (λ (v : Version). IsSound v) (sym c.in_ok-new.ensures.is) (empty_sound c.args.apex.now c.args.class)

pub returns-clause-valid : goal.returns-clause-valid
returns-clause-valid c = subst (λ (v : Version). IsValid v) (sym c.in_ok-new.ensures.is) (empty_valid c.args.apex.now c.args.class)
