use Rattle.std.proofs.Common.{◌∙◌}
use Rattle.zone_sessions.proofs.Reopened.{valid_again}
use Rattle.zone_sessions.proofs.apex.ZoneApex.from_parts.Goals as goal

-- The parts are of a version that may be published.
pub of-requires : goal.of-requires
of-requires c =
    valid_again c.in_ok-contents.contents.value c.version.result.now c.args.rrsets.version c.args.apex_name c.args.class (c.in_ok-contents.ensures.ok ∙ c.in_ok-reopened.ensures) c.version.ensures.is c.requires.name c.version.ensures.part.0
