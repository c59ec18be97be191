use Rattle.std.proofs.Common.{sym}
use Rattle.zone_versions.proofs.version.ZoneVersion.is_bad_alias.Goals as goal

pub returns : goal.returns
returns c = c.is_bad_alias.ensures c.args.self.now (sym c.apex.ensures)
