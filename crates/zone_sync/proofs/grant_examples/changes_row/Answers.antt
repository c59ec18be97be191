use Rattle.std.proofs.Common.{refl}
use Rattle.zone_model.specs.TransferText.{Ixfr}
use Rattle.zone_model.specs.ZoneRows as rows
use Rattle.zone_sync.specs.Primaries.{refuser}
use Rattle.zone_sync.specs.GrantRows as grants
use Rattle.zone_sync.proofs.GrantedRows.{changes_fit, changes_short}
use Rattle.zone_sync.proofs.grant_examples.changes_row.Goals as goal

pub returns-clause-fits : goal.returns-clause-fits
returns-clause-fits c = changes_fit

pub returns-clause-granted : goal.returns-clause-granted
returns-clause-granted c = c.history_primaries_grant.ensures refuser grants.provider grants.key (grants.asks Ixfr rows.history_1) 1300 65535 refl changes_fit changes_short
