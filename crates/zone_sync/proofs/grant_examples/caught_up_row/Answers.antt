use Rattle.std.proofs.Common.{refl}
use Rattle.zone_model.specs.TransferText.{Ixfr}
use Rattle.zone_model.specs.ZoneRows as rows
use Rattle.zone_sync.specs.Primaries.{refuser}
use Rattle.zone_sync.specs.GrantRows as grants
use Rattle.zone_sync.proofs.GrantedRows.{caught_up_fits, caught_up_short}
use Rattle.zone_sync.proofs.grant_examples.caught_up_row.Goals as goal

pub returns-clause-fits : goal.returns-clause-fits
returns-clause-fits c = caught_up_fits

pub returns-clause-granted : goal.returns-clause-granted
returns-clause-granted c = c.history_primaries_grant.ensures refuser grants.provider grants.key (grants.asks Ixfr rows.history_3) 700 65535 refl caught_up_fits caught_up_short
