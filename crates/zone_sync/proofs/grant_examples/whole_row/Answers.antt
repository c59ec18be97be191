use Rattle.std.proofs.Common.{refl}
use Rattle.zone_model.specs.TransferText.{Axfr}
use Rattle.zone_model.specs.ZoneRows as rows
use Rattle.zone_sync.specs.Primaries.{refuser}
use Rattle.zone_sync.specs.GrantRows as grants
use Rattle.zone_sync.proofs.GrantedRows.{whole_fits_with, whole_fits, whole_short}
use Rattle.zone_sync.proofs.grant_examples.whole_row.Goals as goal

pub returns-clause-untold : goal.returns-clause-untold
returns-clause-untold c = whole_fits_with

pub returns-clause-fits : goal.returns-clause-fits
returns-clause-fits c = whole_fits

pub returns-clause-granted : goal.returns-clause-granted
returns-clause-granted c = c.history_primaries_grant.ensures refuser grants.provider grants.key (grants.asks Axfr rows.empty_zone) 1000 65535 refl whole_fits whole_short
