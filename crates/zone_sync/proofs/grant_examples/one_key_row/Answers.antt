use Rattle.std.proofs.Common.{◌≤◌, refl, arith}
use Rattle.zone_model.specs.ZoneRows as rows
use Rattle.zone_sync.specs.Primaries.{refuser}
use Rattle.zone_sync.specs.GrantRows as grants
use Rattle.zone_sync.proofs.GrantedRows.{half_fits, half_short}
use Rattle.zone_sync.proofs.grant_examples.one_key_row.Goals as goal

pub returns-clause-fits : goal.returns-clause-fits
returns-clause-fits c = half_fits

pub returns-clause-granted : goal.returns-clause-granted
returns-clause-granted c = c.history_primaries_grant.ensures refuser grants.provider grants.lenient_key grants.half_asks 1000 65535 refl half_fits half_short

pub returns-clause-refused : goal.returns-clause-refused
returns-clause-refused c f = let h : 32 ≤ 16 = f.one_key.client_taken in omega arith
