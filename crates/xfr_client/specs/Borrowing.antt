-- A client and an updater, each with the session that it borrows. The one way to end them gives that session back.
use Rattle.std.specs.Borrow.{GName}
use Rattle.zone_reads.specs.Session.{Session}
use Rattle.xfr_client.specs.Standing.{ClientState}
use Rattle.xfr_client.specs.Updating.{Updating}

pub record OpenClient : Type 0 where
  pub client : ClientState
  pub session : Session
  -- the borrow of the session, which ends with the client
  pub lender : GName

pub record OpenUpdater : Type 0 where
  pub updater : Updating
  pub session : Session
  -- the borrow of the session, which ends with the updater
  pub lender : GName
