-- The refusals of a transfer that errors from below become.
use Rattle.xfr_outcomes.specs.declared.outcome.SyncError.{SyncError}
use Rattle.xfr_outcomes.specs.declared.outcome.SyncError.TheVariants as why
use Rattle.zone_devices.specs.declared.links.LinkError.{LinkError}
use Rattle.zone_devices.specs.declared.links.LinkError.TheVariants as link
use Rattle.xfr_services.specs.declared.services.ServiceError.{ServiceError}
use Rattle.xfr_services.specs.declared.services.ServiceError.TheVariants as service
use Rattle.dns_wire.specs.declared.builder.PushError.{PushError}
use Rattle.dns_wire.specs.declared.builder.PushError.TheVariants as push
use Rattle.xfr_outcomes.specs.declared.update.Error.{Error}
use Rattle.xfr_outcomes.specs.declared.update.Error.TheVariants as update

abbrev pub of_link : LinkError → SyncError
of_link link.Failed = why.LinkFault
of_link link.Memory = why.Memory

abbrev pub of_service : ServiceError → SyncError
of_service service.Memory = why.Memory
of_service service.InternalError = why.Primary service.InternalError

abbrev pub of_push : PushError → SyncError
of_push push.Memory = why.Memory
of_push push.ShortBuf = why.Request push.ShortBuf
of_push push.CountOverflow = why.Request push.CountOverflow

abbrev pub of_update : Error → SyncError
of_update update.Memory = why.Memory
of_update update.VersionsExhausted = why.VersionsExhausted
of_update update.OutOfZone = why.Update update.OutOfZone
of_update update.NotSoaRecord = why.Update update.NotSoaRecord
of_update update.IncompatibleUpdate = why.Update update.IncompatibleUpdate
of_update update.InvalidData = why.Update update.InvalidData
of_update update.Finished = why.Update update.Finished
