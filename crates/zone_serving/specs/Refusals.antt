-- The ends of a stream that errors from below become.
use Rattle.zone_serving.specs.declared.errors.ServeError.{ServeError}
use Rattle.zone_serving.specs.declared.errors.ServeError.TheVariants as why
use Rattle.message_frames.specs.declared.reading.FrameError.{FrameError}
use Rattle.message_frames.specs.declared.reading.FrameError.TheVariants as frame
use Rattle.message_frames.specs.declared.writing.WriteFrameError.{WriteFrameError}
use Rattle.message_frames.specs.declared.writing.WriteFrameError.TheVariants as written
use Rattle.xfr_services.specs.declared.services.ServiceError.{ServiceError}
use Rattle.xfr_services.specs.declared.services.ServiceError.TheVariants as service

abbrev pub of_frame : FrameError → ServeError
of_frame frame.Cut = why.Cut
of_frame frame.Fault = why.SourceFault
of_frame frame.Memory = why.Memory

-- a reply that was built is never too long for a frame
abbrev pub of_written : WriteFrameError → ServeError
of_written written.TooLong = why.NoReply
of_written written.Fault = why.SinkFault

abbrev pub of_service : ServiceError → ServeError
of_service service.InternalError = why.NoReply
of_service service.Memory = why.Memory
