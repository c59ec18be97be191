-- What ends a primary's run, by errors from below, and its exit status.
use Rattle.std.specs.Prelude.{ℕ, Result, Ok, Err}
use Rattle.zone_devices.specs.declared.read_to_end.ReadError.{ReadError}
use Rattle.zone_devices.specs.declared.read_to_end.ReadError.TheVariants as read
use Rattle.zone_script.specs.declared.script.ScriptError.{ScriptError}
use Rattle.zone_script.specs.declared.script.ScriptError.TheVariants as script
use Rattle.zone_serving.specs.declared.errors.ServeError.{ServeError}
use Rattle.zone_serving.specs.declared.errors.ServeError.TheVariants as stream
use Rattle.zone_serving.specs.declared.serving.Served.{Served}
use Rattle.zone_primary_run.specs.declared.errors.PrimaryError.{PrimaryError}
use Rattle.zone_primary_run.specs.declared.errors.PrimaryError.TheVariants as why

abbrev pub of_read : ReadError → PrimaryError
of_read read.Failed = why.ScriptFault
of_read read.TooLong = why.ScriptTooLong
of_read read.Memory = why.Memory

abbrev pub of_script : ScriptError → PrimaryError
of_script (script.Line n) = why.Line n
of_script script.Memory = why.Memory

abbrev pub of_serve : ServeError → PrimaryError
of_serve stream.Memory = why.Memory
of_serve stream.Cut = why.Stream stream.Cut
of_serve stream.SourceFault = why.Stream stream.SourceFault
of_serve stream.SinkFault = why.Stream stream.SinkFault
of_serve stream.Short = why.Stream stream.Short
of_serve stream.NoReply = why.Stream stream.NoReply
of_serve stream.TooMany = why.Stream stream.TooMany

abbrev pub stream_status : ServeError → ℕ
stream_status stream.SinkFault = 5
stream_status stream.Memory = 6
stream_status stream.SourceFault = 7
stream_status stream.Cut = 1
stream_status stream.Short = 1
stream_status stream.NoReply = 1
stream_status stream.TooMany = 1

abbrev pub exit_status : Result Served PrimaryError → ℕ
exit_status (Ok s) = 0
exit_status (Err (why.Stream e)) = stream_status e
exit_status (Err why.Words) = 2
exit_status (Err (why.Line n)) = 3
exit_status (Err why.NotOpened) = 4
exit_status (Err why.ScriptFault) = 4
exit_status (Err why.Memory) = 6
exit_status (Err why.ScriptTooLong) = 8
exit_status (Err why.Clock) = 9
