-- What the program writes where there is no report, and which statuses come with what.
use Rattle.std.specs.Prelude.{ℕ, List, [], ◌∷◌, ◌++◌, Bool, true, false, codes}
use Rattle.zone_report.specs.declared.status.Status.{Status}
use Rattle.zone_report.specs.declared.status.Status.TheVariants.{Done, Refused, Usage, Script, SourceFault, SinkFault, Memory, LinkFault, TooLong}

-- the source failed
abbrev pub fault_line : List ℕ
fault_line = codes "read fault" ++ 10 ∷ []

-- the script is too long
abbrev pub long_line : List ℕ
long_line = codes "too long" ++ 10 ∷ []

-- a stream failed, or memory ran out: what may come in place of any other status
abbrev pub is_fault : Status → Bool
is_fault SourceFault = true
is_fault SinkFault = true
is_fault Memory = true
is_fault _ = false

-- the statuses that come with a report
abbrev pub is_reported : Status → Bool
is_reported Done = true
is_reported Refused = true
is_reported LinkFault = true
is_reported _ = false

-- the statuses that come where the script was read to its end, and memory did not run out
abbrev pub is_read : Status → Bool
is_read Script = true
is_read s = is_reported s

-- the exit status
abbrev pub exit_status : Status → ℕ
exit_status Done = 0
exit_status Refused = 1
exit_status Usage = 2
exit_status Script = 3
exit_status SourceFault = 4
exit_status SinkFault = 5
exit_status Memory = 6
exit_status LinkFault = 7
exit_status TooLong = 8
