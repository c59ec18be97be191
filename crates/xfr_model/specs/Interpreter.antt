-- What an interpreter of transfer messages says, message by message (RFC 5936, 2.2; RFC 1995, 4).
use Rattle.std.specs.Prelude.{Bool, ◌||◌, ◌==◌, if◌then◌else◌, List, [], ◌∷◌, ◌++◌, length, drop, Option, is_some}
use Rattle.dns_rdata.specs.Records.{Record}
use Rattle.dns_numbers.specs.Codes.{type_ixfr}
use Rattle.zone_model.specs.TransferText.{Mode, Axfr, Ixfr, read_text}
use Rattle.dns_wire.specs.Wire.{Question}
use Rattle.xfr_model.specs.Messages.{ReadMessage}
use Rattle.zone_model.specs.Updates.{Update, updates_of}
use Rattle.xfr_model.specs.Read.{Fault, message_fault, read_by, retry}

-- the mode that the first message's question names
abbrev pub mode_asked : List Question → Mode
mode_asked [] = Axfr
mode_asked (q ∷ more) = if q.qtype == type_ixfr then Ixfr else Axfr

abbrev pub mode_of : List ReadMessage → Mode
mode_of [] = Axfr
mode_of (m ∷ more) = mode_asked m.questions

-- all updates of the messages so far
abbrev pub updates_in : Mode → List Record → List Update
updates_in mode [] = []
updates_in mode (s ∷ more) = updates_of (read_text mode s more)

abbrev pub updates_so_far : List ReadMessage → List Update
updates_so_far ms = updates_in (mode_of ms) (read_by (mode_of ms) message_fault ms).records

-- the updates that a message adds to those before it
abbrev pub new_updates : List ReadMessage → ReadMessage → List Update
new_updates ms m = drop (length (updates_so_far ms)) (updates_so_far (ms ++ m ∷ []))

-- whether the interpreter is finished: the text ended, or a lone SOA signalled a retry
abbrev pub is_finished : List ReadMessage → Bool
is_finished ms = (read_by (mode_of ms) message_fault ms).ended || is_some (retry (mode_of ms) message_fault ms)

-- what refuses a next message as a whole
abbrev pub next_fault : List ReadMessage → ReadMessage → Option Fault
next_fault ms m = message_fault (length ms == 0) m

-- what ends a message's updates early: a record that can't be read, or one after the end
abbrev pub iteration_fault : List ReadMessage → ReadMessage → Option Fault
iteration_fault ms m = (read_by (mode_of (ms ++ m ∷ [])) message_fault (ms ++ m ∷ [])).fault
