-- What one record says, as a run of the machine.
use Rattle.std.specs.Prelude.{◌≡◌, List, [], ◌∷◌, Option, Some, None}
use Rattle.dns_rdata.specs.Records.{Record}
use Rattle.zone_model.specs.Updates.{Update, DeleteAllRecords, DeleteRecord, AddRecord, BeginBatchDelete, BeginBatchAdd, Finished}
use Rattle.xfr_model.specs.Read.{Fault, AfterEnd}
use Rattle.xfr_model.specs.Machine.{Run}
use Rattle.xfr_model.specs.Machine as machine
use Rattle.xfr_client.specs.declared.interpreter_state.Place.{Place}
use Rattle.xfr_client.specs.declared.interpreter_state.Told.{Told}
use Rattle.xfr_client.specs.declared.interpreter_state.Told.TheVariants as told
use Rattle.xfr_client.specs.Places.{place_of}

abbrev pub updates_told : Told → Record → List Update
updates_told told.Delete r = DeleteRecord r ∷ []
updates_told told.Add r = AddRecord r ∷ []
updates_told told.Whole r = DeleteAllRecords ∷ AddRecord r ∷ []
updates_told told.BeginDeletes r = BeginBatchDelete r ∷ []
updates_told told.BeginAdds r = BeginBatchAdd r ∷ []
updates_told told.Finish r = Finished r ∷ []
updates_told told.AfterEnd r = []

abbrev pub fault_told : Told → Option Fault
fault_told told.Delete = None
fault_told told.Add = None
fault_told told.Whole = None
fault_told told.BeginDeletes = None
fault_told told.BeginAdds = None
fault_told told.Finish = None
fault_told told.AfterEnd = Some AfterEnd

abbrev pub run_of : Place → Told → Record → Run
run_of p t r = record { place = place_of p; updates = updates_told t r; fault = fault_told t }

-- what is refused stands after the end
abbrev pub EndsBefore : Place → Told → Type 0
EndsBefore p told.Delete = Unit {0}
EndsBefore p told.Add = Unit {0}
EndsBefore p told.Whole = Unit {0}
EndsBefore p told.BeginDeletes = Unit {0}
EndsBefore p told.BeginAdds = Unit {0}
EndsBefore p told.Finish = Unit {0}
EndsBefore p told.AfterEnd = place_of p ≡ machine.AtEnd
