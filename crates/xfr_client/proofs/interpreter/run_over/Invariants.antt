use Rattle.std.proofs.Common.{◌≡◌, length, is_some}
use Rattle.zone_model.specs.TransferText.{Axfr}
use Rattle.xfr_model.specs.Read.{first_fault}
use Rattle.xfr_model.specs.Machine.{run_items}
use Rattle.xfr_client.specs.Places.{place_of}
use Rattle.xfr_client.specs.Items.{items_left}
use Rattle.xfr_client.proofs.interpreter.run_over.Given as goal

abbrev pub invariant-loop-next : goal.invariant-loop-next
invariant-loop-next l =
    ((run_items Axfr (place_of l.place) (items_left l.section)).place ≡ (run_items Axfr (place_of l.initial.place) (items_left l.initial.section)).place)
    × (is_some (first_fault (items_left l.section)) ≡ is_some (first_fault (items_left l.initial.section)))

abbrev pub decreases-loop-next : goal.decreases-loop-next
decreases-loop-next l = length (items_left l.section)
