-- What a message's iterator has to tell, one step on.
use Rattle.std.proofs.Common.{◌≡◌, Bool, true, false, List, [], ◌∷◌, Some, None, Err, refl}
use Rattle.dns_rdata.specs.Records.{Record}
use Rattle.dns_wire.specs.Parse.{SectionIn}
use Rattle.xfr_model.specs.Read.{Item, Good, Bad}
use Rattle.zone_model.specs.TransferText.{Axfr}
use Rattle.xfr_model.specs.Machine.{Run, went, then_run, step, run_items}
use Rattle.xfr_model.specs.Machine as machine
use Rattle.xfr_client.specs.declared.interpreter_state.Place.{Place}
use Rattle.xfr_client.specs.declared.interpreter_state.Told.TheVariants as told
use Rattle.xfr_outcomes.specs.declared.protocol.IterationError.TheVariants as error
use Rattle.xfr_client.specs.Places.{place_of}
use Rattle.xfr_client.specs.Told.{run_of}
use Rattle.xfr_client.specs.Items.{items_left}
use Rattle.xfr_client.specs.Rest.{NextTold, rest_of}

-- after the end nothing is told
pub at_end_stays : (xs : List Item) → (run_items Axfr machine.AtEnd xs).place ≡ machine.AtEnd
at_end_stays [] = refl
at_end_stays (Good r ∷ xs) = at_end_stays xs
at_end_stays (Bad f ∷ xs) = refl

pub at_end_tells : (xs : List Item) → (run_items Axfr machine.AtEnd xs).updates ≡ []
at_end_tells [] = refl
at_end_tells (Good r ∷ xs) = at_end_tells xs
at_end_tells (Bad f ∷ xs) = refl

-- a record after the end
pub tells_after_end : (s t : SectionIn) (p q : Place) (f : Bool) (r : Record) → items_left s ≡ Good r ∷ items_left t
    → run_of q told.AfterEnd r ≡ step Axfr (place_of p) r → place_of q ≡ machine.AtEnd
    → NextTold (rest_of s p None f false) (Some (Err error.AlreadyFinished)) (rest_of t q None f true)
tells_after_end s t p q true r h e k = rw (h, ← e, k, at_end_stays (items_left t), at_end_tells (items_left t)) (refl, refl)
tells_after_end s t p q false r h e k = rw (h, ← e, k, at_end_stays (items_left t), at_end_tells (items_left t)) (refl, refl)
