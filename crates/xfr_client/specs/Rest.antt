-- What is left of one message's updates.
use Rattle.std.specs.Prelude.{◌≡◌, Bool, true, false, ◌&&◌, not, List, [], ◌∷◌, ◌++◌, Option, Some, None, is_some, Result, Ok, Err}
use Rattle.dns_rdata.specs.Records.{Record}
use Rattle.dns_wire.specs.Parse.{SectionIn}
use Rattle.zone_model.specs.Updates.{Update}
use Rattle.zone_model.specs.TransferText.{Axfr}
use Rattle.xfr_model.specs.Read.{Unreadable, AfterEnd}
use Rattle.xfr_model.specs.Machine.{Run, went, then_run, run_items}
use Rattle.xfr_client.specs.declared.interpreter_state.Place.{Place}
use Rattle.xfr_outcomes.specs.declared.update.ZoneUpdate.{ZoneUpdate}
use Rattle.xfr_outcomes.specs.declared.protocol.IterationError.{IterationError}
use Rattle.xfr_outcomes.specs.declared.protocol.IterationError.TheVariants as error
use Rattle.xfr_client.specs.Places.{place_of, is_at_second}
use Rattle.xfr_outcomes.specs.ZoneUpdates.{update_of}
use Rattle.xfr_client.specs.Items.{items_left}

-- what an iterator over a message has still to tell: a run, and whether after it the message asks for another way of transfer
pub record Rest : Type 0 where
  pub run : Run
  pub retry : Bool

-- whether a first message's records end where the text may yet be of either form
abbrev pub asks_again : Bool → Run → Bool
asks_again is_first a = is_first && not (is_some a.fault) && is_at_second a.place

abbrev pub updates_in_hand : Option (ZoneUpdate Record) → List Update
updates_in_hand None = []
updates_in_hand (Some u) = update_of u ∷ []

-- where records are read from a place on, after an update in hand
abbrev pub rest_from : Run → Bool → Option (ZoneUpdate Record) → Rest
rest_from a is_first in_hand = record { run = record a { updates = updates_in_hand in_hand ++ a.updates }; retry = asks_again is_first a }

abbrev pub rest_of : SectionIn → Place → Option (ZoneUpdate Record) → Bool → Bool → Rest
rest_of section place in_hand is_first true = rest_from (went (place_of place) []) false in_hand
rest_of section place in_hand is_first false = rest_from (run_items Axfr (place_of place) (items_left section)) is_first in_hand

-- after an error nothing is left
abbrev pub nothing_behind : Rest → Rest
nothing_behind old = record { run = went old.run.place []; retry = false }

-- what one step of the iterator answers: nothing where nothing is left; the next update; or the fault, or the wish to be asked again
abbrev pub NextTold : Rest → Option (Result (ZoneUpdate Record) IterationError) → Rest → Type 0
NextTold old None new = (old ≡ nothing_behind old) × (new ≡ old)
NextTold old (Some (Ok u)) new = old ≡ record { run = then_run (went new.run.place (update_of u ∷ [])) new.run; retry = new.retry }
NextTold old (Some (Err error.ParseError)) new = (old ≡ record { run = record { place = old.run.place; updates = []; fault = Some Unreadable }; retry = false }) × (new ≡ nothing_behind old)
NextTold old (Some (Err error.AlreadyFinished)) new = (old ≡ record { run = record { place = old.run.place; updates = []; fault = Some AfterEnd }; retry = false }) × (new ≡ nothing_behind old)
NextTold old (Some (Err error.SingleSoaIxfrTcpRetrySignal)) new = (old ≡ record { run = went old.run.place []; retry = true }) × (new ≡ nothing_behind old)
NextTold old (Some (Err error.MissingInitialSoa)) new = ⊥
