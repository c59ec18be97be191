-- What taking a message comes to: the run of its answer records from the place before it.
use Rattle.std.proofs.Common.{◌≡◌, Bool, true, false, List, [], ◌∷◌, ◌++◌, Option, Some, None, map, refl, ap, ◌∙◌, sym}
use Rattle.std.specs.Prelude.{◌&&◌, not, is_some, is_none}
use Rattle.dns_rdata.specs.Records.{Record}
use Rattle.dns_wire.specs.Parse.{SectionIn}
use Rattle.xfr_model.specs.Messages.{ReadMessage}
use Rattle.zone_model.specs.Updates.{Update}
use Rattle.xfr_model.specs.Read.{Item, Good, first_fault, record_item, is_transfer_head, message_fault}
use Rattle.zone_model.specs.TransferText.{Mode, Axfr, Ixfr}
use Rattle.xfr_model.specs.Interpreter.{mode_asked}
use Rattle.xfr_model.specs.Machine.{Run, went, then_run, first_step, run_items}
use Rattle.xfr_model.specs.Machine as machine
use Rattle.xfr_client.specs.declared.interpreter_state.Place.{Place}
use Rattle.xfr_client.specs.declared.interpreter_state.Stage.{Stage}
use Rattle.xfr_client.specs.declared.interpreter_state.Stage.TheVariants.{AtSecond, InWhole, InDeletes, InAdds, AtEnd}
use Rattle.xfr_outcomes.specs.declared.protocol.Error.{Error}
use Rattle.xfr_outcomes.specs.declared.protocol.Error.TheVariants as error
use Rattle.xfr_outcomes.specs.declared.update.ZoneUpdate.{ZoneUpdate}
use Rattle.xfr_client.specs.Places.{place_at, place_of, is_at_second}
use Rattle.xfr_client.specs.Items.{items_left}
use Rattle.xfr_client.specs.Rest.{Rest, rest_of, asks_again, updates_in_hand}
use Rattle.xfr_client.specs.Interpreting.{Interpreting, Begins, Taken, told_first, Interprets, IsFault, Refuses, interpreting_of, is_over}
use Rattle.xfr_client.proofs.Places.{is_begun, any_mode, signal_told}
use Rattle.xfr_client.proofs.FirstMessage.{faultless_later}

begun_at : (stage : Stage) (s : Record) → is_begun (place_at stage s) ≡ true
begun_at AtSecond s = refl
begun_at InWhole s = refl
begun_at InDeletes s = refl
begun_at InAdds s = refl
begun_at AtEnd s = refl

begun_place : (p : Place) → is_begun (place_of p) ≡ true
begun_place p = begun_at p.stage p.first

-- a run after some updates
abbrev behind : List Update → Run → Run
behind us a = record a { updates = us ++ a.updates }

first_run : (mode : Mode) (s : Record) (q : machine.Place) (xs : List Item) → q ≡ (first_step mode s).place
    → run_items mode machine.AtStart (Good s ∷ xs) ≡ behind (told_first q) (run_items Axfr q xs)
first_run Axfr s q xs e = rw e refl
first_run Ixfr s q xs e = rw e (ap (then_run (went (machine.AtSecond s) [])) (any_mode Ixfr xs (machine.AtSecond s) refl))

pub taken_first : (m : ReadMessage) (p : Place) (s : Begins m p) (ahead section : SectionIn) (hand : Option (ZoneUpdate Record)) (to : Place) (bad signalled : Bool)
    → items_left ahead ≡ map record_item s.others → items_left section ≡ map record_item s.others
    → place_of to ≡ (run_items Axfr (place_of p) (items_left ahead)).place → bad ≡ is_some (first_fault (items_left ahead))
    → updates_in_hand hand ≡ told_first (place_of p) → signalled ≡ (is_at_second (place_of to) && not bad)
    → Taken true machine.AtStart m (rest_of section p hand true false) to signalled
taken_first m p s ahead section hand to bad signalled a b stands faulty told signals =
    let xs : List Item = map record_item s.others in
    let mode : Mode = mode_asked m.questions in
    let runs : run_items mode machine.AtStart (map record_item m.answers) ≡ behind (updates_in_hand hand) (run_items Axfr (place_of p) xs)
    = ap (λ l. run_items mode machine.AtStart (map record_item l)) s.answers
    ∙ first_run mode s.first (place_of p) xs s.stands
    ∙ ap (λ us. behind us (run_items Axfr (place_of p) xs)) (sym told) in
    let there : place_of to ≡ (run_items Axfr (place_of p) xs).place = stands ∙ ap (λ l. (run_items Axfr (place_of p) l).place) a in
    let bads : bad ≡ is_some (first_fault xs) = faulty ∙ ap (λ l. is_some (first_fault l)) a in
    record {
      faultless = s.faultless;
      tells = rw b (ap (λ (r : Run). let t : Rest = record { run = r; retry = asks_again true r } in t) (sym runs));
      stands = there ∙ sym (ap (λ (r : Run). r.place) runs);
      signals = signals ∙ ap (λ q. is_at_second q && not bad) there ∙ ap (λ b. is_at_second (run_items Axfr (place_of p) xs).place && not b) bads
          ∙ signal_told xs (place_of p) (begun_place p) ∙ ap (asks_again true) (sym runs);
    }

pub taken_later : (m : ReadMessage) (p : Place) (ahead section : SectionIn) (to : Place) → is_transfer_head false m ≡ true
    → items_left ahead ≡ map record_item m.answers → items_left section ≡ map record_item m.answers
    → place_of to ≡ (run_items Axfr (place_of p) (items_left ahead)).place
    → Taken false (place_of p) m (rest_of section p None false false) to false
taken_later m p ahead section to head a b stands =
    let xs : List Item = map record_item m.answers in
    let mode : Mode = mode_asked m.questions in
    let runs : run_items mode (place_of p) xs ≡ run_items Axfr (place_of p) xs = any_mode mode xs (place_of p) (begun_place p) in
    record {
      faultless = faultless_later m head;
      tells = rw b (ap (λ (r : Run). let t : Rest = record { run = r; retry = asks_again false r } in t) (sym runs));
      stands = stands ∙ ap (λ l. (run_items Axfr (place_of p) l).place) a ∙ sym (ap (λ (r : Run). r.place) runs);
      signals = refl;
    }

-- so a message that is taken is interpreted
pub interprets : (place : Option Place) (before signalled : Bool) (m : ReadMessage) (rest : Rest) (to : Place) → is_over (interpreting_of place before) ≡ false
    → Taken (is_none place) (interpreting_of place false).place m rest to signalled
    → Interprets (interpreting_of place before) m rest (interpreting_of (Some to) signalled)
interprets None before signalled m rest to o t = record { open_still = o; faultless = t.faultless; tells = t.tells; stands = rw (t.stands, t.signals) refl }
interprets (Some p) before signalled m rest to o t = record { open_still = o; faultless = t.faultless; tells = t.tells; stands = rw (t.stands, t.signals) refl }

-- .. and one that isn't taken is refused for its fault
as_refusal : (i : Interpreting) (m : ReadMessage) (e : Error) → is_over i ≡ false → IsFault (message_fault (not i.begun) m) e → Refuses i m e
as_refusal i m error.Finished o f = absurd f
as_refusal i m error.NotValidXfrResponse o f = (o, f)
as_refusal i m error.Malformed o f = (o, f)
as_refusal i m error.ParseError o f = absurd f

pub refuses : (place : Option Place) (before : Bool) (m : ReadMessage) (e : Error) → is_over (interpreting_of place before) ≡ false
    → IsFault (message_fault (is_none place) m) e → Refuses (interpreting_of place before) m e
refuses None before m e o f = as_refusal (interpreting_of None before) m e o f
refuses (Some p) before m e o f = as_refusal (interpreting_of (Some p) before) m e o f
