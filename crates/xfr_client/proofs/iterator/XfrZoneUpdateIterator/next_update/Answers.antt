use Rattle.std.proofs.Common.{◌≡◌, ◌∷◌, true, false, Option, Some, None, Result, Err, subst, sym, ap, ◌∙◌}
use Rattle.dns_name.specs.declared.octets.ParseError.{ParseError}
use Rattle.dns_rdata.specs.Records.{Record}
use Rattle.xfr_model.specs.Read.{Good}
use Rattle.zone_model.specs.TransferText.{Axfr}
use Rattle.xfr_model.specs.Machine.{step, AtEnd}
use Rattle.xfr_client.specs.declared.interpreter_state.Told.{Told}
use Rattle.xfr_client.specs.declared.interpreter_state.Told.TheVariants as told
use Rattle.xfr_outcomes.specs.declared.update.ZoneUpdate.{ZoneUpdate}
use Rattle.xfr_outcomes.specs.declared.protocol.IterationError.TheVariants as error
use Rattle.xfr_client.specs.Places.{place_of}
use Rattle.xfr_client.specs.Told.{run_of, EndsBefore}
use Rattle.xfr_client.specs.Items.{NextItem, items_left}
use Rattle.xfr_client.specs.Rest.{Rest, NextTold, rest_of}
use Rattle.xfr_client.proofs.RestSteps.{tells_after_end}
use Rattle.xfr_client.proofs.iterator.XfrZoneUpdateIterator.next_update.Goals as goal

pub returns-in-AfterEnd : goal.returns-in-AfterEnd
returns-in-AfterEnd c =
    let i = c.self.inside in
    let t = c.next_found.new.section in
    let q = c.step.new.place in
    let r : Record = c.in-Ok.found in
    let N : Result Record ParseError → Type 0 = λ n. NextItem (items_left i.section) (Some n) (items_left t) in
    let read : items_left i.section ≡ Good r ∷ items_left t = subst N c.in-Ok.is c.in-Some-next_found.ensures in
    let says : run_of q told.AfterEnd r ≡ step Axfr (place_of i.place) r
    = ap (λ t. run_of q t r) (sym c.in-AfterEnd.is) ∙ c.step.ensures.says Axfr in
    let E : Told → Type 0 = EndsBefore q in
    let ends : place_of q ≡ AtEnd = subst E c.in-AfterEnd.is c.step.ensures.ends in
    let none : i.in_hand ≡ None = sym c.take.ensures.value ∙ c.in-None.is in
    let old : rest_of i.section i.place None i.is_first false ≡ c.args.self.now
    = ap (λ h. rest_of i.section i.place h i.is_first false) (sym none) ∙ ap (rest_of i.section i.place i.in_hand i.is_first) (sym c.if-self.false) ∙ c.self.view_is in
    let O : Rest → Type 0 = λ o. NextTold o (Some (Err error.AlreadyFinished)) (rest_of t q None i.is_first true) in
    let H : Option (ZoneUpdate Record) → Type 0 = λ h. NextTold c.args.self.now (Some (Err error.AlreadyFinished)) (rest_of t q h i.is_first true) in
    subst H (sym c.take.ensures.after) (subst O old (tells_after_end i.section t i.place q i.is_first r read says ends))
