use Rattle.std.proofs.Common.{◌≡◌, true, Result, Ok, Err, sym, ap, ◌∙◌}
use Rattle.zone_reads.specs.Session.{Session}
use Rattle.zone_model.specs.Edits.{Incompatible, add}
use Rattle.zone_model.specs.Updates.{Progress, UpdateFault}
use Rattle.xfr_client.specs.Updating.{progress_of}
use Rattle.xfr_client.proofs.Adding.{update_passed}
use Rattle.xfr_client.proofs.updater_state.UpdaterState.add.Goals as goal

pub returns-then-self-clause-ok : goal.returns-then-self-clause-ok
returns-then-self-clause-ok g c before fin =
    let u = c.args.self.now in
    let rep : u.replacing ≡ true = ap (λ v. v.replacing) (sym c.self.view_is) ∙ c.if-self.true in
    let said = rw c.in-Err-Incompatible.field-0-is at c.in-Err-Incompatible.ensures in
    let refused : add c.args.session.now.pending c.args.added.now ≡ Err Incompatible = said.refused in
    let S : Session → Result Progress UpdateFault = λ s. Ok (progress_of u s before) in
    update_passed (progress_of u c.args.session.now before) c.args.added.now fin rep refused ∙ ap S (sym c.in-Err-Incompatible.ensures.err)
