use Rattle.std.proofs.Common.{◌≡◌, false, Some, sym, ◌∙◌, ap, subst}
use Rattle.std.proofs.lemmas.Result.{err_from_is_err_and}
use Rattle.xfr_model.specs.Messages.{ReadMessage}
use Rattle.xfr_outcomes.specs.declared.protocol.Error.{Error}
use Rattle.xfr_client.specs.Interpreting.{Interpreting, Interprets, Refuses, interpreting_of, is_over, sections_here}
use Rattle.xfr_client.proofs.MessageParts.{read_parts, sections_read}
use Rattle.xfr_client.proofs.Taking.{interprets, refuses}
use Rattle.xfr_client.proofs.interpreter.XfrResponseInterpreter.interpret_response.Goals as goal

pub returns-clause-ok : goal.returns-clause-ok
returns-clause-ok c m h =
    let i = c.self.inside in
    let u = c.in_ok-updates in
    let open_still : is_over (interpreting_of i.place i.has_signalled) ≡ false = ap is_over c.self.view_is ∙ sym c.is_finished.ensures ∙ c.if-is_finished.false in
    let P : Interpreting → Type 0 = λ before. Interprets before m u.updates (interpreting_of (Some u.behind) u.has_signalled) in
    subst P c.self.view_is (interprets i.place i.has_signalled u.has_signalled m u.updates u.behind open_still (u.ensures.read m (read_parts _ m h)))

pub returns-clause-sections_ok : goal.returns-clause-sections_ok
returns-clause-sections_ok c h =
    let i = c.self.inside in
    let u = c.in_ok-updates in
    let m : ReadMessage = sections_here c.args.message.now in
    let open_still : is_over (interpreting_of i.place i.has_signalled) ≡ false = ap is_over c.self.view_is ∙ sym c.is_finished.ensures ∙ c.if-is_finished.false in
    let P : Interpreting → Type 0 = λ before. Interprets before m u.updates (interpreting_of (Some u.behind) u.has_signalled) in
    subst P c.self.view_is (interprets i.place i.has_signalled u.has_signalled m u.updates u.behind open_still (u.ensures.read m (sections_read _ h)))

pub returns-in_err-updates-clause-refused : goal.returns-in_err-updates-clause-refused
returns-in_err-updates-clause-refused c m h =
    let i = c.self.inside in
    let e : Error = c.in_err-updates.field-0.0 in
    let open_still : is_over (interpreting_of i.place i.has_signalled) ≡ false = ap is_over c.self.view_is ∙ sym c.is_finished.ensures ∙ c.if-is_finished.false in
    let p = err_from_is_err_and c.from_residual.result c.from_residual.ensures.1 in
    let P : Interpreting → Type 0 = λ before. Refuses before m e in
    rw (p.1, p.2) (subst P c.self.view_is (refuses i.place i.has_signalled m e open_still (c.in_err-updates.ensures.read m (read_parts _ m h))))

pub returns-in_err-updates-clause-sections_refused : goal.returns-in_err-updates-clause-sections_refused
returns-in_err-updates-clause-sections_refused c h =
    let i = c.self.inside in
    let e : Error = c.in_err-updates.field-0.0 in
    let m : ReadMessage = sections_here c.args.message.now in
    let open_still : is_over (interpreting_of i.place i.has_signalled) ≡ false = ap is_over c.self.view_is ∙ sym c.is_finished.ensures ∙ c.if-is_finished.false in
    let p = err_from_is_err_and c.from_residual.result c.from_residual.ensures.1 in
    let P : Interpreting → Type 0 = λ before. Refuses before m e in
    rw (p.1, p.2) (subst P c.self.view_is (refuses i.place i.has_signalled m e open_still (c.in_err-updates.ensures.read m (sections_read _ h))))
