use Rattle.std.proofs.Common.{◌≡◌, refl, sym, ap, ◌∙◌, subst, Err}
use Rattle.std.proofs.lemmas.Result.{err_from_is_err_and}
use Rattle.xfr_client.specs.Places.{first_serial}
use Rattle.xfr_client.specs.SoFar.{message_so_far, client_so_far}
use Rattle.xfr_client.specs.Ending.{settled}
use Rattle.xfr_client.specs.Steps.{Ahead}
use Rattle.xfr_client.specs.Replies.{ChecksReply}
use Rattle.xfr_client.specs.Room.{ReplyKeepsRoom}
use Rattle.xfr_client.proofs.Standings.{between}
use Rattle.xfr_client.proofs.TakingReplies.{settled_ends, message_fails, message_reads, updates_stop, updates_done, text_ends, text_goes_on}
use Rattle.xfr_client.proofs.Room.{none_done, reply_stops, reply_done, reply_stops_at, not_checked, not_tested, settled_memory, told_memory, sync_same}
use Rattle.xfr_client.proofs.Growing.{grows_still}
use Rattle.xfr_client.proofs.exchange.Exchange.take.Goals as goal

pub returns-in_err-updates-clause-takes : goal.returns-in_err-updates-clause-takes
returns-in_err-updates-clause-takes g c a taken before at x =
    let cl = client_so_far a taken in
    let o = c.checked.ensures.others in
    let ck = c.in_ok-message.ensures.answers a taken at x.key x.sequence in
    let tests = c.in_err-updates.ensures.tests a cl.begun cl.place (ap (λ e. e.id) o ∙ x.id) (ap (λ e. e.question) o ∙ x.question) (ap (λ e. e.interpreter) o ∙ x.interpreter) (between a taken x.unmet).place in
    let p = err_from_is_err_and c.from_residual-in_err-updates.result c.from_residual-in_err-updates.ensures.1 in
    rw (p.1, p.2) (message_fails a c.args.self.now c.read.new.self c.args.session.now before c.args.made.now.items taken c.args.octets.items c.in_ok-message.message c.checked.new.self.sequence c.read.new.self.interpreter c.in_err-updates.field-0.0 x ck tests)

pub returns-in-Err-clause-takes : goal.returns-in-Err-clause-takes
returns-in-Err-clause-takes g c a taken before at x =
    let cl = client_so_far a taken in
    let o = c.checked.ensures.others in
    let r = c.read.ensures.others in
    let ck = c.in_ok-message.ensures.answers a taken at x.key x.sequence in
    let tests = c.in_ok-updates.ensures.tests a cl.begun cl.place (ap (λ e. e.id) o ∙ x.id) (ap (λ e. e.question) o ∙ x.question) (ap (λ e. e.interpreter) o ∙ x.interpreter) (between a taken x.unmet).place in
    let rd = message_reads a c.args.self.now c.args.session.now before c.args.made.now.items taken c.args.octets.items c.in_ok-message.message c.checked.new.self.sequence c.read.new.self.interpreter c.in_ok-updates.updates x ck tests in
    let updater : c.read.new.self.updater ≡ c.args.self.now.updater = ap (λ e. e.updater) r ∙ ap (λ e. e.updater) o in
    let ahead = subst (λ u. Ahead a.base before u c.args.session.now c.args.made.now.items cl.progress) (sym updater) x.ahead in
    let serial = ap (λ e. e.serial) r ∙ ap (λ e. e.serial) o ∙ x.serial in
    rw c.settle.ensures (updates_stop a c.args.self.now (record c.read.new.self { updater = c.apply_all.new.updater }) c.args.session.now c.apply_all.new.session before c.args.made.now.items c.apply_all.new.made.items taken c.args.octets.items c.in_ok-message.message c.checked.new.self.sequence c.read.new.self.interpreter c.in_ok-updates.updates c.apply_all.new.updater c.read.new.self.serial c.in-Err.error
    x ck rd serial (rw c.in-Err.is at c.apply_all.ensures.takes a.base before cl.progress ahead))

pub returns-then-is_finished-clause-takes : goal.returns-then-is_finished-clause-takes
returns-then-is_finished-clause-takes g c a taken before at x =
    let cl = client_so_far a taken in
    let o = c.checked.ensures.others in
    let r = c.read.ensures.others in
    let ck = c.in_ok-message.ensures.answers a taken at x.key x.sequence in
    let tests = c.in_ok-updates.ensures.tests a cl.begun cl.place (ap (λ e. e.id) o ∙ x.id) (ap (λ e. e.question) o ∙ x.question) (ap (λ e. e.interpreter) o ∙ x.interpreter) (between a taken x.unmet).place in
    let rd = message_reads a c.args.self.now c.args.session.now before c.args.made.now.items taken c.args.octets.items c.in_ok-message.message c.checked.new.self.sequence c.read.new.self.interpreter c.in_ok-updates.updates x ck tests in
    let updater : c.read.new.self.updater ≡ c.args.self.now.updater = ap (λ e. e.updater) r ∙ ap (λ e. e.updater) o in
    let ahead = subst (λ u. Ahead a.base before u c.args.session.now c.args.made.now.items cl.progress) (sym updater) x.ahead in
    let d = updates_done a c.apply_all.new.session before c.apply_all.new.made.items taken c.args.octets.items c.read.new.self.interpreter c.in_ok-updates.updates c.apply_all.new.updater rd (rw c.in_default.is at c.apply_all.ensures.takes a.base before cl.progress ahead) in
    text_ends a (record c.read.new.self { updater = c.apply_all.new.updater }) c.apply_all.new.session before c.apply_all.new.made.items taken c.args.octets.items c.in_ok-message.message c.checked.new.self.sequence c.apply_all.new.updater c.read.new.self.interpreter ck d
    (sym c.is_finished.ensures ∙ c.if-is_finished.true)

pub returns-clause-takes : goal.returns-clause-takes
returns-clause-takes g c a taken before at x =
    let cl = client_so_far a taken in
    let o = c.checked.ensures.others in
    let r = c.read.ensures.others in
    let ck = c.in_ok-message.ensures.answers a taken at x.key x.sequence in
    let tests = c.in_ok-updates.ensures.tests a cl.begun cl.place (ap (λ e. e.id) o ∙ x.id) (ap (λ e. e.question) o ∙ x.question) (ap (λ e. e.interpreter) o ∙ x.interpreter) (between a taken x.unmet).place in
    let rd = message_reads a c.args.self.now c.args.session.now before c.args.made.now.items taken c.args.octets.items c.in_ok-message.message c.checked.new.self.sequence c.read.new.self.interpreter c.in_ok-updates.updates x ck tests in
    let updater : c.read.new.self.updater ≡ c.args.self.now.updater = ap (λ e. e.updater) r ∙ ap (λ e. e.updater) o in
    let ahead = subst (λ u. Ahead a.base before u c.args.session.now c.args.made.now.items cl.progress) (sym updater) x.ahead in
    let d = updates_done a c.apply_all.new.session before c.apply_all.new.made.items taken c.args.octets.items c.read.new.self.interpreter c.in_ok-updates.updates c.apply_all.new.updater rd (rw c.in_default.is at c.apply_all.ensures.takes a.base before cl.progress ahead) in
    text_goes_on a c.args.self.now c.args.session.now c.apply_all.new.session before c.args.made.now.items c.apply_all.new.made.items taken c.args.octets.items c.in_ok-message.message
    (record c.read.new.self { updater = c.apply_all.new.updater }) c.in_ok-updates.updates
    x (subst (λ q. ChecksReply a taken c.args.octets.items c.in_ok-message.message q) (sym (ap (λ e. e.sequence) r)) ck) rd d
    (sym c.is_finished.ensures ∙ c.if-is_finished.false) (ap (λ e. e.id) r ∙ ap (λ e. e.id) o) (ap (λ e. e.question) r ∙ ap (λ e. e.question) o) (ap (λ e. e.serial) r ∙ ap (λ e. e.serial) o)

pub returns-in-Err-clause-keeps : goal.returns-in-Err-clause-keeps
returns-in-Err-clause-keeps g c h = absurd (settled_ends (first_serial c.read.new.self.interpreter.place) c.read.new.self.serial c.in-Err.error (sym c.settle.ensures ∙ h))

pub returns-clause-keeps : goal.returns-clause-keeps
returns-clause-keeps g c h = rw c.in_default.is at c.apply_all.ensures.keeps

pub returns-in_err-message-clause-room : goal.returns-in_err-message-clause-room
returns-in_err-message-clause-room g c a taken before at x =
    let p = err_from_is_err_and c.from_residual.result c.from_residual.ensures.1 in
    subst (λ r. ReplyKeepsRoom c.args.most a c.args.session.now before c.args.made.now.items taken c.args.octets.items r) (sym p.1)
    (none_done c.args.most a c.args.self.now c.args.session.now before c.args.made.now.items taken c.args.octets.items x)

pub returns-in_err-updates-clause-room : goal.returns-in_err-updates-clause-room
returns-in_err-updates-clause-room g c a taken before at x =
    let p = err_from_is_err_and c.from_residual-in_err-updates.result c.from_residual-in_err-updates.ensures.1 in
    subst (λ r. ReplyKeepsRoom c.args.most a c.args.session.now before c.args.made.now.items taken c.args.octets.items r) (sym p.1)
    (none_done c.args.most a c.args.self.now c.args.session.now before c.args.made.now.items taken c.args.octets.items x)

pub returns-in-Err-clause-room : goal.returns-in-Err-clause-room
returns-in-Err-clause-room g c a taken before at x =
    let cl = client_so_far a taken in
    let o = c.checked.ensures.others in
    let r = c.read.ensures.others in
    let ck = c.in_ok-message.ensures.answers a taken at x.key x.sequence in
    let tests = c.in_ok-updates.ensures.tests a cl.begun cl.place (ap (λ e. e.id) o ∙ x.id) (ap (λ e. e.question) o ∙ x.question) (ap (λ e. e.interpreter) o ∙ x.interpreter) (between a taken x.unmet).place in
    let rd = message_reads a c.args.self.now c.args.session.now before c.args.made.now.items taken c.args.octets.items c.in_ok-message.message c.checked.new.self.sequence c.read.new.self.interpreter c.in_ok-updates.updates x ck tests in
    let updater : c.read.new.self.updater ≡ c.args.self.now.updater = ap (λ e. e.updater) r ∙ ap (λ e. e.updater) o in
    let ahead = subst (λ u. Ahead a.base before u c.args.session.now c.args.made.now.items cl.progress) (sym updater) x.ahead in
    rw c.settle.ensures (reply_stops c.args.most a c.apply_all.new.session before c.apply_all.new.made.items taken c.args.octets.items c.in_ok-updates.updates.run (first_serial c.read.new.self.interpreter.place) c.read.new.self.serial c.in-Err.error
    rd.run (rw c.in-Err.is at c.apply_all.ensures.room a.base before cl.progress ahead))

pub returns-then-is_finished-clause-room : goal.returns-then-is_finished-clause-room
returns-then-is_finished-clause-room g c a taken before at x =
    let cl = client_so_far a taken in
    let o = c.checked.ensures.others in
    let r = c.read.ensures.others in
    let ck = c.in_ok-message.ensures.answers a taken at x.key x.sequence in
    let tests = c.in_ok-updates.ensures.tests a cl.begun cl.place (ap (λ e. e.id) o ∙ x.id) (ap (λ e. e.question) o ∙ x.question) (ap (λ e. e.interpreter) o ∙ x.interpreter) (between a taken x.unmet).place in
    let rd = message_reads a c.args.self.now c.args.session.now before c.args.made.now.items taken c.args.octets.items c.in_ok-message.message c.checked.new.self.sequence c.read.new.self.interpreter c.in_ok-updates.updates x ck tests in
    let updater : c.read.new.self.updater ≡ c.args.self.now.updater = ap (λ e. e.updater) r ∙ ap (λ e. e.updater) o in
    let ahead = subst (λ u. Ahead a.base before u c.args.session.now c.args.made.now.items cl.progress) (sym updater) x.ahead in
    reply_done c.args.most a c.apply_all.new.session before c.apply_all.new.made.items taken c.in_ok-updates.updates.run c.args.octets.items rd.run (rw c.in_default.is at c.apply_all.ensures.room a.base before cl.progress ahead)

pub returns-clause-room : goal.returns-clause-room
returns-clause-room g c a taken before at x =
    let cl = client_so_far a taken in
    let o = c.checked.ensures.others in
    let r = c.read.ensures.others in
    let ck = c.in_ok-message.ensures.answers a taken at x.key x.sequence in
    let tests = c.in_ok-updates.ensures.tests a cl.begun cl.place (ap (λ e. e.id) o ∙ x.id) (ap (λ e. e.question) o ∙ x.question) (ap (λ e. e.interpreter) o ∙ x.interpreter) (between a taken x.unmet).place in
    let rd = message_reads a c.args.self.now c.args.session.now before c.args.made.now.items taken c.args.octets.items c.in_ok-message.message c.checked.new.self.sequence c.read.new.self.interpreter c.in_ok-updates.updates x ck tests in
    let updater : c.read.new.self.updater ≡ c.args.self.now.updater = ap (λ e. e.updater) r ∙ ap (λ e. e.updater) o in
    let ahead = subst (λ u. Ahead a.base before u c.args.session.now c.args.made.now.items cl.progress) (sym updater) x.ahead in
    reply_done c.args.most a c.apply_all.new.session before c.apply_all.new.made.items taken c.in_ok-updates.updates.run c.args.octets.items rd.run (rw c.in_default.is at c.apply_all.ensures.room a.base before cl.progress ahead)

pub returns-in-Err-clause-full : goal.returns-in-Err-clause-full
returns-in-Err-clause-full g c low raised =
    c.settle.ensures ∙ ap (settled (first_serial c.read.new.self.interpreter.place) c.read.new.self.serial) (sync_same c.in-Err.error (sym c.in-Err.is ∙ c.apply_all.ensures.full low raised))

pub returns-in-Err-clause-stops : goal.returns-in-Err-clause-stops
returns-in-Err-clause-stops g c a taken before at x low out =
    let cl = client_so_far a taken in
    let o = c.checked.ensures.others in
    let r = c.read.ensures.others in
    let ck = c.in_ok-message.ensures.answers a taken at x.key x.sequence in
    let tests = c.in_ok-updates.ensures.tests a cl.begun cl.place (ap (λ e. e.id) o ∙ x.id) (ap (λ e. e.question) o ∙ x.question) (ap (λ e. e.interpreter) o ∙ x.interpreter) (between a taken x.unmet).place in
    let rd = message_reads a c.args.self.now c.args.session.now before c.args.made.now.items taken c.args.octets.items c.in_ok-message.message c.checked.new.self.sequence c.read.new.self.interpreter c.in_ok-updates.updates x ck tests in
    let updater : c.read.new.self.updater ≡ c.args.self.now.updater = ap (λ e. e.updater) r ∙ ap (λ e. e.updater) o in
    let ahead = subst (λ u. Ahead a.base before u c.args.session.now c.args.made.now.items cl.progress) (sym updater) x.ahead in
    let none = settled_memory (first_serial c.read.new.self.interpreter.place) c.read.new.self.serial c.in-Err.error (sym c.settle.ensures ∙ out) in
    reply_stops_at c.args.most a c.apply_all.new.session before c.apply_all.new.made.items taken c.in_ok-updates.updates.run c.args.octets.items c.apply_all.new.full rd.run
    (c.apply_all.ensures.stops a.base before cl.progress ahead low (c.in-Err.is ∙ ap Err none))

pub returns-in_err-message-clause-stops : goal.returns-in_err-message-clause-stops
returns-in_err-message-clause-stops g c a taken before at x low out =
    let p = err_from_is_err_and c.from_residual.result c.from_residual.ensures.1 in
    absurd (not_checked a taken c.args.octets.items c.checked.new.self.sequence c.in_err-message.field-0.0 (c.in_err-message.ensures.answers a taken at x.key x.sequence) (told_memory c.from_residual.result c.in_err-message.field-0.0 p.0 p.1 p.2 out))

pub returns-in_err-updates-clause-stops : goal.returns-in_err-updates-clause-stops
returns-in_err-updates-clause-stops g c a taken before at x low out =
    let cl = client_so_far a taken in
    let o = c.checked.ensures.others in
    let tests = c.in_err-updates.ensures.tests a cl.begun cl.place (ap (λ e. e.id) o ∙ x.id) (ap (λ e. e.question) o ∙ x.question) (ap (λ e. e.interpreter) o ∙ x.interpreter) (between a taken x.unmet).place in
    let p = err_from_is_err_and c.from_residual-in_err-updates.result c.from_residual-in_err-updates.ensures.1 in
    absurd (not_tested a cl.begun cl.place (message_so_far c.in_ok-message.message) c.read.new.self.interpreter c.in_err-updates.field-0.0 tests (told_memory c.from_residual-in_err-updates.result c.in_err-updates.field-0.0 p.0 p.1 p.2 out))

pub returns-in_err-message-clause-history : goal.returns-in_err-message-clause-history
returns-in_err-message-clause-history g c = grows_still c.args.session.now c.args.session.now c.args.made.now.items c.args.made.now.items refl refl

pub returns-in_err-updates-clause-history : goal.returns-in_err-updates-clause-history
returns-in_err-updates-clause-history g c = grows_still c.args.session.now c.args.session.now c.args.made.now.items c.args.made.now.items refl refl

pub returns-in-Err-clause-history : goal.returns-in-Err-clause-history
returns-in-Err-clause-history g c = c.apply_all.ensures.history

pub returns-then-is_finished-clause-history : goal.returns-then-is_finished-clause-history
returns-then-is_finished-clause-history g c = c.apply_all.ensures.history

pub returns-clause-history : goal.returns-clause-history
returns-clause-history g c = c.apply_all.ensures.history
