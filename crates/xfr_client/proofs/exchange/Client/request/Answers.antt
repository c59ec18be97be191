use Rattle.std.proofs.Common.{◌≡◌, [], ◌%◌, ◌^◌, ◌<◌, length, refl, ap, ◌∙◌, subst, arith}
use Rattle.std.proofs.lemmas.Result.{err_from_is_err_and}
use Rattle.zone_model.specs.Commits.{Commit}
use Rattle.xfr_outcomes.specs.Modes.{mode_of}
use Rattle.dns_wire.specs.Wire.{message_wire}
use Rattle.xfr_client.specs.SoFar.{asking, authority_of, asked_octets}
use Rattle.xfr_client.specs.Standing.{asking_of}
use Rattle.xfr_client.proofs.Requests.{question_is, built_is, soa_there, soa_lacks, forms_there, asked_is, too_long_signed, sign_refused, sign_added, same_mac, begins}
use Rattle.tsig_port.specs.States.{ClientStands}
use Rattle.xfr_client.proofs.exchange.Client.request.Goals as goal

pub returns-in_err-serial-clause-refused : goal.returns-in_err-serial-clause-refused
returns-in_err-serial-clause-refused c =
    let a = asking_of c.args.self.now c.args.session.now.current in
    let v = c.self.view_is in
    let zone = c.in_ok-zone.ensures.current ∙ ap (λ s. s.current) c.rollback.ensures in
    let p = err_from_is_err_and c.from_residual-in_err-serial.result c.from_residual-in_err-serial.ensures.1 in
    rw (p.1, p.2) (soa_lacks a (mode_of c.self.inside.mode) c.in_ok-zone.zone c.args.max_len c.in_err-serial.field-0.0 (ap (λ s. s.mode) v) zone c.in_err-serial.ensures)

pub returns-in_err-items-clause-refused : goal.returns-in_err-items-clause-refused
returns-in_err-items-clause-refused c =
    let a = asking_of c.args.self.now c.args.session.now.current in
    let v = c.self.view_is in
    let zone = c.in_ok-zone.ensures.current ∙ ap (λ s. s.current) c.rollback.ensures in
    let at = ap (λ s. s.at) v in
    let id = ap (λ n. n % 65536) (c.from.ensures ∙ at) in
    let question = question_is a c.in_ok-zone.zone c.question_of-question.result (mode_of c.self.inside.mode) zone (ap (λ s. s.mode) v) c.question_of-question.ensures in
    let soa = soa_there a (mode_of c.self.inside.mode) c.in_ok-zone.zone c.in_ok-serial.serial (ap (λ s. s.mode) v) zone c.in_ok-serial.ensures in
    let is = asked_is a (c.from.result % 65536) c.question_of-question.result (mode_of c.self.inside.mode) c.in_ok-zone.zone id question (ap (λ s. s.mode) v) zone in
    let p = err_from_is_err_and c.from_residual-in_err-items.result c.from_residual-in_err-items.ensures.1 in
    rw (p.1, p.2) (too_long_signed a c.args.max_len (message_wire (asking (c.from.result % 65536) c.question_of-question.result (authority_of (mode_of c.self.inside.mode) c.in_ok-zone.zone.version))) c.in_err-items.field-0.0 soa.0 is c.in_err-items.ensures.refused)

pub returns-in_err-sequence-clause-refused : goal.returns-in_err-sequence-clause-refused
returns-in_err-sequence-clause-refused c =
    let a = asking_of c.args.self.now c.args.session.now.current in
    let v = c.self.view_is in
    let zone = c.in_ok-zone.ensures.current ∙ ap (λ s. s.current) c.rollback.ensures in
    let key = c.duplicate.ensures ∙ ap (λ s. s.key) v in
    let at = ap (λ s. s.at) v in
    let id = ap (λ n. n % 65536) (c.from.ensures ∙ at) in
    let question = question_is a c.in_ok-zone.zone c.question_of-question.result (mode_of c.self.inside.mode) zone (ap (λ s. s.mode) v) c.question_of-question.ensures in
    let is = built_is a (c.from.result % 65536) c.question_of-question.result (mode_of c.self.inside.mode) c.in_ok-zone.zone c.in_ok-items.items id question (ap (λ s. s.mode) v) zone c.in_ok-items.ensures.ok in
    let soa = soa_there a (mode_of c.self.inside.mode) c.in_ok-zone.zone c.in_ok-serial.serial (ap (λ s. s.mode) v) zone c.in_ok-serial.ensures in
    let p = err_from_is_err_and c.from_residual-in_err-sequence.result c.from_residual-in_err-sequence.ensures.1 in
    rw (p.1, p.2) (sign_refused a c.duplicate.result c.in_ok-items.items c.request.new.message c.self.inside.at c.args.max_len c.in_err-sequence.field-0.0 soa.0 key is at c.in_err-sequence.ensures.signed)

pub returns-then-as_slice-max_len-clause-refused : goal.returns-then-as_slice-max_len-clause-refused
returns-then-as_slice-max_len-clause-refused c =
    let a = asking_of c.args.self.now c.args.session.now.current in
    let v = c.self.view_is in
    let zone = c.in_ok-zone.ensures.current ∙ ap (λ s. s.current) c.rollback.ensures in
    let key = c.duplicate.ensures ∙ ap (λ s. s.key) v in
    let at = ap (λ s. s.at) v in
    let id = ap (λ n. n % 65536) (c.from.ensures ∙ at) in
    let question = question_is a c.in_ok-zone.zone c.question_of-question.result (mode_of c.self.inside.mode) zone (ap (λ s. s.mode) v) c.question_of-question.ensures in
    let is = built_is a (c.from.result % 65536) c.question_of-question.result (mode_of c.self.inside.mode) c.in_ok-zone.zone c.in_ok-items.items id question (ap (λ s. s.mode) v) zone c.in_ok-items.ensures.ok in
    let soa = soa_there a (mode_of c.self.inside.mode) c.in_ok-zone.zone c.in_ok-serial.serial (ap (λ s. s.mode) v) zone c.in_ok-serial.ensures in
    let made = sign_added a c.duplicate.result c.in_ok-items.items c.request.new.message c.self.inside.at key is at c.in_ok-sequence.ensures.signed in
    let whole : c.finish-message.result ≡ asked_octets a = c.finish-message.ensures.value ∙ made in
    let size : length c.finish-message.result ≡ length (asked_octets a) = ap length whole in
    let long = c.if-as_slice-max_len.true in
    let slice = ap length c.as_slice.ensures.value in
    (soa.0, omega (arith, size, long, slice))

pub returns-clause-ok : goal.returns-clause-ok
returns-clause-ok c =
    let a = asking_of c.args.self.now c.args.session.now.current in
    let v = c.self.view_is in
    let zone = c.in_ok-zone.ensures.current ∙ ap (λ s. s.current) c.rollback.ensures in
    let key = c.duplicate.ensures ∙ ap (λ s. s.key) v in
    let at = ap (λ s. s.at) v in
    let id = ap (λ n. n % 65536) (c.from.ensures ∙ at) in
    let question = question_is a c.in_ok-zone.zone c.question_of-question.result (mode_of c.self.inside.mode) zone (ap (λ s. s.mode) v) c.question_of-question.ensures in
    let is = built_is a (c.from.result % 65536) c.question_of-question.result (mode_of c.self.inside.mode) c.in_ok-zone.zone c.in_ok-items.items id question (ap (λ s. s.mode) v) zone c.in_ok-items.ensures.ok in
    let soa = soa_there a (mode_of c.self.inside.mode) c.in_ok-zone.zone c.in_ok-serial.serial (ap (λ s. s.mode) v) zone c.in_ok-serial.ensures in
    let made = sign_added a c.duplicate.result c.in_ok-items.items c.request.new.message c.self.inside.at key is at c.in_ok-sequence.ensures.signed in
    let whole : c.finish-message.result ≡ asked_octets a = c.finish-message.ensures.value ∙ made in
    let forms = forms_there a (mode_of c.self.inside.mode) c.in_ok-zone.zone (ap (λ s. s.mode) v) zone c.in_ok-items.ensures.forms in
    let short = c.if-as_slice-max_len.false in
    let most = c.finish-message.ensures.most in
    let slice = ap length c.as_slice.ensures.value in
    let size : length c.finish-message.result ≡ length (asked_octets a) = ap length whole in
    (whole, record { soa = soa.0; fits = omega (arith, short, most, slice, size); forms = forms })

pub returns-clause-begun : goal.returns-clause-begun
returns-clause-begun c handles =
    let a = asking_of c.args.self.now c.args.session.now.current in
    let v = c.self.view_is in
    let zone = c.in_ok-zone.ensures.current ∙ ap (λ s. s.current) c.rollback.ensures in
    let key = c.duplicate.ensures ∙ ap (λ s. s.key) v in
    let at = ap (λ s. s.at) v in
    let id = ap (λ n. n % 65536) (c.from.ensures ∙ at) in
    let question = question_is a c.in_ok-zone.zone c.question_of-question.result (mode_of c.self.inside.mode) zone (ap (λ s. s.mode) v) c.question_of-question.ensures in
    let is = built_is a (c.from.result % 65536) c.question_of-question.result (mode_of c.self.inside.mode) c.in_ok-zone.zone c.in_ok-items.items id question (ap (λ s. s.mode) v) zone c.in_ok-items.ensures.ok in
    let soa = soa_there a (mode_of c.self.inside.mode) c.in_ok-zone.zone c.in_ok-serial.serial (ap (λ s. s.mode) v) zone c.in_ok-serial.ensures in
    let stands = begins a (record { sequence = c.in_ok-sequence.sequence; id = c.from.result % 65536; question = c.question_of-question.result; serial = c.in_ok-serial.serial; interpreter = c.new.result; updater = c.new-2.result }) c.handle.new.self handles
    (c.in_ok-sequence.ensures.begun.0 ∙ key) (subst (λ m. ClientStands (λ k. k) c.in_ok-sequence.sequence m []) (same_mac a c.duplicate.result c.in_ok-items.items c.self.inside.at key is at) c.in_ok-sequence.ensures.begun.1) id question soa.1 c.new.ensures c.new-2.ensures
    (ap (λ s. s.current) c.handle.ensures.same ∙ ap (λ s. s.current) c.rollback.ensures) (ap (λ s. s.pending) c.handle.ensures.same ∙ ap (λ s. s.pending) c.rollback.ensures) (subst (λ (z : Commit). z.number < 2 ^ 64) zone (omega (arith, c.version_number-number.ensures, c.version_number-number.type_inv))) in
    record {
      asks = ap (λ s. asking_of s a.base) v;
      exchange = record { sequence = c.in_ok-sequence.sequence; id = c.from.result % 65536; question = c.question_of-question.result; serial = c.in_ok-serial.serial; interpreter = c.new.result; updater = c.new-2.result };
      under_way = refl;
      stands = stands;
    }
