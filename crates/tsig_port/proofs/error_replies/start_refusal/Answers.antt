use Rattle.std.proofs.Common.{◌≡◌, ◌-◌, min, Err, ap, ◌∙◌, subst, arith}
use Rattle.dns_wire.specs.Wire.{Building}
use Rattle.dns_wire.specs.Builds.{Builds}
use Rattle.tsig_port.proofs.ErrorReplies.{refusal_of, tsig_too_long, whole_refused}
use Rattle.tsig_port.proofs.error_replies.start_refusal.Goals as goal

pub returns-then-most-room : goal.returns-then-most-room
returns-then-most-room c = λ item long.
    tsig_too_long c.args.request.now item c.args.message.limit c.args.room long (omega (arith, c.if-most-room.true, c.min-most.ensures, c.push_limit-limit.ensures))

pub returns-in-Err : goal.returns-in-Err
returns-in-Err c = λ item long.
    let most = c.min-most.ensures ∙ ap (λ n. min n 65535) c.push_limit-limit.ensures in
    let lower : c.set_push_limit.new.self.limit ≡ min c.args.message.limit 65535 - c.args.room =
    ap (λ (b : Building). b.limit) c.set_push_limit.ensures ∙ ap (λ n. n - c.args.room) most in
    whole_refused c.args.request.now item c.args.message.limit c.args.room c.in-Err.error long (omega (arith, c.if-most-room.false, c.min-most.ensures, c.push_limit-limit.ensures))
    (subst (λ limit. Builds (refusal_of c.args.request.now) limit (Err c.in-Err.error)) lower c.in-Err.ensures)
