use Rattle.std.proofs.Common.{◌+◌, ap, ◌∙◌, sym}
use Rattle.tsig_port.proofs.ErrorReplies.{badtime_length}
use Rattle.tsig_port.proofs.error_replies.badtime_len.Goals as goal

pub returns : goal.returns
returns c = λ request_mac message time_signed fudge now.
    badtime_length c.args.key.now request_mac message time_signed fudge now c.signing_len.ensures.bounds ∙ ap (λ n. n + 6) (sym (c.from.ensures ∙ c.compose_len.ensures))
