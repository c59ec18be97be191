use Rattle.std.proofs.Common.{◌<◌, length, ap, ◌∙◌, subst}
use Rattle.dns_name.specs.Names.{name_wire}
use Rattle.xfr_signing.proofs.ShortSignatures.{key_short}
use Rattle.xfr_signing.proofs.refusing.tell_short.Goals as goal

pub returns : goal.returns
returns c =
    let named = subst (λ n. n < 256) (c.compose_len-name.ensures.len ∙ ap (λ n. length (name_wire n)) c.name.ensures) c.compose_len-name.ensures.bound in
    key_short c.args.key.now named c.signing_len-mac.ensures.bounds
