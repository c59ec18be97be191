use Rattle.std.proofs.Common.{subst}
use Rattle.tsig_port.specs.States.{RefusalOf}
use Rattle.xfr_signing.proofs.ShortSignatures.{formerr_key, unsigned_key, refusing_key}
use Rattle.xfr_signing.proofs.refusing.tell_refusing_key.Goals as goal

pub returns-in-Formerr : goal.returns-in-Formerr
returns-in-Formerr g c = λ found request now of.
    formerr_key g.K.KeyRef.the_key found request now (subst (λ r. RefusalOf g.K.KeyRef.the_key found request now r) c.in-Formerr.is of)

pub returns-in-Unsigned : goal.returns-in-Unsigned
returns-in-Unsigned g c = λ found request now of.
    unsigned_key g.K.KeyRef.the_key found request now c.in-Unsigned.field-0 (subst (λ r. RefusalOf g.K.KeyRef.the_key found request now r) c.in-Unsigned.is of)

pub returns-in-BadTime : goal.returns-in-BadTime
returns-in-BadTime g c = λ found request now of.
    refusing_key g.K.KeyRef.the_key found request now c.in-BadTime.key c.in-BadTime.field-1 c.in-BadTime.field-2 c.in-BadTime.field-3 c.in-BadTime.field-4
    c.key_ref.result.now c.key_ref.ensures c.tell_short.ensures
    (subst (λ r. RefusalOf g.K.KeyRef.the_key found request now r) c.in-BadTime.is of)
