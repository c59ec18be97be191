use Rattle.std.proofs.Common.{refl}
use Rattle.tsig_keys.proofs.HmacOnLiterals.{hmac_on_literals}
use Rattle.tsig_keys.proofs.examples.hmac_vectors.Goals as goal

pub returns-clause-sha1 : goal.returns-clause-sha1
unfolding hmac_on_literals
returns-clause-sha1 c = refl

pub returns-clause-sha256 : goal.returns-clause-sha256
unfolding hmac_on_literals
returns-clause-sha256 c = refl

pub returns-clause-sha384 : goal.returns-clause-sha384
unfolding hmac_on_literals
returns-clause-sha384 c = refl

pub returns-clause-sha512 : goal.returns-clause-sha512
unfolding hmac_on_literals
returns-clause-sha512 c = refl
