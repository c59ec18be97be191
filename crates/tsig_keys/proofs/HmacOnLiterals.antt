-- Named on a line `unfolding hmac_on_literals`, this opens all that a MAC of literals computes with.
use Rattle.sha1.specs.Sha1 as S1
use Rattle.sha2.specs.Sha256 as S256
use Rattle.sha2.specs.Sha512 as S512
use Rattle.tsig_keys.specs.Hmac.{hmac}

unfoldable pub hmac_on_literals : Unit {0}
unfolding S1.sha1 S1.digest_bytes S1.hash_after S1.compress S1.rounds S1.schedule S1.first_words S256.sha256 S256.digest_bytes S256.hash_after S256.compress S256.rounds S256.schedule S256.first_words S512.sha384 S512.sha512 S512.digest_bytes S512.hash_after S512.compress S512.rounds S512.schedule S512.first_words hmac
hmac_on_literals = tt
