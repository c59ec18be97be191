-- What a MAC under way has taken.
use Rattle.std.specs.Prelude.{◌≡◌, ℕ, List, ◌++◌}
use Rattle.sha1.specs.Sha1 as S1
use Rattle.sha2.specs.Hashers.{Holds256, Holds384, Holds512}
use Rattle.tsig_keys.specs.Hmac.{pad}
use Rattle.tsig_keys.specs.declared.algorithms.Algorithm.{Algorithm}
use Rattle.tsig_keys.specs.declared.algorithms.Algorithm.TheVariants as algorithms
use Rattle.tsig_keys.specs.declared.digests.Hasher.{Hasher}
use Rattle.tsig_keys.specs.declared.digests.Hasher.TheVariants.{Sha1, Sha256, Sha384, Sha512}
use Rattle.tsig_keys.specs.declared.digests.Hmac.{Hmac}

-- the hasher is of the algorithm and has taken the octets
abbrev pub HoldsHash : Hasher → Algorithm → List ℕ → Type 0
HoldsHash (Sha1 s) algorithm octets = (algorithm ≡ algorithms.Sha1) × S1.Holds s octets
HoldsHash (Sha256 s) algorithm octets = (algorithm ≡ algorithms.Sha256) × Holds256 s octets
HoldsHash (Sha384 s) algorithm octets = (algorithm ≡ algorithms.Sha384) × Holds384 s octets
HoldsHash (Sha512 s) algorithm octets = (algorithm ≡ algorithms.Sha512) × Holds512 s octets

-- the MAC by the key has taken the text: its two digests have taken the two pads (RFC 2104, 2)
pub record HoldsHmac (h : Hmac) (algorithm : Algorithm) (key text : List ℕ) : Type 0 where
  pub inner : HoldsHash h.inner algorithm (pad 0x36 algorithm key ++ text)
  pub outer : HoldsHash h.outer algorithm (pad 0x5c algorithm key)
