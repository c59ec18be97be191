-- HMAC (RFC 2104) over the digests of TSIG's algorithms (RFC 8945, 6).
use Rattle.std.specs.Prelude.{ℕ, ◌-◌, nat_lt, List, ◌++◌, length, map, replicate, bit_xor, if◌then◌else◌}
use Rattle.sha1.specs.Sha1.{sha1}
use Rattle.sha2.specs.Sha256.{sha256}
use Rattle.sha2.specs.Sha512.{sha384, sha512}
use Rattle.tsig_keys.specs.declared.algorithms.Algorithm.{Algorithm}
use Rattle.tsig_keys.specs.declared.algorithms.Algorithm.TheVariants.{Sha1, Sha256, Sha384, Sha512}

-- the digest of the algorithm (FIPS 180-4)
abbrev pub digest : Algorithm → List ℕ → List ℕ
digest Sha1 message = sha1 message
digest Sha256 message = sha256 message
digest Sha384 message = sha384 message
digest Sha512 message = sha512 message

-- B, the octets in a block of the digest (RFC 2104, 2; FIPS 180-4, 1)
abbrev pub block_len : Algorithm → ℕ
block_len Sha1 = 64
block_len Sha256 = 64
block_len Sha384 = 128
block_len Sha512 = 128

-- L, the octets of the digest, which is a whole MAC (RFC 2104, 2; RFC 8945, 6)
abbrev pub native_len : Algorithm → ℕ
native_len Sha1 = 20
native_len Sha256 = 32
native_len Sha384 = 48
native_len Sha512 = 64

-- K, or its digest where K is longer than a block (RFC 2104, 2)
abbrev pub short_key : Algorithm → List ℕ → List ℕ
short_key algorithm key = if nat_lt (block_len algorithm) (length key) then digest algorithm key else key

-- the key filled up with zeros to a block (RFC 2104, 2)
abbrev pub block_key : Algorithm → List ℕ → List ℕ
block_key algorithm key = short_key algorithm key ++ replicate (block_len algorithm - length (short_key algorithm key)) 0

-- the block of the key, each octet XOR the same one (RFC 2104, 2)
abbrev pub pad : ℕ → Algorithm → List ℕ → List ℕ
pad octet algorithm key = map (λ k. bit_xor k octet) (block_key algorithm key)

-- H(K XOR opad, H(K XOR ipad, text)) (RFC 2104, 2)
unfoldable pub hmac : Algorithm → List ℕ → List ℕ → List ℕ
hmac algorithm key text = digest algorithm (pad 0x5c algorithm key ++ digest algorithm (pad 0x36 algorithm key ++ text))
