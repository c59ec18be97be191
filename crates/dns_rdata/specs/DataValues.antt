-- What data of some types hold, whatever keeps their octets.
use Rattle.std.specs.Prelude.{ℕ, List}

-- DS (RFC 4034, 5.1)
pub record DsValue : Type 0 where
  pub key_tag : ℕ
  pub algorithm : ℕ
  pub digest_type : ℕ
  pub digest : List ℕ

-- data of a type that isn't known (RFC 3597, 3)
pub record UnknownValue : Type 0 where
  pub rtype : ℕ
  pub octets : List ℕ
