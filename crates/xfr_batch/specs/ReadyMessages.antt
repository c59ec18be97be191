-- What the callbacks of a transfer keep.
use Rattle.std.specs.Prelude.{ℕ, Bool, List, [], Option}
use Rattle.dns_wire.specs.Wire.{Building}

-- the messages that are ready, and the limits: octets and records of each message, and whether one message is all that may be sent
pub record Kept : Type 0 where
  pub ready : List Building
  pub soft_byte_limit : Option ℕ
  pub hard_rr_limit : Option ℕ
  pub must_fit : Bool

-- no message, and these limits
abbrev pub none_ready : Option ℕ → Option ℕ → Bool → Kept
none_ready soft_byte_limit hard_rr_limit must_fit = record { ready = []; soft_byte_limit = soft_byte_limit; hard_rr_limit = hard_rr_limit; must_fit = must_fit }
