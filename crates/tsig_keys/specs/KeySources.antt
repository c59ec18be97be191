-- Sources of the octets of new keys, and why no key is made of them.
use Rattle.std.specs.Prelude.{◌≡◌, ℕ, List, [], Result, Err, IsOk}
use Rattle.zone_devices.specs.Calls.{Calls}
pub use Rattle.zone_devices.specs.Calls.{Rose}
use Rattle.tsig_keys.specs.TsigKeys.{TsigKey}
use Rattle.tsig_keys.specs.declared.errors.NewKeyError.{NewKeyError}
use Rattle.tsig_keys.specs.declared.errors.NewKeyError.TheVariants as lengths
use Rattle.tsig_keys.specs.declared.errors.GenerateKeyError.{GenerateKeyError}
use Rattle.tsig_keys.specs.declared.errors.GenerateKeyError.TheVariants.{BadMinMacLen, BadSigningLen, GenerationFailed, Memory}

-- what a source in memory has left, and its calls
pub record OctetsLeft : Type 0 where
  pub left : List ℕ
  pub calls : Calls

-- the refusal of a length, as the refusal of a new key
abbrev pub length_refusal : NewKeyError → GenerateKeyError
length_refusal lengths.BadMinMacLen = BadMinMacLen
length_refusal lengths.BadSigningLen = BadSigningLen

-- Why no key is made, where `key` is the key of these lengths and no secret: a length is refused before the source is asked; else the
-- source failed, and gave nothing, or memory ran out before it was asked (RFC 8945, 5.2.2.1).
abbrev pub RefusesKey : {S : Type 0} → (S → List ℕ → S → Type 0) → (S → ℕ) → Result TsigKey NewKeyError → S → GenerateKeyError → S → Type 0
RefusesKey Gives faults key old BadMinMacLen new = (key ≡ Err lengths.BadMinMacLen) × (new ≡ old)
RefusesKey Gives faults key old BadSigningLen new = (key ≡ Err lengths.BadSigningLen) × (new ≡ old)
RefusesKey Gives faults key old GenerationFailed new = IsOk key × Gives old [] new × Rose (faults old) (faults new)
RefusesKey Gives faults key old Memory new = IsOk key × (new ≡ old)
