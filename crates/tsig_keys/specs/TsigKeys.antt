-- TSIG's algorithms and shared keys (RFC 8945, 1.2 and 6).
use Rattle.std.specs.Prelude.{◌≡◌, ◌≢◌, ℕ, ◌+◌, ◌*◌, ◌&&◌, nat_le, Bool, List, [], ◌∷◌, ◌++◌, length, codes, Option, Some, None, Result, Ok, Err, unwrap_or, not, if◌then◌else◌, IfOk, OnErr}
use Rattle.dns_name.specs.Names.{Name, name_wire, name_text, same_name}
use Rattle.tsig_keys.specs.Hmac.{native_len, block_key}
use Rattle.tsig_keys.specs.declared.errors.AlgorithmError.{AlgorithmError}
use Rattle.tsig_keys.specs.declared.errors.NewKeyError.{NewKeyError}
use Rattle.tsig_keys.specs.declared.errors.NewKeyError.TheVariants.{BadMinMacLen, BadSigningLen}
use Rattle.tsig_keys.specs.declared.algorithms.Algorithm.{Algorithm}
use Rattle.tsig_keys.specs.declared.algorithms.Algorithm.TheVariants.{Sha1, Sha256, Sha384, Sha512}

-- the name of the algorithm (RFC 8945, 6)
abbrev pub algorithm_name : Algorithm → Name
algorithm_name Sha1 = codes "hmac-sha1" ∷ []
algorithm_name Sha256 = codes "hmac-sha256" ∷ []
algorithm_name Sha384 = codes "hmac-sha384" ∷ []
algorithm_name Sha512 = codes "hmac-sha512" ∷ []

-- the algorithm of that name, in any case (RFC 8945, 6)
abbrev pub algorithm_of : Name → Option Algorithm
algorithm_of name =
    if same_name name (algorithm_name Sha1) then Some Sha1
    else if same_name name (algorithm_name Sha256) then Some Sha256
    else if same_name name (algorithm_name Sha384) then Some Sha384
    else if same_name name (algorithm_name Sha512) then Some Sha512
    else None

-- the text of the name (RFC 8945, 6)
abbrev pub algorithm_text : Algorithm → List ℕ
algorithm_text Sha1 = codes "hmac-sha1"
algorithm_text Sha256 = codes "hmac-sha256"
algorithm_text Sha384 = codes "hmac-sha384"
algorithm_text Sha512 = codes "hmac-sha512"

-- what a text parses to: the algorithm that has it, and an error where none has
abbrev pub ParsesAlgorithm : List ℕ → Result Algorithm AlgorithmError → Type 0
ParsesAlgorithm text result = IfOk result (λ algorithm. text ≡ algorithm_text algorithm) × OnErr result ((algorithm : Algorithm) → text ≢ algorithm_text algorithm)

-- whether a MAC may be that long: 10 octets, half the whole MAC, and no more than the whole (RFC 8945, 5.2.2.1)
abbrev pub is_mac_len : Algorithm → ℕ → Bool
is_mac_len algorithm n = nat_le 10 n && nat_le (native_len algorithm) (2 * n) && nat_le n (native_len algorithm)

-- a shared key (RFC 8945, 1.2): its MACs have signing_len octets, and those taken have at least min_mac_len
pub record TsigKey : Type 0 where
  pub name : Name
  pub algorithm : Algorithm
  pub secret : List ℕ
  pub min_mac_len : ℕ
  pub signing_len : ℕ

-- the key that is made of these parts, a length that isn't given being the whole MAC's. Its secret is filled up to a block, by
-- which the MACs are the same (RFC 2104, 2)
abbrev pub new_key : Algorithm → List ℕ → Name → Option ℕ → Option ℕ → Result TsigKey NewKeyError
new_key algorithm secret name min_mac_len signing_len =
    let least = unwrap_or min_mac_len (native_len algorithm) in
    let signing = unwrap_or signing_len (native_len algorithm) in
    if not (is_mac_len algorithm least) then Err BadMinMacLen
    else if not (is_mac_len algorithm signing) then Err BadSigningLen
    else Ok (record { name = name; algorithm = algorithm; secret = block_key algorithm secret; min_mac_len = least; signing_len = signing })

-- how many octets the record of a key's TSIG takes (RFC 8945, 4.2)
abbrev pub compose_len : TsigKey → ℕ
compose_len key = length (name_wire key.name) + 10 + length (name_wire (algorithm_name key.algorithm)) + 16 + key.signing_len

-- a key as `Debug` writes it: its secret isn't told
abbrev pub key_debug : Name → Algorithm → List ℕ
key_debug name algorithm = codes "Key { name: " ++ (name_text name ++ (codes ", algorithm: " ++ (algorithm_text algorithm ++ codes ", .. }")))
