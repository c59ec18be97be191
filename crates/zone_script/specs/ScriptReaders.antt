-- How the program's script reads names, records and keys: whole octets, without pointers.
use Rattle.std.specs.Prelude.{ℕ, List, [], ◌∷◌, Option, Some, None, option_map, option_and_then, codes, bytes_eq, if◌then◌else◌}
use Rattle.std.specs.Result.{result_ok}
use Rattle.dns_name.specs.Octets.{◌>>=◌}
use Rattle.dns_name.specs.Compression.{name_in}
use Rattle.dns_rdata.specs.Heads.{record_in}
use Rattle.tsig_keys.specs.declared.algorithms.Algorithm.{Algorithm}
use Rattle.tsig_keys.specs.declared.algorithms.Algorithm.TheVariants.{Sha1, Sha256, Sha384, Sha512}
use Rattle.tsig_port.specs.Tsig.{TsigKey, new_key}
use Rattle.zone_script.specs.ScriptLines.{Readers, hex_of, number_of}

-- the four names in lower case (RFC 8945, 6)
abbrev pub algorithm_word : List ℕ → Option Algorithm
algorithm_word word =
    if bytes_eq word (codes "hmac-sha1") then Some Sha1
    else if bytes_eq word (codes "hmac-sha256") then Some Sha256
    else if bytes_eq word (codes "hmac-sha384") then Some Sha384
    else if bytes_eq word (codes "hmac-sha512") then Some Sha512
    else None

-- a field, or a hyphen for none
abbrev pub or_none : {A : Type 0} → A → (List ℕ → Option A) → List ℕ → Option A
or_none none read field = if bytes_eq field (codes "-") then Some none else read field

abbrev pub length_field : List ℕ → Option (Option ℕ)
length_field field = or_none None (λ f. option_map Some (number_of f)) field

-- a key's name, algorithm, secret, length of the MACs made, and least length of those taken (RFC 8945, 1.2 and 5.2.2.1)
abbrev pub key_of : List (List ℕ) → Option TsigKey
key_of (name ∷ algorithm ∷ secret ∷ signing ∷ least ∷ []) = do
  n ← option_and_then name_in (hex_of name)
  a ← algorithm_word algorithm
  s ← or_none [] hex_of secret
  long ← length_field signing
  short ← length_field least
  result_ok (new_key a s n short long)
key_of _ = None

abbrev pub wire_readers : Readers TsigKey
wire_readers = record { name = name_in; found = record_in; key = key_of }
