-- Stores of keys (RFC 8945, 5.2.1).
use Rattle.std.specs.Prelude.{◌≡◌, List, Option, Some, None, ◌&&◌, if◌then◌else◌, Bool, true, false}
use Rattle.std.specs.Map.{lookup}
use Rattle.std.specs.Option.{option_and_then}
use Rattle.dns_name.specs.Names.{Name, fold, labels_eq}
use Rattle.tsig_keys.specs.TsigKeys.{TsigKey}
use Rattle.tsig_keys.specs.declared.algorithms.Algorithm.{Algorithm}
use Rattle.tsig_keys.specs.declared.algorithms.Algorithm.TheVariants.{Sha1, Sha256, Sha384, Sha512}

-- whether two algorithms are one
abbrev pub same_algorithm : Algorithm → Algorithm → Bool
same_algorithm Sha1 Sha1 = true
same_algorithm Sha256 Sha256 = true
same_algorithm Sha384 Sha384 = true
same_algorithm Sha512 Sha512 = true
same_algorithm _ _ = false

-- the store that knows one key
abbrev pub own_key : TsigKey → Name → Algorithm → Option TsigKey
own_key key name algorithm = if same_algorithm algorithm key.algorithm && labels_eq name (fold key.name) then Some key else None

-- the key has this name, in lower case, and algorithm
abbrev pub HasNameAnd : TsigKey → Name → Algorithm → Type 0
HasNameAnd key name algorithm = (fold key.name ≡ name) × (key.algorithm ≡ algorithm)

-- the store that knows the keys of a map, each under its own name, in any case, and algorithm
abbrev pub map_key : List ((Name × Algorithm) × TsigKey) → Name → Algorithm → Option TsigKey
map_key entries name algorithm =
    option_and_then (λ key. own_key key name algorithm) (lookup (λ k. labels_eq name (fold k.0) && same_algorithm algorithm k.1) entries)
