-- What the words of `zone_peer` after `secondary` ask for: a kind of transfer, a script's file, and how much is read at most (docs/SCRIPT.md).
use Rattle.std.specs.Prelude.{ℕ, ◌^◌, Bool, true, false, if◌then◌else◌, List, [], ◌∷◌, Option, Some, None, codes, bytes_eq}
use Rattle.dns_name.specs.Octets.{◌>>=◌}
use Rattle.zone_model.specs.TransferText.{Mode, Axfr, Ixfr}
use Rattle.zone_script.specs.ScriptLines.{number_below}
use Rattle.xfr_services.specs.declared.modes.XfrMode.{XfrMode}
use Rattle.xfr_outcomes.specs.Modes.{mode_of}
use Rattle.zone_asking.specs.declared.limits.Limits.{Limits}

pub record Wish : Type 0 where
  pub mode : Mode
  pub limits : Limits

abbrev pub wished : XfrMode × Limits → Wish
wished w = record { mode = mode_of w.0; limits = w.1 }

-- ---- limits: a name and a number each, in any order, each name once at most

abbrev pub is_limit : List ℕ → Bool
is_limit word =
    if bytes_eq word (codes "replies") then true
    else if bytes_eq word (codes "octets") then true
    else if bytes_eq word (codes "records") then true
    else bytes_eq word (codes "set-records")

-- words are names of limits with a word behind each
abbrev pub are_limits : List (List ℕ) → Bool
are_limits [] = true
are_limits (name ∷ []) = false
are_limits (name ∷ digits ∷ more) = if is_limit name then are_limits more else false

-- one of them has this name
abbrev pub has_limit : List ℕ → List (List ℕ) → Bool
has_limit name [] = false
has_limit name (word ∷ []) = false
has_limit name (word ∷ digits ∷ more) = if bytes_eq word name then true else has_limit name more

-- the number, below a bound, behind the only one that has this name; where none has it, the usual number
abbrev pub limit_named : List ℕ → ℕ → ℕ → List (List ℕ) → Option ℕ
limit_named name bound usual [] = Some usual
limit_named name bound usual (word ∷ []) = Some usual
limit_named name bound usual (word ∷ digits ∷ more) =
    if bytes_eq word name then (if has_limit name more then None else number_below bound digits) else limit_named name bound usual more

abbrev pub limits_by : ℕ → ℕ → ℕ → ℕ → Limits
limits_by replies octets records set = record { replies = replies; octets = octets; records = records; set_records = Some set }

abbrev pub limits_from : Option ℕ → Option ℕ → Option ℕ → Option ℕ → Option Limits
limits_from replies octets records set = do
  a ← replies
  b ← octets
  c ← records
  d ← set
  Some (limits_by a b c d)

-- the numbers that words give them
abbrev pub numbers_of : List (List ℕ) → Option Limits
numbers_of words =
    limits_from
    (limit_named (codes "replies") (2 ^ 32) 65536 words) (limit_named (codes "octets") (2 ^ 48) 1073741824 words)
    (limit_named (codes "records") (2 ^ 48) 10000000 words) (limit_named (codes "set-records") (2 ^ 48) 100000 words)

abbrev pub limits_of : List (List ℕ) → Option Limits
limits_of words = if are_limits words then numbers_of words else None

-- ---- all words: a kind of transfer, a file's name, limits

abbrev pub mode_named : List ℕ → Option Mode
mode_named word = if bytes_eq word (codes "axfr") then Some Axfr else if bytes_eq word (codes "ixfr") then Some Ixfr else None

abbrev pub wish_from : Option Mode → Option Limits → Option Wish
wish_from mode limits = do
  m ← mode
  l ← limits
  Some (record { mode = m; limits = l })

abbrev pub wish_of : List (List ℕ) → Option Wish
wish_of [] = None
wish_of (word ∷ []) = None
wish_of (word ∷ file ∷ more) = wish_from (mode_named word) (limits_of more)

abbrev pub file_of : List (List ℕ) → Option (List ℕ)
file_of [] = None
file_of (word ∷ []) = None
file_of (word ∷ file ∷ more) = Some file
