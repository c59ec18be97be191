-- The line that names the first bad line of a script.
use Rattle.std.specs.Prelude.{◌≡◌, ℕ, List, [], ◌∷◌, ◌++◌, codes, decimal, Option, IfSome, Err}
use Rattle.zone_script.specs.Script.{script_of}
use Rattle.zone_script.specs.ScriptReaders.{wire_readers}

-- a line of the script is refused
abbrev pub bad_line : ℕ → List ℕ
bad_line n = codes "line " ++ decimal n ++ 10 ∷ []

-- what the source had is no script, and octets name its first bad line
pub record NamesLine (left : Option (List ℕ)) (octets : List ℕ) : Type 0 where
  pub text : List ℕ
  pub whole : IfSome left (λ had. text ≡ had)
  pub number : ℕ
  pub bad : script_of wire_readers text ≡ Err number
  pub is : octets ≡ bad_line number
