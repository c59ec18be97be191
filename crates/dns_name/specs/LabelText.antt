-- A label as text (RFC 1035, 5.1).
use Rattle.std.specs.Prelude.{ℕ, ◌+◌, ◌/◌, ◌%◌, ◌==◌, ◌&&◌, ◌||◌, nat_lt, List, [], ◌∷◌, if◌then◌else◌}

-- an octet of a label in text: space, dot and backslash after a backslash, and what doesn't print as three digits (RFC 1035, 5.1)
abbrev pub octet_text : ℕ → List ℕ
octet_text c =
    if c == 32 || c == 46 || c == 92 then 92 ∷ c ∷ []
    else if nat_lt 32 c && nat_lt c 127 then c ∷ []
    else 92 ∷ (48 + c / 100) ∷ (48 + c / 10 % 10) ∷ (48 + c % 10) ∷ []
