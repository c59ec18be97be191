-- The names of RFC 4034, 6.1, in the order in which it lists them, and their keys.
use Rattle.std.specs.Prelude.{ℕ, Bool, true, ◌&&◌, List, [], ◌∷◌, ◌++◌, codes}
use Rattle.std.specs.Ordering.{nat_cmp, is_lt}
use Rattle.std.specs.Cmp.Lexicographic.{slice_cmp}
use Rattle.dns_name.specs.Names.{Name}

abbrev pub rfc_names : List Name
rfc_names =
    (codes "example" ∷ [])
    ∷ (codes "a" ∷ codes "example" ∷ [])
    ∷ (codes "yljkjljk" ∷ codes "a" ∷ codes "example" ∷ [])
    ∷ (codes "Z" ∷ codes "a" ∷ codes "example" ∷ [])
    ∷ (codes "zABC" ∷ codes "a" ∷ codes "EXAMPLE" ∷ [])
    ∷ (codes "z" ∷ codes "example" ∷ [])
    ∷ ((1 ∷ []) ∷ codes "z" ∷ codes "example" ∷ [])
    ∷ (codes "*" ∷ codes "z" ∷ codes "example" ∷ [])
    ∷ ((200 ∷ []) ∷ codes "z" ∷ codes "example" ∷ [])
    ∷ []

abbrev pub rfc_keys : List (List ℕ)
rfc_keys =
    codes "example\0"
    ∷ codes "example\0a\0"
    ∷ codes "example\0a\0yljkjljk\0"
    ∷ codes "example\0a\0z\0"
    ∷ codes "example\0a\0zabc\0"
    ∷ codes "example\0z\0"
    ∷ (codes "example\0z\0" ++ 1 ∷ 2 ∷ 0 ∷ [])
    ∷ codes "example\0z\0*\0"
    ∷ (codes "example\0z\0" ++ 200 ∷ 0 ∷ [])
    ∷ []

-- each string of octets is before the next one
abbrev pub are_rising : List (List ℕ) → Bool
are_rising [] = true
are_rising (a ∷ []) = true
are_rising (a ∷ b ∷ keys) = is_lt (slice_cmp nat_cmp a b) && are_rising (b ∷ keys)
