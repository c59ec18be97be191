-- Names as strings of octets whose order, octet by octet, is canonical order (RFC 4034, 6.1; RFC 4343, 3).
use Rattle.std.specs.Prelude.{◌≡◌, ℕ, zero, suc, ◌+◌, ◌-◌, nat_lt, List, [], ◌∷◌, ◌++◌, length, false, take, reverse, map, flat_map, IsTrue, if◌then◌else◌}
use Rattle.std.specs.Ordering.{nat_cmp, is_gt}
use Rattle.std.specs.declared.cmp.Ordering.TheVariants.{Less}
use Rattle.std.specs.Cmp.Lexicographic.{slice_cmp}
use Rattle.dns_name.specs.Names.{Name, fold, is_name}

-- an octet of a label within a key: 0 as 1 1 and 1 as 1 2, so that 0 is free to end a label, and any other as itself
abbrev pub octet_key : ℕ → List ℕ
octet_key c = if nat_lt c 2 then 1 ∷ (c + 1) ∷ [] else c ∷ []

-- a label within a key: its octets, then a 0
abbrev pub label_key : List ℕ → List ℕ
label_key label = flat_map octet_key label ++ 0 ∷ []

-- the key of a name: its labels in lower case, from the right, without the root label
abbrev pub name_key : Name → List ℕ
name_key name = flat_map label_key (reverse (fold name))

-- ---- reading back

-- an octet goes before those of the first piece
abbrev pub with_octet : ℕ → List (List ℕ) → List (List ℕ)
with_octet c [] = (c ∷ []) ∷ []
with_octet c (piece ∷ pieces) = (c ∷ piece) ∷ pieces

-- the pieces of a key, each ended by a 0
abbrev pub pieces : List ℕ → List (List ℕ)
pieces [] = []
pieces (zero ∷ key) = [] ∷ pieces key
pieces (c ∷ key) = with_octet c (pieces key)

-- the octets of the label that a piece spells: 1 stands before an octet that is written one higher
abbrev pub label_of : List ℕ → List ℕ
label_of [] = []
label_of (suc zero ∷ c ∷ piece) = (c - 1) ∷ label_of piece
label_of (c ∷ piece) = c ∷ label_of piece

-- the name, in lower case, that a key spells
abbrev pub name_of_key : List ℕ → Name
name_of_key key = reverse (map label_of (pieces key))

-- ---- keys

-- octets are the key of a name that has a wire form
abbrev pub IsNameKey : List ℕ → Type 0
IsNameKey octets = (name : Name) × IsTrue (is_name name) × (name_key name ≡ octets)

-- the first string after all that begin with these octets, of which the last is a 0: a 1 in its place
abbrev pub key_end : List ℕ → List ℕ
key_end octets = take (length octets - 1) octets ++ 1 ∷ []

-- what a map's range holds from a key on, included, up to its end, excluded
abbrev pub IsInKeyRange : List ℕ → List ℕ → Type 0
IsInKeyRange key s = (is_gt (slice_cmp nat_cmp key s) ≡ false) × (slice_cmp nat_cmp s (key_end key) ≡ Less)
