-- Octets and labels within a key.
use Rattle.std.proofs.Common.{◌≡◌, ℕ, ◌+◌, ◌<◌, ◌≤◌, List, [], ◌∷◌, ◌++◌, refl, ap, ◌∙◌, arith, lt-ltb, le-ltb}
use Rattle.std.specs.Prelude.{flat_map, reverse}
use Rattle.std.specs.Char.{to_ascii_lowercase}
use Rattle.std.specs.Str.{str_to_ascii_lowercase}
use Rattle.std.proofs.lemmas.Bool.Decides.{nat_tests}
use Rattle.std.proofs.lemmas.Grind.{flat_map-append}
use Rattle.std.proofs.lemmas.List.{append_assoc, append-nil, reverse-append}
use Rattle.dns_name.specs.Names.{Name, fold}
use Rattle.name_keys.specs.NameKeys.{octet_key, label_key, name_key}

pub low_octet : (c : ℕ) → c < 2 → octet_key c ≡ 1 ∷ (c + 1) ∷ []
low_octet c h = rw (lt-ltb c 2 h) refl

pub plain_octet : (c : ℕ) → 2 ≤ c → octet_key c ≡ c ∷ []
plain_octet c h = rw (le-ltb c 2 h) refl

-- an octet after the capitals stands as it is
pub behind_capitals : (c : ℕ) → 90 < c → octet_key (to_ascii_lowercase c) ≡ c ∷ []
behind_capitals c h =
    let same : to_ascii_lowercase c ≡ c = grind (arith, nat_tests) in
    ap octet_key same ∙ plain_octet c (omega (arith, h))

-- the first octet of a label, then the rest of it
pub first_octet : (c : ℕ) (label key : List ℕ) → label_key (c ∷ label) ++ key ≡ octet_key c ++ (label_key label ++ key)
first_octet c label key =
    ap (λ t. t ++ key) (append_assoc (octet_key c) (flat_map octet_key label) (0 ∷ [])) ∙ append_assoc (octet_key c) (label_key label) key

-- the first label of a name is the last of its key
pub last_label : (label : List ℕ) (name : Name) → name_key (label ∷ name) ≡ name_key name ++ label_key (str_to_ascii_lowercase label)
last_label label name =
    let folded = str_to_ascii_lowercase label in
    ap (flat_map label_key) (reverse-append (folded ∷ []) (fold name)) ∙ flat_map-append label_key (reverse (fold name)) (folded ∷ [])
    ∙ ap (λ t. name_key name ++ t) (append-nil (label_key folded))

-- ---- lower case again

lower_again : (c : ℕ) → to_ascii_lowercase (to_ascii_lowercase c) ≡ to_ascii_lowercase c
lower_again c = grind (arith, nat_tests)

pub label_again : (label : List ℕ) → str_to_ascii_lowercase (str_to_ascii_lowercase label) ≡ str_to_ascii_lowercase label
label_again [] = refl
label_again (c ∷ label) = λ i. lower_again c i ∷ label_again label i

pub name_again : (name : Name) → fold (fold name) ≡ fold name
name_again [] = refl
name_again (label ∷ name) = λ i. label_again label i ∷ name_again name i

pub key_of_folded : (name : Name) → name_key (fold name) ≡ name_key name
key_of_folded name = ap (λ n. flat_map label_key (reverse n)) (name_again name)
