-- The text of a name that begins with a label.
use Rattle.std.proofs.Common.{◌≡◌, ℕ, List, [], ◌∷◌, ◌++◌, map, sym, ap, ◌∙◌, append_assoc}
use Rattle.std.specs.Prelude.{flat_map}
use Rattle.std.specs.List.{join_with_byte}
use Rattle.std.proofs.lemmas.List.{append-nil}
use Rattle.dns_name.specs.LabelText.{octet_text}
use Rattle.dns_name.specs.Names.{Name, name_text}
use Rattle.dns_name.specs.Text.{rest_text}

joined : (x : List ℕ) (n : Name) → join_with_byte 46 (x ∷ map (flat_map octet_text) n) ≡ x ++ rest_text n
joined x [] = sym (append-nil x)
joined x (l ∷ n) = ap (λ r. x ++ 46 ∷ r) (joined (flat_map octet_text l) n)

pub first_text : (self : Name) (l : List ℕ) (rest : Name) → self ≡ l ∷ rest → flat_map octet_text l ++ rest_text rest ≡ name_text self
first_text self l rest e = sym (joined (flat_map octet_text l) rest) ∙ ap name_text (sym e)

pub next_text : (text : List ℕ) (rest : Name) (l : List ℕ) (tail : Name) (all : List ℕ) → rest ≡ l ∷ tail → text ++ rest_text rest ≡ all
    → (text ++ 46 ∷ flat_map octet_text l) ++ rest_text tail ≡ all
next_text text rest l tail all e h = append_assoc text (46 ∷ flat_map octet_text l) (rest_text tail) ∙ ap (λ r. text ++ rest_text r) (sym e) ∙ h
