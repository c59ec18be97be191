-- The name that a key spells, written label by label.
use Rattle.std.proofs.Common.{◌≡◌, ℕ, zero, suc, ◌+◌, ◌-◌, ◌<◌, ◌≤◌, List, [], ◌∷◌, ◌++◌, length, length-append, get_or, take, drop, set, refl, sym, ap, ◌∙◌, arith, Result, Ok, Err}
use Rattle.std.specs.Prelude.{flat_map, IsTrue, OnOk, OnErr, false, ◌==◌, ◌||◌}
use Rattle.std.specs.List.{list_any}
use Rattle.std.proofs.lemmas.Bool.{true≢false, ne_eqb}
use Rattle.std.specs.Str.{str_to_ascii_lowercase}
use Rattle.std.proofs.lemmas.List.{drop_more, drop_all, take_more_set, append_assoc, drop_at, take_at}
use Rattle.dns_name.specs.Names.{Name, fold, is_name, name_wire, label_wire}
use Rattle.dns_name.proofs.WireForms.{first_wire, name_short}
use Rattle.name_keys.specs.NameKeys.{octet_key, label_key, name_key, label_of}
use Rattle.name_keys.proofs.Octets.{last_label}
use Rattle.name_keys.proofs.Reading.{label_read}

-- ---- one octet of a piece

head_plain : (c : ℕ) (piece : List ℕ) → (c ≡ 1 → ⊥) → label_of (c ∷ piece) ≡ c ∷ label_of piece
head_plain zero piece h = refl
head_plain (suc zero) [] h = refl
head_plain (suc zero) (d ∷ piece) h = absurd (h refl)
head_plain (suc (suc c)) piece h = refl

head_last : (c : ℕ) → label_of (c ∷ []) ≡ c ∷ []
head_last zero = refl
head_last (suc zero) = refl
head_last (suc (suc c)) = refl

-- a piece without a 1 spells its own octets
pub spells_itself : (piece : List ℕ) → list_any (λ c. c == 1) piece ≡ false → label_of piece ≡ piece
spells_itself [] h = refl
spells_itself (zero ∷ piece) h = ap (λ l. 0 ∷ l) (spells_itself piece h)
spells_itself (suc zero ∷ piece) h = absurd (true≢false h)
spells_itself (suc (suc c) ∷ piece) h =
    let apart : (suc (suc c) == 1) ≡ false = ne_eqb (suc (suc c)) 1 (λ e. omega (arith, e)) in
    ap (λ l. suc (suc c) ∷ l) (spells_itself piece (ap (λ b. b || list_any (λ d. d == 1) piece) (sym apart) ∙ h))

pub plain_at : (piece : List ℕ) (i : ℕ) → i < length piece → (get_or piece i 0 ≡ 1 → ⊥)
    → label_of (drop i piece) ≡ get_or piece i 0 ∷ label_of (drop (i + 1) piece)
plain_at piece i l h = ap label_of (drop_more piece i 0 l) ∙ head_plain (get_or piece i 0) (drop (i + 1) piece) h

pub last_at : (piece : List ℕ) (i : ℕ) → i < length piece → length piece ≤ i + 1
    → label_of (drop i piece) ≡ get_or piece i 0 ∷ label_of (drop (i + 1) piece)
last_at piece i l h =
    let c = get_or piece i 0 in
    let rest = drop_all (i + 1) piece h in
    ap label_of (drop_more piece i 0 l) ∙ ap (λ o. label_of (c ∷ o)) rest ∙ head_last c ∙ ap (λ o. c ∷ label_of o) (sym rest)

-- one octet more of a label
pub one_read : (label piece : List ℕ) (len at after c : ℕ) → len < length label → label_of (drop at piece) ≡ c ∷ label_of (drop after piece)
    → len + length (label_of (drop at piece)) ≡ length (label_of piece) → take len label ++ label_of (drop at piece) ≡ label_of piece
    → (len + 1 + length (label_of (drop after piece)) ≡ length (label_of piece))
    × (take (len + 1) (set label len c) ++ label_of (drop after piece) ≡ label_of piece)
one_read label piece len at after c h e long whole =
    let rest = label_of (drop after piece) in
    let one = ap length e in (
      omega (arith, long, one),
      ap (λ t. t ++ rest) (take_more_set label len c h) ∙ append_assoc (take len label) (c ∷ []) rest ∙ ap (λ t. take len label ++ t) (sym e) ∙ whole,
    )

-- ---- one label

-- a piece of a key, between the parent's key and the last 0
abbrev pub last_piece : List ℕ → List ℕ → List ℕ
last_piece key parent = take (length key - 1 - length parent) (drop (length parent) key)

pub piece_spells : (key parent label : List ℕ) (rest n : Name) → key ≡ name_key n → n ≡ label ∷ rest → fold n ≡ n → parent ≡ name_key rest
    → label_of (last_piece key parent) ≡ label
piece_spells key parent label rest n e first folded above =
    let lower : str_to_ascii_lowercase label ≡ label =
    ap (λ (m : Name). get_or (fold m) 0 []) (sym first) ∙ ap (λ (m : Name). get_or m 0 []) folded ∙ ap (λ (m : Name). get_or m 0 []) first in
    let piece = flat_map octet_key label in
    let parts : key ≡ name_key rest ++ (piece ++ 0 ∷ []) =
    e ∙ ap name_key first ∙ last_label label rest ∙ ap (λ l. name_key rest ++ label_key l) lower in
    let long = ap length parts in
    let all = length-append (name_key rest) (piece ++ 0 ∷ []) in
    let both = length-append piece (0 ∷ []) in
    let size = ap length above in
    let n = length key - 1 - length parent in
    ap (λ t. label_of (take n (drop (length parent) t))) parts
    ∙ ap (λ t. label_of (take n t)) (drop_at (name_key rest) (piece ++ 0 ∷ []) (length parent) (sym size))
    ∙ ap label_of (take_at piece (0 ∷ []) n (omega (arith, long, all, both, size))) ∙ label_read label

pub room_for_label : (wire label : List ℕ) (rest n whole : Name) → IsTrue (is_name whole) → n ≡ label ∷ rest → wire ++ name_wire n ≡ name_wire whole
    → length wire + length label < 255
room_for_label wire label rest n whole h first e =
    let long = ap length e in
    let all = length-append wire (name_wire n) in
    let wires = ap (λ m. length (name_wire m)) first ∙ ap length (first_wire label rest) in
    let both = length-append label (name_wire rest) in
    let end = length-append (flat_map label_wire rest) (0 ∷ []) in
    omega (arith, long, all, wires, both, end, name_short whole h)

pub label_written : (wire wire' label : List ℕ) (rest n : Name) (whole : List ℕ) → n ≡ label ∷ rest → wire ++ name_wire n ≡ whole
    → wire' ≡ wire ++ length label ∷ label → wire' ++ name_wire rest ≡ whole
label_written wire wire' label rest n whole first e new =
    ap (λ t. t ++ name_wire rest) new ∙ append_assoc wire (length label ∷ label) (name_wire rest)
    ∙ ap (λ t. wire ++ t) (sym (first_wire label rest)) ∙ ap (λ m. wire ++ name_wire m) (sym first) ∙ e

-- ---- the end

pub went_well : {T E : Type 0} (r : Result T E) {P Q : Type 0} → OnOk r P → OnErr r Q → (Q → ⊥) → P
went_well (Ok x) p q h = p
went_well (Err x) p q h = absurd (h q)

pub room_for_root : (wire : List ℕ) (whole : Name) → IsTrue (is_name whole) → wire ++ name_wire [] ≡ name_wire whole → 256 ≤ length wire + 1 → ⊥
room_for_root wire whole h e full =
    let long = ap length e in
    let all = length-append wire (0 ∷ []) in
    absurd (omega (arith, long, all, full, name_short whole h))
