-- A key in place, put there label by label from the end.
use Rattle.std.proofs.Common.{◌≡◌, ℕ, ◌+◌, ◌<◌, ◌≤◌, List, [], ◌∷◌, ◌++◌, length, length-append, get_or, take, sym, ap, ◌∙◌, arith}
use Rattle.std.specs.Prelude.{flat_map, IsTrue}
use Rattle.std.specs.Char.{to_ascii_lowercase}
use Rattle.std.specs.Str.{str_to_ascii_lowercase}
use Rattle.std.proofs.lemmas.Grind.{flat_map-append}
use Rattle.std.proofs.lemmas.List.{append_assoc, append-nil, take_more, take_all, map_push}
use Rattle.dns_name.specs.Names.{Name, is_name}
use Rattle.name_keys.specs.NameKeys.{octet_key, label_key, name_key}
use Rattle.name_keys.proofs.Octets.{last_label}
use Rattle.name_keys.proofs.Bounds.{key_short}

-- the octets of a label that are still to be put, and what was put
abbrev pub to_put : ℕ → List ℕ → List ℕ → List ℕ
to_put left label octets = flat_map octet_key (str_to_ascii_lowercase (take left label)) ++ octets

pub all_to_put : (label octets : List ℕ) → to_put (length label) label (0 ∷ octets) ≡ label_key (str_to_ascii_lowercase label) ++ octets
all_to_put label octets =
    ap (λ l. flat_map octet_key (str_to_ascii_lowercase l) ++ 0 ∷ octets) (take_all (length label) label (omega arith))
    ∙ sym (append_assoc (flat_map octet_key (str_to_ascii_lowercase label)) (0 ∷ []) octets)

pub one_put : (i : ℕ) (label octets : List ℕ) → i < length label
    → to_put i label (octet_key (to_ascii_lowercase (get_or label i 0)) ++ octets) ≡ to_put (i + 1) label octets
one_put i label octets h =
    let c = to_ascii_lowercase (get_or label i 0) in
    let before = str_to_ascii_lowercase (take i label) in
    let more : str_to_ascii_lowercase (take (i + 1) label) ≡ before ++ c ∷ [] =
    ap str_to_ascii_lowercase (take_more label i 0 h) ∙ map_push to_ascii_lowercase (take i label) (get_or label i 0) in
    let joined : flat_map octet_key (before ++ c ∷ []) ≡ flat_map octet_key before ++ octet_key c =
    flat_map-append octet_key before (c ∷ []) ∙ ap (λ t. flat_map octet_key before ++ t) (append-nil (octet_key c)) in
    sym (append_assoc (flat_map octet_key before) (octet_key c) octets) ∙ ap (λ t. t ++ octets) (sym joined)
    ∙ ap (λ l. flat_map octet_key l ++ octets) (sym more)

-- there is room for one more octet
pub room_for_one : (i : ℕ) (label octets whole : List ℕ) → i < length label → to_put (i + 1) label octets ≡ whole
    → length (octet_key (to_ascii_lowercase (get_or label i 0))) + length octets ≤ length whole
room_for_one i label octets whole h e =
    let c = to_ascii_lowercase (get_or label i 0) in
    let long = ap length (one_put i label octets h ∙ e) in
    let all = length-append (flat_map octet_key (str_to_ascii_lowercase (take i label))) (octet_key c ++ octets) in
    let both = length-append (octet_key c) octets in
    omega (arith, long, all, both)

-- ---- whole labels

pub one_label_put : (label : List ℕ) (rest : Name) (octets : List ℕ)
    → name_key rest ++ (label_key (str_to_ascii_lowercase label) ++ octets) ≡ name_key (label ∷ rest) ++ octets
one_label_put label rest octets =
    sym (append_assoc (name_key rest) (label_key (str_to_ascii_lowercase label)) octets) ∙ ap (λ t. t ++ octets) (sym (last_label label rest))

pub room_for_label : (label : List ℕ) (rest n : Name) (octets : List ℕ) → IsTrue (is_name n)
    → name_key (label ∷ rest) ++ octets ≡ name_key n → length (label_key (str_to_ascii_lowercase label)) + length octets ≤ 504
room_for_label label rest n octets h e =
    let put = label_key (str_to_ascii_lowercase label) in
    let long = ap length (one_label_put label rest octets ∙ e) in
    let all = length-append (name_key rest) (put ++ octets) in
    let both = length-append put octets in
    omega (arith, long, all, both, key_short n h)
