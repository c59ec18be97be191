-- Keys are read back.
use Rattle.std.proofs.Common.{◌≡◌, ◌↔◌, ℕ, zero, suc, List, [], ◌∷◌, ◌++◌, map, refl, sym, ap, ◌∙◌, arith}
use Rattle.std.specs.Prelude.{flat_map, reverse, IsTrue}
use Rattle.std.proofs.lemmas.List.{reverse-reverse, append_assoc}
use Rattle.dns_name.specs.Names.{Name, fold, is_name, same_name}
use Rattle.dns_name.proofs.FoldedLabels.{equal_names}
use Rattle.dns_name.proofs.WireForms.{fold_is_name}
use Rattle.name_keys.specs.NameKeys.{octet_key, label_key, name_key, with_octet, pieces, label_of, name_of_key}
use Rattle.name_keys.proofs.Octets.{plain_octet, first_octet, key_of_folded}

-- ---- one label

-- the octets of a label are no end of it
in_one_piece : (label key : List ℕ) → pieces (label_key label ++ key) ≡ flat_map octet_key label ∷ pieces key
in_one_piece [] key = refl
in_one_piece (zero ∷ label) key =
    ap (λ ls. with_octet 1 (with_octet 1 ls)) (in_one_piece label key)
in_one_piece (suc zero ∷ label) key =
    ap (λ ls. with_octet 1 (with_octet 2 ls)) (in_one_piece label key)
in_one_piece (suc (suc c) ∷ label) key =
    let e = plain_octet (suc (suc c)) (omega arith) in
    ap pieces (first_octet (suc (suc c)) label key ∙ ap (λ k. k ++ (label_key label ++ key)) e)
    ∙ ap (with_octet (suc (suc c))) (in_one_piece label key) ∙ ap (λ k. (k ++ flat_map octet_key label) ∷ pieces key) (sym e)

pub label_read : (label : List ℕ) → label_of (flat_map octet_key label) ≡ label
label_read [] = refl
label_read (zero ∷ label) = ap (λ l. 0 ∷ l) (label_read label)
label_read (suc zero ∷ label) = ap (λ l. 1 ∷ l) (label_read label)
label_read (suc (suc c) ∷ label) =
    ap (λ k. label_of (k ++ flat_map octet_key label)) (plain_octet (suc (suc c)) (omega arith)) ∙ ap (λ l. suc (suc c) ∷ l) (label_read label)

-- ---- all labels

-- what the pieces of a key spell
abbrev pub labels_of_key : List ℕ → List (List ℕ)
labels_of_key key = map label_of (pieces key)

read_label : (label key : List ℕ) → labels_of_key (label_key label ++ key) ≡ label ∷ labels_of_key key
read_label label key = ap (map label_of) (in_one_piece label key) ∙ ap (λ l. l ∷ labels_of_key key) (label_read label)

-- labels, and what is after them
pub read_labels : (labels : List (List ℕ)) (key : List ℕ) → labels_of_key (flat_map label_key labels ++ key) ≡ labels ++ labels_of_key key
read_labels [] key = refl
read_labels (label ∷ labels) key =
    ap labels_of_key (append_assoc (label_key label) (flat_map label_key labels) key) ∙ read_label label (flat_map label_key labels ++ key)
    ∙ ap (λ ls. label ∷ ls) (read_labels labels key)

read_all : (labels : List (List ℕ)) → labels_of_key (flat_map label_key labels) ≡ labels
read_all [] = refl
read_all (label ∷ labels) = read_label label (flat_map label_key labels) ∙ ap (λ ls. label ∷ ls) (read_all labels)

pub read_back : (n : Name) → name_of_key (name_key n) ≡ fold n
read_back n = ap reverse (read_all (reverse (fold n))) ∙ reverse-reverse (fold n)

pub one_key : (m n : Name) → IsTrue (same_name m n) ↔ (name_key m ≡ name_key n)
one_key m n =
    let same = equal_names m n in
    (λ t. ap (λ ls. flat_map label_key (reverse ls)) (same.0 t), λ e. same.1 (sym (read_back m) ∙ ap name_of_key e ∙ read_back n))

-- ---- what an owner of a key keeps

pub spelled : (octets : List ℕ) (n : Name) → octets ≡ name_key n → name_of_key octets ≡ fold n
spelled octets n e = ap name_of_key e ∙ read_back n

pub key_invariant : (octets : List ℕ) (n : Name) → octets ≡ name_key n → IsTrue (is_name n)
    → IsTrue (is_name (name_of_key octets)) × (name_key (name_of_key octets) ≡ octets)
key_invariant octets n e h =
    let same = spelled octets n e in
    (ap is_name same ∙ fold_is_name n h, ap name_key same ∙ key_of_folded n ∙ sym e)

pub is_folded : (octets : List ℕ) → name_key (name_of_key octets) ≡ octets → fold (name_of_key octets) ≡ name_of_key octets
is_folded octets e = sym (read_back (name_of_key octets)) ∙ ap name_of_key e
