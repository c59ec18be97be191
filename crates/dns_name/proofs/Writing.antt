-- Octets that are appended.
use Rattle.std.proofs.Common.{◌≡◌, ℕ, List, [], ◌++◌, length, take, drop, refl, sym, ap, ◌∙◌}
use Rattle.std.proofs.lemmas.List.{take_at, take-append-drop, append_assoc, append-nil}

-- what was there before stays in front
pub begins : (a b : List ℕ) → take (length a) (a ++ b) ≡ a
begins a b = take_at a b (length a) refl

-- also where what was appended to it stays in front
pub still_begins : (a b m n : List ℕ) → m ≡ a ++ b → take (length m) n ≡ m → take (length a) n ≡ a
still_begins a b m n grown kept =
    let whole : n ≡ a ++ (b ++ drop (length m) n) = sym (take-append-drop (length m) n) ∙ (λ i. kept i ++ drop (length m) n) ∙ (λ i. grown i ++ drop (length m) n) ∙ append_assoc a b (drop (length m) n) in
    ap (take (length a)) whole ∙ begins a (b ++ drop (length m) n)

pub and_nothing : (a : List ℕ) → a ++ [] ≡ a
and_nothing = append-nil
