-- Three tests in a row.
use Rattle.std.proofs.Common.{◌≡◌, Bool, true, false, ◌&&◌, not, refl, sym, ap, ◌∙◌, true≢false}

pub not_false : (b : Bool) → false ≡ not b → b ≡ true
not_false true h = refl
not_false false h = absurd (true≢false (sym h))

-- after two that hold, the third decides
pub third : (a b c : Bool) → a ≡ true → b ≡ true → c ≡ (a && b && c)
third a b c p q = ap (λ x. x && c) (sym (ap (λ x. x && b) p ∙ q))
