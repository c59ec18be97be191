-- How the rank of a number is found move by move, and the draws one by one.
use Rattle.std.proofs.Common.{◌≡◌, ℕ, suc, ◌+◌, ◌*◌, ◌^◌, ◌<◌, Bool, true, false, nat_lt, zero, List, [], ◌∷◌, ◌++◌, append_assoc, add-zero, refl, sym, ap, ◌∙◌, lt-ltb, arith}
use Rattle.std.specs.Prelude.{if◌then◌else◌}
use Rattle.zone_generated.specs.Generated.{next_draw, draws}
use Rattle.zone_generated.specs.Ranks.{moved_up}

-- a number below 10^9 is moved up once more
pub moved_once : (more less n r : ℕ) → more ≡ suc less → n < 10 ^ 9 → moved_up more n ≡ r → moved_up less (n * 10) ≡ r
unfolding moved_up
moved_once more less n r e h is =
    sym (ap (λ b. if b then moved_up less (n * 10) else n * 10 + suc less) (lt-ltb n (10 ^ 9) h)) ∙ sym (ap (λ m. moved_up m n) e) ∙ is

-- no move is left
pub none_left : (more n r : ℕ) → more ≡ 0 → moved_up more n ≡ r → n * 10 + more ≡ r
unfolding moved_up
none_left more n r e is = (omega (arith, e)) ∙ sym (ap (λ m. moved_up m n) e) ∙ is

-- none is needed
pub moved_enough : (more n r : ℕ) → nat_lt n (10 ^ 9) ≡ false → moved_up more n ≡ r → n * 10 + more ≡ r
unfolding moved_up
moved_enough zero n r h is = add-zero (n * 10) ∙ is
moved_enough (suc more) n r h is = sym (ap (λ b. if b then moved_up more (n * 10) else n * 10 + suc more) h) ∙ is

-- the next draw is kept, and fewer are left
pub drawn_once : (kept more all : List ℕ) (left fewer x y : ℕ) → left ≡ suc fewer → y ≡ next_draw x → more ≡ kept ++ next_draw x ∷ [] → kept ++ draws left x ≡ all → more ++ draws fewer y ≡ all
drawn_once kept more all left fewer x y el ey em e =
    (λ i. em i ++ draws fewer (ey i)) ∙ append_assoc kept (next_draw x ∷ []) (draws fewer (next_draw x)) ∙ sym (ap (λ m. kept ++ draws m x) el) ∙ e
