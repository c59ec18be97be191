-- The order of octets that are put together.
use Rattle.std.proofs.Common.{◌≡◌, ℕ, ◌<◌, List, [], ◌∷◌, ◌++◌, length, refl, sym, ap, ◌∙◌, arith}
use Rattle.std.specs.declared.cmp.Ordering.{Ordering}
use Rattle.std.specs.declared.cmp.Ordering.TheVariants.{Less, Equal, Greater}
use Rattle.std.specs.Ordering.{nat_cmp, ordering_then, ordering_reverse}
use Rattle.std.specs.Cmp.Lexicographic.{slice_cmp, nat_list_cmp_total}
use Rattle.std.proofs.lemmas.List.{append_assoc}

then_assoc : (a b c : Ordering) → ordering_then (ordering_then a b) c ≡ ordering_then a (ordering_then b c)
then_assoc Less b c = refl
then_assoc Equal b c = refl
then_assoc Greater b c = refl

-- where the other ends within the front, what stands after doesn't count
pub cut_order : (h d o : List ℕ) → length o < length h → slice_cmp nat_cmp (h ++ d) o ≡ slice_cmp nat_cmp h o
cut_order [] d o short = absurd (omega (arith, short))
cut_order (x ∷ h) d [] short = refl
cut_order (x ∷ h) d (y ∷ o) short = ap (ordering_then (nat_cmp x y)) (cut_order h d o (omega (arith, short)))

-- equally long fronts, then what is left
pub split_order : (h d f r : List ℕ) → length h ≡ length f → slice_cmp nat_cmp (h ++ d) (f ++ r) ≡ ordering_then (slice_cmp nat_cmp h f) (slice_cmp nat_cmp d r)
split_order [] d [] r e = refl
split_order [] d (y ∷ f) r e = absurd (omega (arith, e))
split_order (x ∷ h) d [] r e = absurd (omega (arith, e))
split_order (x ∷ h) d (y ∷ f) r e =
    ap (ordering_then (nat_cmp x y)) (split_order h d f r (omega (arith, e))) ∙ sym (then_assoc (nat_cmp x y) (slice_cmp nat_cmp h f) (slice_cmp nat_cmp d r))

-- the other way round
pub turned : (a b : List ℕ) → slice_cmp nat_cmp a b ≡ ordering_reverse (slice_cmp nat_cmp b a)
turned a b = nat_list_cmp_total.antisymm a b

-- octets in two parts each, by the shorter front
pub shorter_front : (a r b s f t : List ℕ) → length f ≡ length a → b ≡ f ++ t
    → slice_cmp nat_cmp (a ++ r) (b ++ s) ≡ ordering_then (slice_cmp nat_cmp a f) (slice_cmp nat_cmp r (t ++ s))
shorter_front a r b s f t e cut =
    ap (λ x. slice_cmp nat_cmp (a ++ r) (x ++ s)) cut ∙ ap (slice_cmp nat_cmp (a ++ r)) (append_assoc f t s) ∙ split_order a r f (t ++ s) (sym e)

pub longer_front : (a r b s f t : List ℕ) → length f ≡ length b → a ≡ f ++ t
    → slice_cmp nat_cmp (a ++ r) (b ++ s) ≡ ordering_then (slice_cmp nat_cmp f b) (ordering_reverse (slice_cmp nat_cmp s (t ++ r)))
longer_front a r b s f t e cut =
    ap (λ x. slice_cmp nat_cmp (x ++ r) (b ++ s)) cut ∙ ap (λ x. slice_cmp nat_cmp x (b ++ s)) (append_assoc f t r) ∙ split_order f (t ++ r) b s e
    ∙ ap (ordering_then (slice_cmp nat_cmp f b)) (turned (t ++ r) s)

-- octets beside others in two parts
pub within_front : (o f r : List ℕ) → length o < length f → slice_cmp nat_cmp o (f ++ r) ≡ slice_cmp nat_cmp o f
within_front o f r short = turned o (f ++ r) ∙ ap ordering_reverse (cut_order f r o short) ∙ sym (turned o f)
