-- The text of a list's first refusals.
use Rattle.std.proofs.Common.{◌≡◌, ℕ, suc, ◌+◌, ◌<◌, List, [], ◌∷◌, ◌++◌, append-nil, length, take, take-suc, get_or, refl, sym, ap, ◌∙◌, Option, Some, None, Ok}
use Rattle.std.specs.Prelude.{IfSome}
use Rattle.std.specs.Fmt.{◌++?◌, HasWritten, IsPlainFormatter, DisplaysOnOk}
use Rattle.std.proofs.Output.{then_text_assoc, has_written_append}
use Rattle.std.specs.declared.fmt.Formatter.{Formatter}
use Rattle.dns_name.specs.Names.{Name}
use Rattle.zone_values.specs.Texts.{refusal_text, refusals_text}
use native.Mathlib.Omega.{arith}

nothing_after : (o : Option (List ℕ)) → (o ++? Some []) ≡ (Some [] ++? o)
nothing_after None = refl
nothing_after (Some a) = ap Some (append-nil a)

module _ {T : Type 0} (shown : T → Option (List ℕ)) where
  one_more : (es : List (Name × T)) (e : Name × T) → refusals_text shown (es ++ e ∷ []) ≡ (refusals_text shown es ++? refusal_text shown e)
  one_more [] e = nothing_after (refusal_text shown e)
  one_more (x ∷ es) e = ap (λ o. refusal_text shown x ++? o) (one_more es e) ∙ sym (then_text_assoc (refusal_text shown x) (refusals_text shown es) (refusal_text shown e))

  pub first_more : (es : List (Name × T)) (i : ℕ) (e : Name × T) → i < length es → e ≡ get_or es i e → refusals_text shown (take (i + 1) es) ≡ (refusals_text shown (take i es) ++? refusal_text shown e)
  first_more es i e within is =
      let on : i + 1 ≡ suc i = omega arith in
      ap (λ n. refusals_text shown (take n es)) on ∙ ap (refusals_text shown) (take-suc es i e within) ∙ one_more (take i es) (get_or es i e) ∙ ap (λ x. refusals_text shown (take i es) ++? refusal_text shown x) (sym is)

-- what was written before a text, and that text
module _ {W : Type 0} (took : W → List ℕ → W → Type 0) (f g h : Formatter W) where
  pub then_written : (o p : Option (List ℕ)) (u : Unit {0}) → IfSome o (λ bs. IsPlainFormatter f → HasWritten took f bs g) → DisplaysOnOk took g (Ok u) p h
      → IfSome (o ++? p) (λ bs. IsPlainFormatter f → HasWritten took f bs h)
  then_written None p u x y = tt
  then_written (Some a) None u x y = tt
  then_written (Some a) (Some b) u x y = λ plain. let w = x plain in has_written_append took f a g b h w (y w.plain refl)
