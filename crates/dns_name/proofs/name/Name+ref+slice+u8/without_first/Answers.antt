use Rattle.std.proofs.Common.{◌≡◌, ℕ, List, [], ◌∷◌, length, drop, suc, sym, ap, ◌∙◌, arith, zero, add-one}
use Rattle.std.proofs.lemmas.List.{length-drop}
use Rattle.dns_name.specs.Names.{Name}
use Rattle.dns_name.proofs.name.«Name+ref+slice+u8».without_first.Goals as goal
use Rattle.dns_name.proofs.name.«Name+ref+slice+u8».without_first.Goals.{in-Some, in_default}

behind : (k : ℕ) (n : Name) (l : List ℕ) (m : Name) → drop k n ≡ l ∷ m → drop (suc k) n ≡ m
behind zero [] l m e = absurd (cc e)
behind zero (x ∷ n) l m e = cc
behind (suc k) [] l m e = absurd (cc e)
behind (suc k) (x ∷ n) l m e = behind k n l m e

pub loop-step-preserved : goal.loop-step-preserved
loop-step-preserved c =
    let s = c.loop-step in
    let n = c.args.self.now in
    elim c.match-split_first.branch [
      | in-Some w ↦
          w.rest-is ∙ sym (ap (λ k. drop k n) (add-one s.step) ∙ behind s.step n w.in-Some.field-0-0 w.in-Some.tail (sym s.invariant ∙ w.in-Some.ensures))
      | in_default w ↦
          let none = ap length (sym s.invariant ∙ w.in_default.ensures) in
          let long = length-drop s.step n in
          absurd (omega (arith, none, long, c.requires, c.loop-step-test.true))
    ]
