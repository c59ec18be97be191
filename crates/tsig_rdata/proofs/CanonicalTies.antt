-- Canonical order ties exactly where TSIG data are the same, their algorithms' names in the same case.
use Rattle.std.proofs.Common.{◌≡◌, ◌↔◌, ℕ, List, [], ◌++◌, sym, ap, subst, ◌∙◌, Some}
use Rattle.std.specs.Prelude.{IsTrue}
use Rattle.std.specs.declared.cmp.Ordering.TheVariants.{Equal}
use Rattle.std.specs.Cmp.{IsTotalOrder, tied_itself, on_total}
use Rattle.std.specs.Cmp.Lexicographic.{nat_list_cmp_total}
use Rattle.tsig_rdata.specs.TsigData.{Tsig, tsig_at, tsig_wire, IsTsig}
use Rattle.tsig_rdata.specs.TsigOrder.{same_tsig, same_tsig_equiv}
use Rattle.tsig_rdata.specs.CanonicalTsig.{canonical_tsig_cmp}
use Rattle.tsig_rdata.proofs.DataReading.{data_again}
use Rattle.tsig_rdata.proofs.CanonicalOrder.{tied}

some_same : (x y : Tsig × ℕ) → Some x ≡ Some y → x ≡ y
some_same x y e = cc e

-- what is written alike is the same data
same_wire : (a b : Tsig) → IsTsig a → IsTsig b → tsig_wire a ≡ tsig_wire b → a ≡ b
same_wire a b p q e =
    let again = data_again [] [] a p in
    let other = data_again [] [] b q in
    let read : tsig_at (tsig_wire a ++ []) 0 ≡ tsig_at (tsig_wire b ++ []) 0 = ap (λ (w : List ℕ). tsig_at (w ++ []) 0) e in
    ap (λ (r : Tsig × ℕ). r.0) (some_same _ _ (sym again ∙ read ∙ other))

pub canonical_total : IsTotalOrder canonical_tsig_cmp
canonical_total = on_total tsig_wire nat_list_cmp_total

pub canonical_ties_where_same : (a b : Tsig) → IsTsig a → IsTsig b → (canonical_tsig_cmp a b ≡ Equal) ↔ (a ≡ b)
canonical_ties_where_same a b p q = (
  λ e. same_wire a b p q (tied (tsig_wire a) (tsig_wire b) e),
  λ e. subst (λ (c : Tsig). canonical_tsig_cmp a c ≡ Equal) e (tied_itself canonical_total a),
)

pub same_are_equal : (a b : Tsig) → a ≡ b → IsTrue (same_tsig a b)
same_are_equal a b e = subst (λ (c : Tsig). IsTrue (same_tsig a c)) e (same_tsig_equiv.refl a)
