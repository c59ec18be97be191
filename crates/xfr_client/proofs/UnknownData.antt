-- Octets of an unknown type aren't SOA data.
use Rattle.std.proofs.Common.{◌≡◌, ℕ, Bool, true, false, List, [], ◌∷◌, refl, sym, ap, ◌∙◌, ◌==◌, eqb-true, true≢false}
use Rattle.std.specs.Prelude.{IsTrue}
use Rattle.dns_rdata.specs.Records.{Field, is_data}
use Rattle.dns_rdata.specs.Records.Field.{Octets}

decided : (b : Bool) → (b ≡ true → ⊥) → b ≡ false
decided true h = absurd (h refl)
decided false h = refl

pub unknown_is_no_soa : (rtype : ℕ) (octets : List ℕ) → IsTrue (is_data rtype (Octets octets ∷ [])) → (rtype == 6) ≡ false
unknown_is_no_soa rtype octets h =
    decided (rtype == 6) (λ e. true≢false (sym h ∙ ap (λ t. is_data t (Octets octets ∷ [])) (eqb-true rtype 6 e)))
