use Rattle.std.proofs.Common.{refl, ap, sym, ◌∙◌}
use Rattle.std.specs.Prelude.{◌==◌}
use Rattle.std.proofs.lemmas.Bool.{eqb-true}
use Rattle.xfr_client.proofs.MessageParts.{asks_ixfr, asks_axfr, asks_else}
use Rattle.xfr_client.proofs.interpreter.asks_changes.Goals as goal

pub returns-then-eq : goal.returns-then-eq
returns-then-eq c m h one = asks_ixfr _ m _ h one c.in-Ok.ensures.found (sym c.qtype.ensures ∙ eqb-true _ _ (sym c.eq.ensures ∙ c.if-eq.true))

pub returns-then-eq-2 : goal.returns-then-eq-2
returns-then-eq-2 c m h one = asks_axfr _ m _ h one c.in-Ok.ensures.found (sym c.qtype-else-eq.ensures ∙ eqb-true _ _ (sym c.eq-else-eq.ensures ∙ c.if-eq-2.true))

pub returns-else-eq-2 : goal.returns-else-eq-2
returns-else-eq-2 c m h one = (
  asks_else _ m _ h one c.in-Ok.ensures.found
      (ap (λ n. n == 251) (sym c.qtype.ensures) ∙ sym c.eq.ensures ∙ c.if-eq.false)
      (ap (λ n. n == 252) (sym c.qtype-else-eq.ensures) ∙ sym c.eq-else-eq.ensures ∙ c.if-eq-2.false),
  refl,
)
