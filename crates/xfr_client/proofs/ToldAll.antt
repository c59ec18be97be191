-- Updates told in turn are those of the message's run.
use Rattle.std.proofs.Common.{[], ◌∷◌, sym, ap, ◌∙◌}
use Rattle.xfr_outcomes.specs.ZoneUpdates.{update_of}
use Rattle.xfr_client.specs.Rest.{Rest}
use Rattle.xfr_client.specs.CallsInTurn.{TellsAll}

pub tells_all : TellsAll
tells_all a b c [] t n = (
  ap (λ (r : Rest). r.run.updates) (sym n.0) ∙ ap (λ (r : Rest). r.run.updates) t,
  ap (λ (r : Rest). r.run.fault) (sym t) ∙ ap (λ (r : Rest). r.run.fault) n.0,
  ap (λ (r : Rest). r.retry) (sym t) ∙ ap (λ (r : Rest). r.retry) n.0,
)
tells_all a b c (u ∷ more) t n =
    let ih = tells_all t.0 b c more t.2 n in (
      ap (λ l. update_of u ∷ l) ih.0 ∙ sym (ap (λ (r : Rest). r.run.updates) t.1),
      ap (λ (r : Rest). r.run.fault) t.1 ∙ ih.1,
      ap (λ (r : Rest). r.retry) t.1 ∙ ih.2,
    )
