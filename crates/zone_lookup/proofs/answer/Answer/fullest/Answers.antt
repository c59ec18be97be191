use Rattle.std.proofs.Common.{◌≡◌, List, [], ◌∷◌, refl, subst}
use Rattle.std.specs.Prelude.{IfOk}
use Rattle.dns_wire.specs.Wire.{Message}
use Rattle.zone_lookup.specs.declared.sending.Extent.{Extent}
use Rattle.zone_lookup.specs.Sending.{built_first}
use Rattle.zone_lookup.proofs.Choosing.{rows_are}
use Rattle.zone_lookup.proofs.answer.Answer.fullest.Goals as goal

pub returns-clause-found : goal.returns-clause-found
returns-clause-found c =
    let a = c.args in
    let P : List Message → Type 0 = λ ms. IfOk c.first_of.result (λ found. found ≡ built_first a.limit ms) in
    let rows : List Extent = c.of.result ∷ c.of-2.result ∷ c.of-3.result ∷ c.of-4.result ∷ c.of-5.result ∷ [] in
    subst P (rows_are a.request.now a.self.now a.question.now rows (rw (c.of.ensures, c.of-2.ensures, c.of-3.ensures, c.of-4.ensures, c.of-5.ensures) refl)) c.first_of.ensures.found
