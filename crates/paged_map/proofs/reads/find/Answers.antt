use Rattle.std.proofs.Common.{◌≡◌, sym, ◌∙◌, arith}
use Rattle.paged_map.specs.Pages.{HasAt, values_in}
use Rattle.paged_map.proofs.Cuts.{has_at, lacks_at}
use Rattle.paged_map.proofs.reads.find.Goals as goal

pub returns-clause-found : goal.returns-clause-found
returns-clause-found g c t = has_at c.args.key.now (values_in c.args.pages.now) c.locate-spot.result c.locate-spot.ensures.within c.locate-spot.ensures.passed (sym c.has_key_at.ensures ∙ t)

pub returns-clause-absent : goal.returns-clause-absent
returns-clause-absent g c t =
    lacks_at c.args.key.now (values_in c.args.pages.now) c.locate-spot.result c.locate-spot.ensures.within c.locate-spot.ensures.passed c.locate-spot.ensures.ahead c.locate-spot.ensures.unreached c.requires.1 (sym c.has_key_at.ensures ∙ t)

pub returns-then-is_found_at-clause-within : goal.returns-then-is_found_at-clause-within
returns-then-is_found_at-clause-within g c =
    let at : HasAt c.args.key.now (values_in c.args.pages.now) c.guessed-guess.result = c.is_found_at.ensures c.if-is_found_at.true in
    (omega (arith, at.at), λ _. at.page)
