use Rattle.std.proofs.Common.{◌≡◌, Some, option_map, sym, ap, ◌∙◌}
use Rattle.paged_map.specs.Pages.{values_in}
use Rattle.paged_map.proofs.reads.get.Goals as goal

pub returns-then-not-found : goal.returns-then-not-found
returns-then-not-found g c = sym (c.find-found.ensures.absent c.if-not-found.true).absent

pub returns-in-Some : goal.returns-in-Some
returns-in-Some g c =
    ap Some c.value.ensures ∙ ap (option_map (λ e. e.1)) (ap (option_map (λ e. e.now)) (sym c.in-Some.is) ∙ c.entry_at.ensures) ∙ sym (c.find-found.ensures.found c.if-not-found.false).value

pub returns-in-None : goal.returns-in-None
returns-in-None g c =
    ap (option_map (λ e. e.1)) (ap (option_map (λ e. e.now)) (sym c.in-None.is) ∙ c.entry_at.ensures) ∙ sym (c.find-found.ensures.found c.if-not-found.false).value
