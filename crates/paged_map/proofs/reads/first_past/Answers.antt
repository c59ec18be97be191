use Rattle.std.proofs.Common.{◌≡◌, not, Some, None, option_map, find, sym, ap, ◌∙◌}
use Rattle.paged_map.specs.Octets.{passes}
use Rattle.paged_map.specs.Pages.{values_in, before, after}
use Rattle.paged_map.proofs.Keys.{find_cut}
use Rattle.paged_map.proofs.Cuts.{whole}
use Rattle.paged_map.proofs.reads.first_past.Goals as goal

pub returns-in-Some : goal.returns-in-Some
returns-in-Some g c =
    let ps = values_in c.args.pages.now in
    ap (λ k. Some (k, c.value.result.now)) c.key.ensures ∙ ap (λ v. Some (c.in-Some.entry.now.0, v)) c.value.ensures
    ∙ sym (ap (option_map (λ e. e.now)) c.in-Some.is) ∙ c.entry_from.ensures ∙ sym (find_cut c.args.mark (before ps c.locate.result) (after ps c.locate.result) c.locate.ensures.passed c.locate.ensures.ahead)
    ∙ ap (find (λ e. not (passes c.args.mark e.0))) (sym (whole ps c.locate.result c.locate.ensures.within))

pub returns-in-None : goal.returns-in-None
returns-in-None g c =
    let ps = values_in c.args.pages.now in
    sym (ap (option_map (λ e. e.now)) c.in-None.is) ∙ c.entry_from.ensures ∙ sym (find_cut c.args.mark (before ps c.locate.result) (after ps c.locate.result) c.locate.ensures.passed c.locate.ensures.ahead)
    ∙ ap (find (λ e. not (passes c.args.mark e.0))) (sym (whole ps c.locate.result c.locate.ensures.within))
