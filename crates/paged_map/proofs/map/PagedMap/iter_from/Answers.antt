use Rattle.std.proofs.Common.{◌≡◌, filter, is_le, is_gt, not, sym, ap, ◌∙◌}
use Rattle.paged_map.specs.declared.marks.Mark.TheVariants.{Before}
use Rattle.paged_map.specs.Octets.{octets_cmp}
use Rattle.paged_map.specs.Pages.{values_in, entries_of, joined, before, after}
use Rattle.paged_map.proofs.Keys.{filter_cut, filter_from}
use Rattle.paged_map.proofs.Cuts.{whole}
use Rattle.paged_map.proofs.map.PagedMap.iter_from.Goals as goal

pub returns : goal.returns
returns g c =
    let s = c.locate.result in
    let k = c.args.key.now in
    let ps = values_in c.deref-3.result.now in
    c.new.ensures ∙ ap (λ l. after (values_in l) s) (c.deref-2.ensures.value ∙ sym c.deref-3.ensures.value)
    ∙ sym (filter_cut (Before c.args.key) (before ps s) (after ps s) c.locate.ensures.passed c.locate.ensures.ahead)
    ∙ ap (filter (λ e. not (is_gt (octets_cmp k e.0)))) (sym (whole ps s c.locate.ensures.within)) ∙ filter_from k (joined ps)
    ∙ ap (filter (λ e. is_le (octets_cmp k e.0))) (ap entries_of c.deref-3.ensures.value ∙ c.self.view_is)
