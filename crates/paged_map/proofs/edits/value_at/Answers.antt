use Rattle.std.proofs.Common.{◌≡◌, ℕ, ◌<◌, length, ap, ◌∙◌, refl, subst, option_map, slice_get}
use Rattle.std.specs.Arc.{arc_value}
use Rattle.std.proofs.lemmas.List.{length-map}
use Rattle.std.proofs.lemmas.Result.{on_err_weaker, IfOk-weaker}
use Rattle.paged_map.specs.Pages.{values_in, page_at}
use Rattle.paged_map.proofs.PageEdits.{within_pages, read_in}
use Rattle.paged_map.proofs.Lent.{value_kept, lent_joined, lent_fit}
use Rattle.paged_map.proofs.edits.value_at.Goals as goal

pub returns : goal.returns
returns g c =
    let items = c.args.pages.now.items in
    let q : ℕ = c.args.spot.page in
    let page = c.index_mut.result.now in
    let h : q < length (values_in items) = within_pages c.args.pages.now q c.requires.page in
    let read : page_at (values_in items) q ≡ arc_value page = read_in items q page h c.index_mut.ensures.value in (
      (
        refl,
        (λ w ok.
            let is = c.value_in.follows.holds w ok in
            (lent_joined items c.args.spot page (c.value_in.follows.lender w) w h c.requires.at read is, lent_fit items c.args.spot page (c.value_in.follows.lender w) w h c.requires.at read is c.requires.fit)),
        on_err_weaker c.value_in.result (λ is. value_kept items q page c.value_in.follows.lender-at-none c.index_mut.ensures.value (subst (λ n. q < n) (length-map items arc_value) h) is) c.value_in.follows.holds-at-none,
      ),
      record { writes_back = tt; value = IfOk-weaker c.value_in.result _ _ (λ x is. ap (λ l. option_map (λ e. e.1) (slice_get l c.args.spot.at)) read ∙ is) c.value_in.ensures.value },
    )
