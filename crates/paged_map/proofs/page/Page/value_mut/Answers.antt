use Rattle.std.proofs.Common.{◌<◌, length, ap, ◌∙◌, subst, sym, refl, option_map, slice_get, Some}
use Rattle.std.specs.Arc.{arc_value}
use Rattle.std.proofs.lemmas.List.{length-map}
use Rattle.std.proofs.lemmas.Result.{on_err_weaker, IfOk-weaker}
use Rattle.paged_map.specs.Lends.{with_value}
use Rattle.paged_map.proofs.Lent.{value_kept, value_written, value_got}
use Rattle.paged_map.proofs.page.Page.value_mut.Goals as goal

pub returns : goal.returns
returns g c =
    let xs = c.self.inside.entries.items in
    let e = c.index_mut.result.now in
    let h : c.args.at < length xs = subst (λ n. c.args.at < n) (ap length (sym c.self.view_is) ∙ length-map xs arc_value) c.requires in (
      (
        refl,
        (λ w ok. value_written xs c.args.at e (c.own_value.follows.lender w) c.index_mut.ensures.value h w (c.own_value.follows.holds w ok) ∙ ap (λ l. with_value l c.args.at w) c.self.view_is),
        on_err_weaker c.own_value.result (λ is. value_kept xs c.args.at e c.own_value.follows.lender-at-none c.index_mut.ensures.value h is ∙ c.self.view_is) c.own_value.follows.holds-at-none,
      ),
      record { writes_back = tt; value = IfOk-weaker c.own_value.result _ _ (λ x is. ap (λ l. option_map (λ e. e.1) (slice_get l c.args.at)) (sym c.self.view_is) ∙ value_got xs c.args.at e e c.index_mut.ensures.value h ∙ ap Some (sym is)) c.own_value.ensures.value },
    )
