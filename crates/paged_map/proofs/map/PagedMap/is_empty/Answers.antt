use Rattle.std.proofs.Common.{◌≡◌, ◌==◌, length, true, vec_len, sym, ap, ◌∙◌, arith}
use Rattle.std.proofs.lemmas.List.{nil_from_length}
use Rattle.paged_map.specs.Pages.{entries_of}
use Rattle.paged_map.proofs.Cuts.{empty_pages}
use Rattle.paged_map.proofs.map.PagedMap.is_empty.Goals as goal

pub returns : goal.returns
returns g c =
    let pages = c.self.inside.pages in (
      λ t.
          let h : (vec_len pages == 0) ≡ true = sym c.is_empty.ensures ∙ t in
          let none : vec_len pages ≡ 0 = grind (arith, h) in
          sym c.self.view_is ∙ ap entries_of (nil_from_length pages.items (sym pages.ok.0 ∙ none)),
      λ e. c.is_empty.ensures ∙ ap (λ n. n == 0) (pages.ok.0 ∙ ap length (empty_pages pages.items c.self.invariant.0 (c.self.view_is ∙ e))),
    )
