use Rattle.std.proofs.Common.{◌≡◌, ◌++◌, ◌-◌, length, take, drop, sym, ap, ◌∙◌}
use Rattle.std.specs.Arc.{arc_value}
use Rattle.std.proofs.lemmas.List.{take-map, drop-map, take_rest}
use Rattle.paged_map.specs.Pages.{values_in}
use Rattle.paged_map.proofs.Shared.{appended_values}
use Rattle.paged_map.proofs.page.Page.without.Goals as goal

pub returns : goal.returns
returns g c =
    let es = c.self.inside.entries.items in
    let tail = take (length c.deref-2.result.now - c.args.to) (drop c.args.to c.deref-2.result.now) in
    c.of.ensures ∙ appended_values c.extend_with_clones.new.self.items c.extend_with_clones-2.new.self.items tail c.in_ok-extend_with_clones-2.ensures.items
    ∙ ap (λ l. l ++ values_in tail) (appended_values c.new-entries.result.items c.extend_with_clones.new.self.items (take c.args.from c.deref.result.now) c.in_ok-extend_with_clones.ensures.items)
    ∙ ap (λ l. values_in l ++ values_in (take c.args.from c.deref.result.now) ++ values_in tail) c.new-entries.ensures.items
    ∙ ap (λ l. values_in (take c.args.from l) ++ values_in tail) c.deref.ensures.value
    ∙ ap (λ l. values_in (take c.args.from es) ++ values_in l) (take_rest c.deref-2.result.now c.args.to ∙ ap (drop c.args.to) c.deref-2.ensures.value)
    ∙ ap (λ l. l ++ values_in (drop c.args.to es)) (sym (take-map arc_value c.args.from es) ∙ ap (take c.args.from) c.self.view_is)
    ∙ ap (λ l. take c.args.from c.args.self.now ++ l) (sym (drop-map arc_value c.args.to es) ∙ ap (drop c.args.to) c.self.view_is)
