use Rattle.std.proofs.Common.{◌-◌, ap, ◌∙◌}
use Rattle.std.specs.List.{slice_get}
use Rattle.zone_values.proofs.Labels.{yields_label, counted}
use Rattle.zone_values.proofs.rel_name.RelNameRevIterIterator.next.Goals as goal

pub returns-clause-steps : goal.returns-clause-steps
returns-clause-steps g c =
    let left = c.self.inside.left in
    yields_label _ _ left (left - 1) c.label_at.result (counted left c.if-self-eq0.false) c.self.invariant c.self.view_is (c.label_at.ensures ∙ ap (λ l. slice_get l (left - 1)) c.iter_labels.ensures)
