use Rattle.std.proofs.Common.{ap, ◌∙◌}
use Rattle.std.specs.Arc.{arc_value}
use Rattle.zone_model.specs.Difference.{Difference}
use Rattle.xfr_replies.proofs.Reading.{got, side_added, side_removed}
use Rattle.xfr_replies.proofs.of_difference.side_sets.Goals as goal

pub returns-then-side-clause-value : goal.returns-then-side-clause-value
returns-then-side-clause-value c =
    side_added arc_value c.args.diffs.now c.args.side c.in_ok-diff.diff.now c.behind-diff.inside.added c.if-side.true (got c.args.diffs.now c.args.side.number c.in_ok-diff.diff c.in_ok-diff.ensures.lookup)
    (ap (λ (d : Difference). d.added) (c.behind-diff.view_is ∙ c.deref.ensures))

pub returns-else-side-clause-value : goal.returns-else-side-clause-value
returns-else-side-clause-value c =
    side_removed arc_value c.args.diffs.now c.args.side c.in_ok-diff.diff.now c.behind-diff-else-side.inside.removed c.if-side.false (got c.args.diffs.now c.args.side.number c.in_ok-diff.diff c.in_ok-diff.ensures.lookup)
    (ap (λ (d : Difference). d.removed) (c.behind-diff-else-side.view_is ∙ c.deref-else-side.ensures))
