use Rattle.std.proofs.Common.{map, drop, ap, ◌∙◌}
use Rattle.std.specs.Arc.{arc_value}
use Rattle.xfr_providers.proofs.Outdated.{one_more}
use Rattle.xfr_providers.proofs.kept_diffs.KeptDiffs.push.Goals as goal

pub returns-clause-ok : goal.returns-clause-ok
returns-clause-ok c =
    let k = c.count_outdated-outdated.result in
    let goes = rw (c.deref.ensures.value, c.end_serial.ensures) at c.count_outdated-outdated.ensures in
    let is = ap (map arc_value) (c.forget.ensures ∙ ap (drop k) c.in_ok-push.ensures.items) ∙ one_more arc_value k c.self.inside.items.items c.in_ok-diff.diff _ goes.within goes.left in
    rw (c.in_ok-diff.ensures.ok, c.self.view_is) at is
