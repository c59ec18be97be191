use Rattle.std.proofs.Common.{map, ap, ◌∙◌}
use Rattle.std.specs.Arc.{arc_value}
use Rattle.xfr_providers.proofs.Outdated.{clones_alike}
use Rattle.xfr_providers.proofs.kept_diffs.KeptDiffs.from_serial.Goals as goal

pub returns : goal.returns
returns c =
    let copies = rw c.new-found.ensures.items at c.in_ok-extend_with_clones.ensures.items in
    let kept = rw (c.deref.ensures.value, c.self.view_is) at c.starting_at.ensures in
    ap (map arc_value) copies.1 ∙ clones_alike arc_value _ copies.0 copies.2 ∙ kept
