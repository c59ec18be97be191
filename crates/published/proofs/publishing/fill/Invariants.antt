use Rattle.std.proofs.Common.{◌≡◌}
use Rattle.left_right.specs.Sides.{view as seen_by}
use Rattle.crossbeam_queue.specs.Passes.{view as known_by}
use Rattle.crossbeam_queue.specs.Passes.{IsPassOf}
use Rattle.published.specs.Stock.{AreOfOne}
use Rattle.published.proofs.publishing.fill.Given as goal

-- the pass stays of the writer's history
abbrev pub invariant-loop : goal.invariant-loop
invariant-loop g l =
    IsPassOf l.stock l.pass × AreOfOne (known_by l.initial.pass) (known_by l.pass)
    × AreOfOne (known_by l.pass) (seen_by l.writer.desk.place) × (l.writer.desk.shown ≡ l.initial.writer.desk.shown)
