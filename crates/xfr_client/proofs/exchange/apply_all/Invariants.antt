use Rattle.std.proofs.Common.{◌≡◌, false, List, length}
use Rattle.zone_model.specs.Commits.{Commit}
use Rattle.zone_model.specs.Updates.{Progress}
use Rattle.xfr_client.specs.Growing.{Grows}
use Rattle.xfr_client.specs.Steps.{Ahead, KeepsWish}
use Rattle.xfr_client.proofs.Room.{RoomOn}
use Rattle.xfr_client.proofs.exchange.apply_all.Given as goal

abbrev pub invariant-updates : goal.invariant-updates
invariant-updates met l =
    ((base : Commit) (before : List Commit) (g : Progress) → Ahead base before l.initial.updater l.initial.session l.initial.made.items g
    → RoomOn l.most base before l.updater l.session l.made.items g l.initial.updates l.updates)
    × KeepsWish l.initial.session l.session × (l.initial.full ≡ false → l.full ≡ false)
    × Grows l.initial.session.past l.session.past l.initial.made.items l.made.items

abbrev pub decreases-updates : goal.decreases-updates
decreases-updates met l = length l.updates.run.updates
