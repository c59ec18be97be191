use Rattle.std.proofs.Common.{sym, subst}
use Rattle.zone_versions.specs.Trees.{IsHeld}
use Rattle.zone_versions.specs.Held.{held_of}
use Rattle.zone_versions.proofs.Kept.{nothing_held}
use Rattle.zone_versions.proofs.node.ZoneNode.empty.Goals as goal

pub build-requires : goal.build-requires
build-requires c = subst (λ l. IsHeld (held_of l)) (sym c.new.ensures.items) nothing_held
