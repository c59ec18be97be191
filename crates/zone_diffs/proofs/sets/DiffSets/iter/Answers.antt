use Rattle.std.proofs.Common.{◌∙◌, ap, map}
use Rattle.zone_values.specs.TypedEntries.{item_of}
use Rattle.zone_values.proofs.KeptTypes.{items_seen}
use Rattle.zone_diffs.proofs.Entries.{kept_own}
use Rattle.zone_diffs.proofs.sets.DiffSets.iter.Goals as goal

pub returns : goal.returns
returns c = c.iter.ensures.rest ∙ items_seen c.self.inside.entries.entries (kept_own c.self.inside.entries.entries c.self.invariant) ∙ ap (map item_of) c.self.view_is
