use Rattle.std.proofs.Common.{map}
use Rattle.std.proofs.lemmas.Iterator.Consumers.{nth_from_yields_List, YieldsList-from_rest}
use Rattle.zone_values.specs.TypedEntries.{item_of}
use Rattle.zone_diffs.proofs.sets.DiffSets.at.Goals as goal

pub returns : goal.returns
returns c = nth_from_yields_List c.nth.result c.nth.new.self c.args.index c.nth.ensures.ran (YieldsList-from_rest (map item_of c.args.self.now) c.iter.ensures)
