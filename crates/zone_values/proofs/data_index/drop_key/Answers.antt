use Rattle.zone_values.proofs.Indexing.{without_item}
use Rattle.zone_values.proofs.data_index.drop_key.Goals as goal

-- The key is gone, and no other.
pub returns : goal.returns
returns c = without_item c.args.keys.now c.remove.new.self c.in_ok-key.key _ c.in_ok-key.ensures c.remove.ensures.updates
