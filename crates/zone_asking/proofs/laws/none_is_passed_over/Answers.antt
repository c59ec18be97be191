use Rattle.zone_asking.proofs.Streams.{all_among}
use Rattle.zone_asking.proofs.laws.none_is_passed_over.Goals as goal

pub returns : goal.returns
returns c = all_among
