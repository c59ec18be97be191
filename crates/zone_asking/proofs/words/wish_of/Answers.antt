use Rattle.std.proofs.Common.{string_bytes}
use Rattle.zone_asking.proofs.WordPairs.{no_wish}
use Rattle.zone_asking.proofs.words.wish_of.Goals as goal

pub returns-in_default : goal.returns-in_default
returns-in_default c = no_wish string_bytes c.args.words.now c.in_default.len_below
