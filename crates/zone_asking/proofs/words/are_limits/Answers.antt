use Rattle.std.proofs.Common.{sym, ◌∙◌, string_bytes}
use Rattle.zone_asking.proofs.WordPairs.{none_left}
use Rattle.zone_asking.proofs.words.are_limits.Goals as goal

pub returns : goal.returns
returns c = c.is_empty.ensures ∙ sym (none_left string_bytes c.loop-rest.rest.now c.in_default.len_below) ∙ c.loop-rest.invariant
