use Rattle.std.proofs.Common.{sym, ◌∙◌, string_bytes}
use Rattle.zone_asking.proofs.WordPairs.{none_named}
use Rattle.zone_asking.proofs.words.has_limit.Goals as goal

pub returns : goal.returns
returns c = sym (none_named string_bytes c.args.name.now c.loop-rest.rest.now c.in_default.len_below) ∙ c.loop-rest.invariant
