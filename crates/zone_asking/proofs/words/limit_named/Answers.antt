use Rattle.std.proofs.Common.{sym, ◌∙◌, string_bytes}
use Rattle.zone_asking.proofs.WordPairs.{usual_named}
use Rattle.zone_asking.proofs.words.limit_named.Goals as goal

pub returns-clause-value : goal.returns-clause-value
returns-clause-value c =
    sym (usual_named string_bytes c.args.name.now c.args.bound c.args.usual c.loop-rest.rest.now c.in_default.len_below) ∙ c.loop-rest.invariant
