use Rattle.std.proofs.Common.{sym, ◌∙◌, eqb-true}
use Rattle.zone_records.proofs.opening_sets.is_of.Goals as goal

pub returns-then-is_spelled_so : goal.returns-then-is_spelled_so
returns-then-is_spelled_so c same =
    (sym c.apex.ensures ∙ c.is_spelled_so.ensures c.if-is_spelled_so.true, sym c.class.ensures ∙ eqb-true c.class.result c.args.class (sym c.eq.ensures ∙ same))
