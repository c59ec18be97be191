use Rattle.std.proofs.Common.{sym, ◌∙◌}
use Rattle.zone_records.proofs.Opened.{spelled_so}
use Rattle.zone_records.proofs.opening_sets.is_spelled_so.Goals as goal

pub returns : goal.returns
returns c same =
    spelled_so c.args.name.now c.args.other.now c.as_slice.result.now c.as_slice-2.result.now c.as_slice.ensures.wire c.as_slice-2.ensures.wire c.as_slice.ensures.name c.as_slice-2.ensures.name (sym c.eq.ensures ∙ same)
