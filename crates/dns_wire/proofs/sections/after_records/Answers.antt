use Rattle.std.proofs.Common.{◌<◌, arith, sym, ◌∙◌}
use Rattle.dns_rdata.specs.Heads.{raw_record_at}
use Rattle.dns_wire.proofs.Items.{after_items_more}
use Rattle.dns_wire.proofs.sections.after_records.Goals as goal

pub loop-left-preserved : goal.loop-left-preserved
loop-left-preserved c =
    let some : 0 < c.loop-left.left = omega arith in
    let first = after_items_more (raw_record_at c.args.message.now) c.loop-left.left c.loop-left.place (c.in_ok-after.field-0-0.raw, c.in_ok-after.after) some c.in_ok-after.ensures.found in
    sym first ∙ c.loop-left.invariant
