use Rattle.dns_rdata.specs.ZoneData.{rtype_of, data_fields}
use Rattle.zone_report.specs.Lines.{item_line}
use Rattle.zone_report.proofs.WalkLines.{typed_rest, one_line}
use Rattle.zone_report.proofs.walk_lines.append_items.Goals as goal

pub append_item-requires : goal.append_item-requires
append_item-requires c =
    (typed_rest rtype_of c.args.stop.now.rtype c.lines.rest.now c.in-Some.behind.now c.in-Some.item.now c.in-Some.ensures.cases.0 c.lines.invariant.types).0

pub lines-preserved : goal.lines-preserved
lines-preserved c =
    let line = item_line c.args.class c.args.stop.now in
    let split = c.in-Some.ensures.cases.0 in
    record {
      types = (typed_rest rtype_of c.args.stop.now.rtype c.lines.rest.now c.in-Some.behind.now c.in-Some.item.now split c.lines.invariant.types).1;
      lines = one_line data_fields line c.lines.rest.now c.in-Some.behind.now c.in-Some.item.now c.lines.out.items c.append_item.new.out.items _ split c.lines.invariant.lines c.in_ok-append_item.ensures;
    }
