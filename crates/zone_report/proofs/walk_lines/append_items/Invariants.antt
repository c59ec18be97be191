use Rattle.std.proofs.Common.{◌≡◌, All, ◌++◌, length, map}
use Rattle.std.specs.Prelude.{flat_map}
use Rattle.dns_rdata.specs.ZoneData.{rtype_of, data_fields}
use Rattle.zone_report.specs.Lines.{item_line}
use Rattle.zone_report.proofs.walk_lines.append_items.Given as goal

abbrev pub invariant-lines : goal.invariant-lines
invariant-lines l = record {
  types : All (λ d. rtype_of d ≡ l.stop.rtype) l.rest;
  lines : l.out.items ++ flat_map (item_line l.class l.stop) (map data_fields l.rest) ≡ l.initial.out.items ++ flat_map (item_line l.class l.stop) (map data_fields l.items);
}

abbrev pub decreases-lines : goal.decreases-lines
decreases-lines l = length l.rest
