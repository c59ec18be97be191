use Rattle.std.proofs.Common.{◌≡◌, sym, ap, ◌∙◌}
use Rattle.dns_name.specs.Names.{wildcard_below}
use Rattle.zone_lookup.proofs.Enclosers.{not_here, is_here, parent_inside}
use Rattle.zone_lookup.proofs.Wildcards.{room_above}
use Rattle.zone_lookup.proofs.look_up_steps.source_of_synthesis.Goals as goal

pub wildcard_below-requires : goal.wildcard_below-requires
wildcard_below-requires c = room_above c.loop-parent.rest c.in-Some.parent c.in-Some.field-0-0 c.in-Some.ensures c.as_slice.ensures.name

-- The closest encloser is the first name upwards that exists.
pub returns-then-exists : goal.returns-then-exists
returns-then-exists c =
    c.wildcard_below.ensures ∙ ap wildcard_below (sym (
    c.loop-parent.invariant.0 ∙ not_here c.args.version.now c.loop-parent.rest c.in-Some.parent c.in-Some.field-0-0 c.in-Some.ensures c.loop-parent.invariant.2
    ∙ is_here c.args.version.now c.in-Some.parent (sym c.if-exists.ensures)
    ))

pub loop-parent-preserved : goal.loop-parent-preserved
loop-parent-preserved c = (
  c.loop-parent.invariant.0 ∙ not_here c.args.version.now c.loop-parent.rest c.in-Some.parent c.in-Some.field-0-0 c.in-Some.ensures c.loop-parent.invariant.2,
  parent_inside c.args.version.now c.loop-parent.rest c.in-Some.parent c.in-Some.field-0-0 c.in-Some.ensures c.loop-parent.invariant.1 c.loop-parent.invariant.2,
  sym c.if-exists.ensures,
)
