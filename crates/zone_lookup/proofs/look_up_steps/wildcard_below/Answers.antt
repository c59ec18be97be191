use Rattle.std.proofs.Common.{◌≡◌, sym, ap, ◌∙◌}
use Rattle.zone_lookup.proofs.Wildcards.{wildcard_put, wildcard_is, wildcard_is_name, wildcard_spelled}
use Rattle.zone_lookup.proofs.look_up_steps.wildcard_below.Goals as goal

pub from_wire-requires-clause-name : goal.from_wire-requires-clause-name
from_wire-requires-clause-name c =
    wildcard_is_name _ c.args.name.now (wildcard_put _ _ _ _ c.args.name.now c.append.ensures.ok c.append.ensures.full c.from_slice-octets.ensures c.as_slice.ensures.wire c.requires) c.as_slice.ensures.name c.requires

pub from_wire-requires-clause-wire : goal.from_wire-requires-clause-wire
from_wire-requires-clause-wire c =
    wildcard_spelled _ c.args.name.now (wildcard_put _ _ _ _ c.args.name.now c.append.ensures.ok c.append.ensures.full c.from_slice-octets.ensures c.as_slice.ensures.wire c.requires) c.as_slice.ensures.name c.requires

pub returns : goal.returns
returns c =
    c.from_wire.ensures ∙ wildcard_is _ c.args.name.now (wildcard_put _ _ _ _ c.args.name.now c.append.ensures.ok c.append.ensures.full c.from_slice-octets.ensures c.as_slice.ensures.wire c.requires) c.as_slice.ensures.name c.requires
