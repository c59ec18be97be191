use Rattle.std.proofs.Common.{◌∙◌, slice_get}
use Rattle.zone_versions.proofs.Row.{ascend_of, past, got, typed_there, absent_typed}
use Rattle.zone_versions.proofs.types.set_of.Goals as goal

pub returns-then-has_type_at : goal.returns-then-has_type_at
returns-then-has_type_at c =
    got c.args.sets.now c.place_of-at.result c.get.result c.get.ensures.lookup
    ∙ typed_there c.args.sets.now c.place_of-at.result c.args.rtype c.place_of-at.ensures.below (c.has_type_at.ensures.there c.if-has_type_at.true)

pub returns-else-has_type_at : goal.returns-else-has_type_at
returns-else-has_type_at c =
    absent_typed c.args.sets.now c.place_of-at.result c.args.rtype (ascend_of c.args.sets.now c.requires) c.place_of-at.ensures.below
    (past c.args.rtype (slice_get c.args.sets.now c.place_of-at.result) c.place_of-at.ensures.next (c.has_type_at.ensures.other c.if-has_type_at.false))
