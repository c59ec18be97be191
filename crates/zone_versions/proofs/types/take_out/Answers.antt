use Rattle.std.proofs.Common.{◌≡◌, ◌≢◌, Some, ap, ◌∙◌, subst, slice_get}
use Rattle.zone_versions.specs.Held.{held_of}
use Rattle.zone_versions.proofs.Row.{type_at, below_of, from_of, ascend_of, past, taken_at, not_taken}
use Rattle.zone_versions.proofs.types.take_out.Goals as goal

pub returns-then-has_type_at : goal.returns-then-has_type_at
returns-then-has_type_at c =
    ap held_of c.remove.ensures.items
    ∙ taken_at c.args.sets.now.items c.place_of-at.result c.args.rtype (below_of c.place_of-at.result c.args.rtype c.deref.ensures.value c.place_of-at.ensures.below)
    (subst (λ l. type_at l c.place_of-at.result ≡ Some c.args.rtype) c.deref-2.ensures.value (c.has_type_at.ensures.there c.if-has_type_at.true))

pub returns-else-has_type_at : goal.returns-else-has_type_at
returns-else-has_type_at c =
    not_taken c.args.sets.now.items c.place_of-at.result c.args.rtype (ascend_of c.args.sets.now.items c.requires) (below_of c.place_of-at.result c.args.rtype c.deref.ensures.value c.place_of-at.ensures.below)
    (past c.args.rtype (slice_get c.args.sets.now.items c.place_of-at.result) (from_of c.place_of-at.result c.args.rtype c.deref.ensures.value c.place_of-at.ensures.next)
    (subst (λ l. type_at l c.place_of-at.result ≢ Some c.args.rtype) c.deref-2.ensures.value (c.has_type_at.ensures.other c.if-has_type_at.false)))
