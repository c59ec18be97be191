use Rattle.std.proofs.Common.{◌≡◌, ◌≢◌, ◌≤◌, Some, ap, ◌∙◌, subst, length, slice_get}
use Rattle.zone_versions.specs.Held.{held_of}
use Rattle.zone_versions.proofs.Row.{type_at, below_of, from_of, past, put_over, put_before}
use Rattle.zone_versions.proofs.types.put_in.Goals as goal

pub returns-then-has_type_at : goal.returns-then-has_type_at
returns-then-has_type_at c = record {
  ok =
      put_over c.args.sets.now.items c.place_of-at.result c.args.rtype c.args.set c.requires.own (below_of c.place_of-at.result c.args.rtype c.deref.ensures.value c.place_of-at.ensures.below)
      (subst (λ l. type_at l c.place_of-at.result ≡ Some c.args.rtype) c.deref-2.ensures.value (c.has_type_at.ensures.there c.if-has_type_at.true));
}

pub returns : goal.returns
returns c = record {
  ok =
      ap held_of c.in_ok-insert.ensures.items
      ∙ put_before c.args.sets.now.items c.place_of-at.result c.args.rtype c.args.set c.requires.own (subst (λ l. c.place_of-at.result ≤ length l) c.deref.ensures.value c.place_of-at.ensures.bound)
      (below_of c.place_of-at.result c.args.rtype c.deref.ensures.value c.place_of-at.ensures.below)
      (past c.args.rtype (slice_get c.args.sets.now.items c.place_of-at.result) (from_of c.place_of-at.result c.args.rtype c.deref.ensures.value c.place_of-at.ensures.next)
      (subst (λ l. type_at l c.place_of-at.result ≢ Some c.args.rtype) c.deref-2.ensures.value (c.has_type_at.ensures.other c.if-has_type_at.false)));
}
