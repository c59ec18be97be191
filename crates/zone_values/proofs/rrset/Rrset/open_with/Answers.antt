use Rattle.std.proofs.Common.{◌≡◌, ap, sym, ◌∙◌}
use Rattle.dns_rdata.specs.ZoneData.{rtype_of}
use Rattle.zone_values.specs.TypedSets.{TypedSet}
use Rattle.zone_values.proofs.Telling.{pushed_or_not}
use Rattle.zone_values.proofs.rrset.Rrset.open_with.Goals as goal

-- The data are of the set's type, with those put or without.
pub invariant_of-self-then-to_int : goal.invariant_of-self-then-to_int
invariant_of-self-then-to_int c = (
  c.push_unless_there.ensures.indexed,
  pushed_or_not (λ d. rtype_of d ≡ c.self.inside.rtype) c.self.inside.items.items c.push_unless_there.new.items.items c.args.item c.in_ok-push_unless_there.field-0 c.in_ok-push_unless_there.ensures.put
      c.in_ok-push_unless_there.ensures.same c.self.invariant.1 (c.requires ∙ sym (ap (λ (s : TypedSet). s.rtype) c.self.view_is)),
)

pub invariant_of-self-else-to_int : goal.invariant_of-self-else-to_int
invariant_of-self-else-to_int c = (
  c.push_unless_there.ensures.indexed,
  pushed_or_not (λ d. rtype_of d ≡ c.self.inside.rtype) c.self.inside.items.items c.push_unless_there.new.items.items c.args.item c.in_ok-push_unless_there.field-0 c.in_ok-push_unless_there.ensures.put
      c.in_ok-push_unless_there.ensures.same c.self.invariant.1 (c.requires ∙ sym (ap (λ (s : TypedSet). s.rtype) c.self.view_is)),
)
