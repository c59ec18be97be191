use Rattle.std.proofs.Common.{◌≤◌, ◌<◌, ◌∙◌, ap, subst, drop, take, IfSome, slice_get, nat_cmp}
use Rattle.std.specs.List.{AllByRecursion}
use Rattle.std.specs.List.Sorted.{IsStrictlySortedBy}
use Rattle.std.proofs.lemmas.List.{take_rest}
use Rattle.zone_values.specs.TypedSets.{TypedSet}
use Rattle.zone_versions.specs.Held.{typed_sets, after_type}
use Rattle.zone_versions.proofs.Row.{row_types, rest_after}
use Rattle.zone_versions.proofs.node.ZoneNode.after.Goals as goal

pub returns : goal.returns
returns c =
    let xs = c.self.inside.sets.items in
    let at = c.count_up_to.result in
    take_rest c.deref.result.now at ∙ ap (drop at) c.deref.ensures.value
    ∙ rest_after xs at c.args.rtype (subst (IsStrictlySortedBy nat_cmp) (row_types xs) c.self.invariant.ordered)
    (subst (λ l. AllByRecursion (λ (s : TypedSet). s.rtype ≤ c.args.rtype) (take at l)) c.deref-2.ensures.value c.count_up_to.ensures.below)
    (subst (λ l. IfSome (slice_get l at) (λ (s : TypedSet). c.args.rtype < s.rtype)) c.deref-2.ensures.value c.count_up_to.ensures.next)
    ∙ ap (λ h. typed_sets (after_type c.args.rtype h)) c.self.view_is
