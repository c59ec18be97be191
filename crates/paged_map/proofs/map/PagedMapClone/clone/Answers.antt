use Rattle.std.proofs.Common.{◌≡◌, sym, ap, ◌∙◌, subst}
use Rattle.paged_map.specs.Pages.{AreFit, Ascend, joined}
use Rattle.paged_map.proofs.Shared.{cloned_values}
use Rattle.paged_map.proofs.map.PagedMapClone.clone.Goals as goal

pub invariant_of-result : goal.invariant_of-result
invariant_of-result g c = subst (λ ps. AreFit ps × Ascend (joined ps)) (sym (cloned_values c.self.inside.pages.items c.in_ok-clone.field-0.items c.in_ok-clone.ensures.cases.0)) c.self.invariant

pub returns : goal.returns
returns g c = record { cases = ap joined (cloned_values c.self.inside.pages.items c.in_ok-clone.field-0.items c.in_ok-clone.ensures.cases.0) ∙ c.self.view_is }
