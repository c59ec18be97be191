use Rattle.std.proofs.Common.{sym, ap, ◌∙◌, subst}
use Rattle.std.proofs.lemmas.Result.{IfOk-weaker}
use Rattle.zone_versions.specs.Trees.{IsHeld}
use Rattle.zone_versions.specs.Held.{held_of}
use Rattle.zone_versions.proofs.node.ZoneNode.shared_sets.Goals as goal

pub returns-clause-same : goal.returns-clause-same
returns-clause-same c = IfOk-weaker c.copied.result _ _ (λ l is. ap held_of is ∙ c.self.view_is) c.copied.ensures

pub returns-clause-held : goal.returns-clause-held
returns-clause-held c = IfOk-weaker c.copied.result _ _ (λ l is. subst (λ x. IsHeld (held_of x)) (sym is) c.self.invariant) c.copied.ensures
