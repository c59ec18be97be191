use Rattle.std.proofs.Common.{ap, ◌∙◌}
use Rattle.dns_name.specs.Names.{fold}
use Rattle.zone_versions.proofs.walk.key_of.Goals as goal

-- The owner is in lower case.
pub returns : goal.returns
returns c = c.new.ensures ∙ (λ i. ((ap fold (c.to_name.ensures ∙ c.owner.ensures.is) ∙ c.owner.ensures.folded) i, c.rtype.ensures i))
