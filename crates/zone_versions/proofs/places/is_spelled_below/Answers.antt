use Rattle.std.proofs.Common.{sym, ◌∙◌, bytes_eq}
use Rattle.zone_versions.proofs.Spelled.{under_more, under_itself}
use Rattle.zone_versions.proofs.places.is_spelled_below.Goals as goal

-- With one label more it is still at or below the base.
pub loop-rest-preserved : goal.loop-rest-preserved
loop-rest-preserved c = λ u. c.loop-rest.invariant (under_more _ c.in-Some.parent c.args.base.now c.loop-rest.rest c.in-Some.ensures u)

-- What is left is the base, octet for octet.
pub returns : goal.returns
returns c = λ h.
    c.loop-rest.invariant
    (under_itself c.loop-rest.rest c.args.base.now c.as_slice-2.ensures.name c.as_slice-3.ensures.name
    (sym (c.eq.ensures ∙ (λ i. bytes_eq (c.as_slice-2.ensures.wire i) (c.as_slice-3.ensures.wire i))) ∙ h))
