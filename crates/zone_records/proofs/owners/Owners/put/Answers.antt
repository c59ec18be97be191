use Rattle.std.proofs.Common.{ap, sym, subst, ◌∙◌}
use Rattle.zone_model.specs.Version.{Sets}
use Rattle.zone_records.specs.Parsed.{IsTidy}
use Rattle.zone_records.specs.Taking.{put_to}
use Rattle.zone_records.proofs.Tidy.{put_opening_is, put_tidy}
use Rattle.zone_records.proofs.owners.Owners.put.Goals as goal

-- What is put is as a zone opens, and stays tidy.
pub invariant_of-self-2 : goal.invariant_of-self-2
invariant_of-self-2 c =
    let sets = c.self.inside.sets in
    let r = c.args.found in
    subst (λ (l : Sets). IsTidy l) (sym (c.in_ok-put.ensures.ok ∙ put_opening_is sets r c.self.invariant)) (put_tidy sets r c.self.invariant)

pub returns-clause-ok : goal.returns-clause-ok
returns-clause-ok c =
    let sets = c.self.inside.sets in
    let r = c.args.found in
    c.in_ok-put.ensures.ok ∙ put_opening_is sets r c.self.invariant ∙ ap (λ (l : Sets). put_to l r) c.self.view_is
