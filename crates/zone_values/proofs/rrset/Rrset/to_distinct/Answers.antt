use Rattle.zone_values.proofs.FirstData.{set_differs}
use Rattle.zone_values.proofs.rrset.Rrset.to_distinct.Goals as goal

-- The first of equal data all differ.
pub returns-clause-differ : goal.returns-clause-differ
returns-clause-differ c = set_differs c.first_of_equal.result _ c.args.self.now.contents c.first_of_equal.ensures
