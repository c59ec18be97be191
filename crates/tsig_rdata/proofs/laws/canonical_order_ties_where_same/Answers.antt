use Rattle.tsig_rdata.proofs.CanonicalTies.{canonical_ties_where_same, canonical_total, same_are_equal}
use Rattle.tsig_rdata.proofs.laws.canonical_order_ties_where_same.Goals as goal

pub returns-clause-total : goal.returns-clause-total
returns-clause-total c = canonical_total

pub returns-clause-ties : goal.returns-clause-ties
returns-clause-ties c = canonical_ties_where_same

pub returns-clause-equal : goal.returns-clause-equal
returns-clause-equal c = λ a b p q e. same_are_equal a b ((canonical_ties_where_same a b p q).0 e)
