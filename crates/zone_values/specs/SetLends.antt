-- What a shared RRset ends as, where a `&mut` to the RRset is lent out.
use Rattle.std.specs.Prelude.{◌≡◌, Result}
use Rattle.std.specs.Borrow.{LendsSoOk, Fml, MutBor}
use Rattle.zone_values.specs.TypedSets.{TypedSet}
use Rattle.zone_values.specs.contracts.rrset.Rrset.{the_row as set_row}
use Rattle.zone_values.specs.contracts.rrset.SharedRrset.{the_row as shared_row}

-- it is the last RRset written through r, and at `Err` is as before
abbrev pub lends_set : MutBor TypedSet → {E : Type 0} → Result (MutBor TypedSet) E → Fml
lends_set s r = LendsSoOk shared_row set_row s r (λ n w. n ≡ w) (λ n. n ≡ s.now)
