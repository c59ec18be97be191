use Rattle.std.proofs.Common.{◌≤◌, List, ℕ, length, sym, subst}
use Rattle.name_keys.proofs.Ranges.{some_octet}
use Rattle.name_keys.proofs.key.KeyedName.to_boxed_end.Goals as goal

pub slice_bounds-from_slice-count : goal.slice_bounds-from_slice-count
slice_bounds-from_slice-count g c = subst (λ (o : List ℕ). 1 ≤ length o) (sym c.as_slice-octets.ensures.value) (some_octet c.args.self.now c.requires)
