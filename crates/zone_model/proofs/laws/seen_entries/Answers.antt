use Rattle.std.proofs.Common.{◌+◌}
use Rattle.std.specs.Ordering.{nat_cmp}
use Rattle.zone_model.proofs.Entries.{seen-insert_entry}
use Rattle.zone_model.proofs.laws.seen_entries.Goals as goal

pub returns : goal.returns
returns c = seen-insert_entry (λ x. x + 1) nat_cmp
