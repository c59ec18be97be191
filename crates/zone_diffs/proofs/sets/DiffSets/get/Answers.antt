use Rattle.std.proofs.Common.{◌∙◌, ap}
use Rattle.zone_model.specs.Version.{Sets}
use Rattle.zone_values.specs.TypedEntries.{typed_set_in}
use Rattle.zone_values.proofs.KeptTypes.{lookup_seen}
use Rattle.zone_diffs.proofs.Entries.{kept_own}
use Rattle.zone_diffs.proofs.sets.DiffSets.get.Goals as goal

pub returns : goal.returns
returns c = c.get.ensures.value ∙ lookup_seen c.self.inside.entries.entries c.args.key.now (kept_own c.self.inside.entries.entries c.self.invariant) ∙ ap (λ (es : Sets). typed_set_in es c.args.key.now) c.self.view_is
