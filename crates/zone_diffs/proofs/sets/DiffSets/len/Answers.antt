use Rattle.std.proofs.Common.{◌∙◌, sym, ap, subst, IsTrue}
use Rattle.std.specs.List.{list_all}
use Rattle.std.specs.List.Sorted.{IsStrictlySortedBy}
use Rattle.std.specs.Map.{keys_of}
use Rattle.zone_model.specs.Version.{key_cmp, Sets}
use Rattle.zone_diffs.specs.Kept.{holds_data}
use Rattle.zone_values.proofs.KeptTypes.{keys_seen}
use Rattle.zone_diffs.proofs.Entries.{full_seen}
use Rattle.zone_diffs.proofs.sets.DiffSets.len.Goals as goal

pub returns-clause-ordered : goal.returns-clause-ordered
returns-clause-ordered c = subst (IsStrictlySortedBy key_cmp) (sym (keys_seen c.self.inside.entries.entries) ∙ ap keys_of c.self.view_is) c.len.ensures.ordered

pub returns-clause-full : goal.returns-clause-full
returns-clause-full c = subst (λ (es : Sets). IsTrue (list_all holds_data es)) c.self.view_is (full_seen c.self.inside.entries.entries c.self.invariant)
