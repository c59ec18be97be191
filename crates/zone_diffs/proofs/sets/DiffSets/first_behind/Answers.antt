use Rattle.std.proofs.Common.{ap, ◌∙◌, option_map}
use Rattle.std.specs.Map.Iter.{deref_pair}
use Rattle.std.specs.List.{find}
use Rattle.std.specs.Ordering.{is_lt}
use Rattle.zone_model.specs.Version.{Key, RecordSet, Sets, key_cmp}
use Rattle.zone_values.specs.TypedEntries.{item_of}
use Rattle.zone_values.proofs.FirstEntries.{takes_head, head_of, first_of_range}
use Rattle.zone_values.proofs.KeptTypes.{find_seen}
use Rattle.zone_diffs.proofs.Entries.{kept_own}
use Rattle.zone_diffs.proofs.sets.DiffSets.first_behind.Goals as goal

-- The range holds what is after the key, and `next` gives its first.
pub returns : goal.returns
returns c =
    takes_head deref_pair c.range.result c.next.result c.next.new.self c.next.ensures.steps ∙ ap head_of (c.range.ensures.between tt) ∙ first_of_range c.args.key.now c.self.inside.entries.entries
    ∙ find_seen (λ (k : Key). is_lt (key_cmp c.args.key.now k)) c.self.inside.entries.entries (kept_own c.self.inside.entries.entries c.self.invariant)
    ∙ ap (λ (sets : Sets). option_map item_of (find (λ (e : Key × RecordSet). is_lt (key_cmp c.args.key.now e.0)) sets)) c.self.view_is
