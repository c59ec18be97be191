use Rattle.std.proofs.Common.{◌≡◌, ◌==◌, ◌∙◌, sym, ap, subst, true, is_some, map, length, IsTrue}
use Rattle.std.specs.List.{list_all}
use Rattle.std.specs.Map.{remove_entry}
use Rattle.std.specs.BTreeMap.{insert_entry}
use Rattle.zone_model.specs.Version.{key_cmp, has_key, set_in, Sets}
use Rattle.zone_values.specs.TypedSets.{TypedSet}
use Rattle.zone_values.specs.TypedEntries.{entry_of}
use Rattle.zone_values.proofs.KeptTypes.{TypedEntries, insert_seen, remove_seen}
use Rattle.zone_diffs.specs.Kept.{is_kept}
use Rattle.zone_diffs.proofs.Entries.{insert_kept, remove_kept, never_found, put_empty, put_full}
use Rattle.zone_diffs.proofs.sets.DiffSets.put.Goals as goal

pub invariant_of-self : goal.invariant_of-self
invariant_of-self c = subst (λ (es : TypedEntries). IsTrue (list_all is_kept es)) (sym c.remove.ensures.entries) (remove_kept (has_key c.args.key) c.self.inside.entries.entries c.self.invariant)

pub returns-then-is_empty-clause-ok : goal.returns-then-is_empty-clause-ok
returns-then-is_empty-clause-ok c =
    ap (map entry_of) c.remove.ensures.entries ∙ remove_seen (has_key c.args.key) c.self.inside.entries.entries ∙ ap (remove_entry (has_key c.args.key)) c.self.view_is
    ∙ sym (put_empty c.args.self.now c.args.key c.args.set.contents (sym (ap (λ (s : TypedSet). length s.contents.items == 0) c.as_rrset.ensures) ∙ sym c.is_empty.ensures ∙ c.if-is_empty.true))

-- An insertion at a key that is there isn't refused.
pub returns-in_err-insert-clause-ready : goal.returns-in_err-insert-clause-ready
returns-in_err-insert-clause-ready c some =
    absurd (never_found c.self.inside.entries.entries c.args.key c.in_err-insert.ensures.absent (subst (λ (es : Sets). is_some (set_in es c.args.key) ≡ true) (sym c.self.view_is) some))

pub invariant_of-self-2 : goal.invariant_of-self-2
invariant_of-self-2 c =
    subst (λ (es : TypedEntries). IsTrue (list_all is_kept es)) (sym c.in_ok-insert.ensures.entries)
    (insert_kept c.self.inside.entries.entries c.args.key c.args.set c.requires (sym (ap (λ (s : TypedSet). length s.contents.items == 0) c.as_rrset.ensures) ∙ sym c.is_empty.ensures ∙ c.if-is_empty.false) c.self.invariant)

pub returns-clause-ok : goal.returns-clause-ok
returns-clause-ok c =
    ap (map entry_of) c.in_ok-insert.ensures.entries ∙ insert_seen c.self.inside.entries.entries c.args.key c.args.set ∙ ap (λ (es : Sets). insert_entry key_cmp es c.args.key c.args.set.contents) c.self.view_is
    ∙ sym (put_full c.args.self.now c.args.key c.args.set.contents (sym (ap (λ (s : TypedSet). length s.contents.items == 0) c.as_rrset.ensures) ∙ sym c.is_empty.ensures ∙ c.if-is_empty.false))
