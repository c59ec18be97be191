use Rattle.std.proofs.Common.{All, sym, ap, subst, ◌∙◌}
use Rattle.std.specs.BTreeMap.{is_at}
use Rattle.std.specs.Map.{lookup, remove_entry}
use Rattle.dns_name.specs.Names.{fold}
use Rattle.zone_model.specs.Zones.{zone_key_cmp, zone_of}
use Rattle.zone_tree.proofs.Keys.{IsPlaced}
use Rattle.zone_tree.proofs.Edited.{if_none, removed_there, removed_others, placed_removed}
use Rattle.zone_tree.proofs.tree.ZoneTree.take.Goals as goal

-- What is left stands under its own keys.
pub invariant_of-self : goal.invariant_of-self
invariant_of-self g c =
    let z = g.Z.AtApex in
    record {
      ordered = c.remove.ensures.ordered;
      placed = subst (All (IsPlaced z.class_of z.apex_of)) (sym c.remove.ensures.entries)
          (placed_removed z.class_of z.apex_of c.self.inside.entries.entries (is_at (zone_key_cmp c.zone_key-key.result)) c.self.invariant.placed);
    }

pub returns-clause-value : goal.returns-clause-value
returns-clause-value g c =
    let name = g.N.Labelled.labels c.args.apex_name.now in
    c.remove.ensures.value ∙ ap (λ k. lookup (is_at (zone_key_cmp k)) c.self.inside.entries.entries) c.zone_key-key.ensures ∙ ap (λ es. zone_of es c.args.class name) c.self.view_is

pub returns-clause-is : goal.returns-clause-is
returns-clause-is g c =
    let name = g.N.Labelled.labels c.args.apex_name.now in
    c.remove.ensures.entries ∙ ap (λ k. remove_entry (is_at (zone_key_cmp k)) c.self.inside.entries.entries) c.zone_key-key.ensures ∙ ap (remove_entry (is_at (zone_key_cmp (c.args.class, fold name)))) c.self.view_is

-- Nothing is found where it was taken.
pub returns-clause-gone : goal.returns-clause-gone
returns-clause-gone g c =
    let name = g.N.Labelled.labels c.args.apex_name.now in
    ap (λ es. zone_of es c.args.class name) (c.remove.ensures.entries ∙ ap (λ k. remove_entry (is_at (zone_key_cmp k)) c.self.inside.entries.entries) c.zone_key-key.ensures)
    ∙ removed_there c.self.inside.entries.entries (c.args.class, fold name) c.self.invariant.ordered

-- Every other key has what it had.
pub returns-clause-others : goal.returns-clause-others
returns-clause-others g c = λ q n apart.
    let name = g.N.Labelled.labels c.args.apex_name.now in
    ap (λ es. zone_of es q n) (c.remove.ensures.entries ∙ ap (λ k. remove_entry (is_at (zone_key_cmp k)) c.self.inside.entries.entries) c.zone_key-key.ensures)
    ∙ removed_others c.self.inside.entries.entries c.args.class name c.self.invariant.ordered q n apart ∙ ap (λ es. zone_of es q n) c.self.view_is

pub returns-clause-none : goal.returns-clause-none
returns-clause-none g c = if_none c.remove.result _ _ c.remove.ensures.unchanged (λ e. e ∙ c.self.view_is)
