use Rattle.std.proofs.Common.{◌≤◌, length, subst, sym, nat_cmp}
use Rattle.std.specs.BTreeMap.{is_at}
use Rattle.std.specs.Map.{lookup}
use Rattle.zone_versions.specs.Trees.{NodeSets}
use Rattle.zone_versions.specs.Held.{held_of}
use Rattle.zone_versions.proofs.Row.{held_edited}
use Rattle.zone_versions.proofs.node.ZoneNode.edit.Goals as goal

pub invariant_of-self : goal.invariant_of-self
invariant_of-self g c =
    held_edited c.edit_set.result c.edit_set.new.sets.items c.self.inside.sets.items c.args.rtype
    (g.E.SetEdit.edited c.args.edit (lookup (is_at (nat_cmp c.args.rtype)) (held_of c.self.inside.sets.items)))
    (subst (λ (h : NodeSets). 1 ≤ length (g.E.SetEdit.edited c.args.edit (lookup (is_at (nat_cmp c.args.rtype)) h)).items) (sym c.self.view_is) c.requires.full)
    c.edit_set.ensures.ok c.edit_set.ensures.err c.self.invariant
