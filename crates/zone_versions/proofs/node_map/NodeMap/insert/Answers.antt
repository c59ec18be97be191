use Rattle.std.proofs.Common.{sym, ap, ◌∙◌, subst}
use Rattle.std.specs.BTreeMap.{insert_entry}
use Rattle.paged_map.specs.Octets.{octets_cmp}
use Rattle.zone_versions.specs.Ways.{put_node}
use Rattle.zone_versions.specs.Keyed.{named, AreKeys}
use Rattle.zone_versions.proofs.Named.{insert_named, keys_insert, on_ok, either_kept, sorted_insert}
use Rattle.zone_versions.proofs.node_map.NodeMap.insert.Goals as goal

pub invariant_of-self : goal.invariant_of-self
invariant_of-self c =
    either_kept c.insert.result c.insert.new.self (insert_entry octets_cmp c.self.inside.pages c.as_slice.result.now c.args.node) c.self.inside.pages c.insert.ensures.ok c.insert.ensures.err
    (subst (λ k. AreKeys (insert_entry octets_cmp c.self.inside.pages k c.args.node)) (sym c.as_slice.ensures.value) (keys_insert c.self.inside.pages c.args.name.now c.args.node c.as_slice.ensures.name c.self.invariant.0), sorted_insert c.self.inside.pages c.as_slice.result.now c.args.node c.self.invariant.1) c.self.invariant

pub returns-clause-ok : goal.returns-clause-ok
returns-clause-ok c =
    on_ok c.insert.result
    (λ e. ap named (e ∙ ap (λ k. insert_entry octets_cmp c.self.inside.pages k c.args.node) c.as_slice.ensures.value)
    ∙ insert_named c.self.inside.pages c.args.name.now c.args.node c.as_slice.ensures.folded c.self.invariant.0 ∙ ap (λ m. put_node m c.args.name.now c.args.node) c.self.view_is)
    c.insert.ensures.ok
