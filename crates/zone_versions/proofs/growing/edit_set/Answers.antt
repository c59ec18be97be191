use Rattle.std.proofs.Common.{Some, ap, ◌∙◌, sym, is_ok}
use Rattle.zone_versions.specs.Trees.{type_in}
use Rattle.zone_versions.specs.Ways.{put_node, put_held}
use Rattle.zone_versions.proofs.Named.{on_ok, on_err}
use Rattle.zone_versions.proofs.growing.edit_set.Goals as goal

pub returns-clause-ok : goal.returns-clause-ok
returns-clause-ok g c =
    let nodes = c.args.nodes.now in
    let name = c.args.name.now in
    on_ok c.edit.result
    (λ e. (c.node_mut.follows.holds c.edit.new.self (ap is_ok c.in_ok-node_mut.was)).0 ∙ ap (put_node nodes name) e
    ∙ ap (λ x. put_held nodes name c.args.rtype (g.E.SetEdit.edited c.args.edit (type_in x c.args.rtype)) x) (sym c.in_ok-node_mut.ensures.value))
    c.edit.ensures.ok

pub returns-clause-err : goal.returns-clause-err
returns-clause-err g c =
    on_err c.edit.result
    (λ e. (c.node_mut.follows.holds c.edit.new.self (ap is_ok c.in_ok-node_mut.was)).1 (c.in_ok-node_mut.ensures.value ∙ ap Some (sym e)))
    c.edit.ensures.err
