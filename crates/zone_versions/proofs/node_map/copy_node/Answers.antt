use Rattle.std.proofs.Common.{sym, ap, ◌∙◌, Some}
use Rattle.paged_map.proofs.MarkOrder.{octets_total}
use Rattle.zone_versions.proofs.Written.{same_either_way}
use Rattle.zone_versions.proofs.node_map.copy_node.Goals as goal

pub returns-clause-same : goal.returns-clause-same
returns-clause-same c =
    same_either_way octets_total c.insert-done.result c.insert-done.new.self c.args.pages.now c.args.key.now c.in_ok-copy.copy c.requires
    (sym c.in-Some.ensures ∙ ap Some (sym c.in_ok-copy.ensures.is)) c.insert-done.ensures.ok c.insert-done.ensures.err
