use Rattle.std.proofs.Common.{sym, ◌∙◌}
use Rattle.zone_versions.proofs.Cleared.{none_told, none_first, no_sets}
use Rattle.zone_versions.proofs.tree.VersionTree.clear_all.Goals as goal

pub returns-then-is_none-clause-ok : goal.returns-then-is_none-clause-ok
returns-then-is_none-clause-ok c =
    no_sets c.args.self.now (none_told c.args.self.now.sets (sym c.sets.ensures ∙ none_first c.sets.result c.next.result c.next.new.self c.next.ensures.steps c.if-is_none.ensures))
