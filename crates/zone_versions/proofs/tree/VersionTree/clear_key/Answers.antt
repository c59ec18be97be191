use Rattle.std.proofs.Common.{sym, ◌∙◌}
use Rattle.zone_versions.specs.Keyed.{named}
use Rattle.zone_versions.proofs.Cleared.{cleared_all}
use Rattle.zone_versions.proofs.Named.{on_ok}
use Rattle.zone_versions.proofs.tree.VersionTree.clear_key.Goals as goal

pub returns-then-is_apex_under-clause-ok : goal.returns-then-is_apex_under-clause-ok
returns-then-is_apex_under-clause-ok c =
    on_ok c.clear_all.result (λ e. e ∙ sym (cleared_all c.args.self.now (named c.nodes.result) c.nodes.ensures.tree c.args.name.now (sym c.is_apex_under.ensures ∙ c.if-is_apex_under.true))) c.clear_all.ensures.ok
