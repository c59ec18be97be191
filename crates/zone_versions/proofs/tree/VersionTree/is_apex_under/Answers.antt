use Rattle.std.proofs.Common.{refl, ap, ◌∙◌}
use Rattle.dns_name.specs.Names.{fold, under}
use Rattle.zone_model.specs.Version.{Version}
use Rattle.zone_model.proofs.Folded.{fold-fold, under_alike}
use Rattle.zone_versions.proofs.tree.VersionTree.is_apex_under.Goals as goal

pub returns : goal.returns
returns c =
    c.is_under.ensures ∙ ap (λ a. under a c.args.name.now) c.put.ensures.value
    ∙ under_alike (fold c.self.inside.apex) c.self.inside.apex c.args.name.now c.args.name.now (fold-fold c.self.inside.apex) refl
    ∙ ap (λ (v : Version). under v.apex c.args.name.now) c.self.view_is
