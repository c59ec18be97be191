use Rattle.std.proofs.Common.{◌≡◌, false, sym, ap, ◌∙◌, subst}
use Rattle.dns_name.specs.Names.{under}
use Rattle.zone_model.specs.Edits.{clear}
use Rattle.zone_versions.proofs.Cleared.{clear_result, clear_view}
use Rattle.zone_versions.proofs.Named.{on_ok}
use Rattle.zone_versions.proofs.tree.VersionTree.clear_below.Goals as goal

pub invariant_of-self : goal.invariant_of-self
invariant_of-self c =
    clear_result c.self.inside.apex c.self.inside.class c.self.inside.nodes c.self.invariant c.args.name.now (subst (λ v. under v.apex c.args.name.now ≡ false) (sym c.self.view_is) c.requires)
    c.put-apex.result c.put-apex.ensures.value c.clear_below.new.nodes c.clear_below.result c.clear_below.ensures.ok c.clear_below.ensures.err

pub returns-clause-ok : goal.returns-clause-ok
returns-clause-ok c =
    on_ok c.clear_below.result
    (λ e. clear_view c.self.inside.apex c.self.inside.class c.self.inside.nodes c.self.invariant c.args.name.now (subst (λ v. under v.apex c.args.name.now ≡ false) (sym c.self.view_is) c.requires)
    c.put-apex.result c.put-apex.ensures.value c.clear_below.new.nodes e
    ∙ ap (λ v. clear v c.args.name.now) c.self.view_is)
    c.clear_below.ensures.ok
