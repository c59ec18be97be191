use Rattle.std.proofs.Common.{◌==◌, ◌&&◌, not, length, sym, ap, ◌∙◌}
use Rattle.dns_numbers.specs.Codes.{type_cname}
use Rattle.dns_name.specs.Names.{under, same_name}
use Rattle.zone_model.specs.Edits.{distinct}
use Rattle.zone_versions.proofs.nodes.is_bad_alias.Goals as goal

-- The version's apex is this.
pub returns : goal.returns
returns c =
    λ v e.
    c.is_bad_below.ensures
    ∙ ap (λ a. (under c.args.owner.now a && not (same_name c.args.owner.now a)) && (c.args.set.now.rtype == type_cname) && not (length (distinct c.args.set.now.contents.items) == 1)) (sym e)
