use Rattle.std.proofs.Common.{◌≡◌, ◌==◌, ◌&&◌, true, not, length, List, sym, ap, ◌∙◌}
use Rattle.dns_rdata.specs.Records.{Field}
use Rattle.dns_numbers.specs.Codes.{type_cname}
use Rattle.dns_name.specs.Names.{under, same_name}
use Rattle.zone_model.specs.Edits.{distinct}
use Rattle.zone_versions.proofs.Conditions.{not_false, third}
use Rattle.zone_versions.proofs.nodes.is_bad_below.Goals as goal

-- The owner is below the apex, and the type is CNAME.
pub returns : goal.returns
returns c =
    let below : (under c.args.owner.now c.args.apex.now && not (same_name c.args.owner.now c.args.apex.now)) ≡ true = sym c.if-not-is_below.ensures in
    let alias : (c.args.set.now.rtype == type_cname) ≡ true = ap (λ t. t == type_cname) (sym c.rtype.ensures) ∙ not_false (c.rtype.result == type_cname) c.if-ne.ensures in
    ap not (c.has_one_value.ensures ∙ ap (λ (xs : List (List Field)). length (distinct xs) == 1) c.data.ensures.fields) ∙ third _ _ _ below alias
