use Rattle.std.proofs.Common.{◌≡◌, ◌==◌, true, is_some, sym, ap, ◌∙◌}
use Rattle.zone_model.specs.Version.{set_at, below_apex}
use Rattle.dns_numbers.specs.Codes.{type_cname}
use Rattle.zone_versions.proofs.Conditions.{not_false, third}
use Rattle.zone_versions.proofs.version.ZoneVersion.is_second_alias.Goals as goal

-- The owner is below the apex, and the type is CNAME.
pub returns : goal.returns
returns c =
    let below : below_apex c.args.self.now c.args.added.now.owner ≡ true = ap (below_apex c.args.self.now) (sym c.owner.ensures) ∙ sym c.if-not-is_below_apex.ensures in
    let alias : (c.args.added.now.rtype == type_cname) ≡ true = ap (λ t. t == type_cname) (sym c.rtype.ensures) ∙ not_false (c.rtype.result == type_cname) c.if-ne.ensures in
    c.has_set.ensures ∙ ap (λ n. is_some (set_at c.args.self.now n type_cname)) c.owner-2.ensures ∙ third _ _ _ below alias
