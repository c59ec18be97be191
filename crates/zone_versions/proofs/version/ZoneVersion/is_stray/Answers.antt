use Rattle.std.proofs.Common.{◌≡◌, ◌==◌, true, not, is_some, sym, ap, ◌∙◌}
use Rattle.zone_model.specs.Version.{set_at, below_apex}
use Rattle.dns_numbers.specs.Codes.{type_ds, type_ns}
use Rattle.zone_versions.proofs.Conditions.{not_false, third}
use Rattle.zone_versions.proofs.version.ZoneVersion.is_stray.Goals as goal

-- The owner is below the apex, and the type is DS.
pub returns : goal.returns
returns c =
    let below : below_apex c.args.self.now c.args.key.now.0 ≡ true = ap (below_apex c.args.self.now) (sym c.owner.ensures) ∙ sym c.if-not-is_below_apex.ensures in
    let signed : (c.args.key.now.1 == type_ds) ≡ true = ap (λ t. t == type_ds) (sym c.rtype.ensures) ∙ not_false (c.rtype.result == type_ds) c.if-ne.ensures in
    ap not (c.has_set.ensures ∙ ap (λ n. is_some (set_at c.args.self.now n type_ns)) c.owner-2.ensures) ∙ third _ _ _ below signed
