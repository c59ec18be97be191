use Rattle.std.proofs.Common.{◌&&◌, is_some, length, ap, ◌∙◌, arith}
use Rattle.dns_name.specs.Names.{name_wire, under}
use Rattle.dns_numbers.specs.Codes.{type_ns}
use Rattle.zone_model.specs.Version.{set_at}
use Rattle.zone_versions.proofs.ApexLengths.{of_short, of_long}
use Rattle.zone_versions.proofs.version.ZoneVersion.is_cut_at.Goals as goal

-- A name that isn't longer isn't below.
pub returns-then-compose_len : goal.returns-then-compose_len
returns-then-compose_len c =
    let name = c.args.name.now in
    let apex = c.compose_len-2.ensures.len ∙ ap (λ n. length (name_wire n)) c.apex.ensures in
    ap (λ b. b && is_some (set_at c.args.self.now name type_ns)) (of_short name c.args.self.now.apex (omega (arith, c.if-compose_len.true, c.compose_len.ensures.len, apex)))

-- A longer one isn't the apex.
pub returns-then-is_at_or_below : goal.returns-then-is_at_or_below
returns-then-is_at_or_below c =
    let name = c.args.name.now in
    let apex = c.compose_len-2.ensures.len ∙ ap (λ n. length (name_wire n)) c.apex.ensures in
    c.has_set.ensures
    ∙ ap (λ b. b && is_some (set_at c.args.self.now name type_ns))
    (c.if-is_at_or_below.ensures ∙ (λ i. under name (c.apex-2.ensures i))
    ∙ of_long name c.args.self.now.apex (λ short. omega (arith, c.if-compose_len.false, short, c.compose_len.ensures.len, apex)))
