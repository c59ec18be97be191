use Rattle.std.proofs.Common.{length, ap, ◌∙◌, arith}
use Rattle.dns_name.specs.Names.{name_wire, under}
use Rattle.zone_versions.proofs.ApexLengths.{of_short, of_long}
use Rattle.zone_versions.proofs.version.ZoneVersion.is_below_apex.Goals as goal

-- A name that isn't longer isn't below.
pub returns-then-compose_len : goal.returns-then-compose_len
returns-then-compose_len g c =
    let apex = c.compose_len-2.ensures.len ∙ ap (λ n. length (name_wire n)) c.apex.ensures in
    of_short (g.N.Labelled.labels c.args.name.now) c.args.self.now.apex (omega (arith, c.if-compose_len.true, c.compose_len.ensures.len, apex))

-- A longer one isn't the apex.
pub returns : goal.returns
returns g c =
    let name = g.N.Labelled.labels c.args.name.now in
    let apex = c.compose_len-2.ensures.len ∙ ap (λ n. length (name_wire n)) c.apex.ensures in
    c.is_at_or_below.ensures ∙ (λ i. under (c.to_key_name.ensures.value i) (c.apex-2.ensures i))
    ∙ of_long name c.args.self.now.apex (λ short. omega (arith, c.if-compose_len.false, short, c.compose_len.ensures.len, apex))
