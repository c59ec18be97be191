use Rattle.std.proofs.Common.{length, sym, ap, ◌∙◌}
use Rattle.dns_name.specs.Names.{name_wire}
use Rattle.zone_versions.proofs.ApexLengths.{of_other_length}
use Rattle.zone_versions.proofs.version.ZoneVersion.is_apex.Goals as goal

-- A name of another length is another.
pub returns-then-compose_len : goal.returns-then-compose_len
returns-then-compose_len c =
    let apex = c.compose_len-2.ensures.len ∙ ap (λ n. length (name_wire n)) c.apex.ensures in
    of_other_length c.args.name.now c.args.self.now.apex (λ same. c.if-compose_len.true (c.compose_len.ensures.len ∙ same ∙ sym apex))
