use Rattle.std.proofs.Common.{◌≡◌, true, true≢false, sym, ap, ◌∙◌, rules}
use Rattle.dns_name.specs.Names.{same_name, under}
use Rattle.zone_reads.proofs.NodeNames.{apex_is_under}
use Rattle.zone_sessions.proofs.builder.ZoneBuilder.put_cut.Goals as goal

-- The apex is in the zone.
pub returns-then-name_eq-clause-outside : goal.returns-then-name_eq-clause-outside
returns-then-name_eq-clause-outside c =
    let n = c.args.name.now in
    let inside : under n c.args.self.now.apex ≡ true
    = apex_is_under n c.self.view_is (sym (ap (same_name n) c.apex.ensures) ∙ sym c.name_eq.ensures ∙ c.if-name_eq.true) in
    (λ e. search rules, λ u. absurd (true≢false (sym inside ∙ u)))
