use Rattle.std.proofs.Common.{sym, ap}
use Rattle.std.specs.Option.{option_copied}
use Rattle.dns_wire.specs.Wire.{in_authority}
use Rattle.zone_lookup.specs.Sending.{set_at_name}
use Rattle.zone_lookup.proofs.Adding.{set_given, some_added}
use Rattle.zone_lookup.proofs.sections.push_set.Goals as goal

pub returns-in-Some : goal.returns-in-Some
returns-in-Some c =
    let a = c.args in
    λ h qs answers before stands. some_added (set_at_name a.owner.now a.class) c.in-Some.set.now _ (λ rs. in_authority h qs answers rs) before a.section.now c.push_referred.new.section c.push_referred.result
    (sym (ap option_copied c.in-Some.is))
    (set_given a.owner.now a.class c.as_rrset.result.now c.in-Some.set.now (λ rs. in_authority h qs answers rs) before a.section.now c.push_referred.new.section c.push_referred.result
    c.as_rrset.ensures (c.push_referred.ensures h qs answers before stands))
