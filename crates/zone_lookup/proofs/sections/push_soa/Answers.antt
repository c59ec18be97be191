use Rattle.std.proofs.Common.{◌≡◌, [], ◌∷◌, refl, sym, ap, ◌∙◌}
use Rattle.std.specs.Option.{option_copied}
use Rattle.dns_wire.specs.Wire.{in_authority}
use Rattle.zone_values.specs.TypedSets.{TypedRecord}
use Rattle.zone_lookup.specs.Sending.{record_at}
use Rattle.zone_lookup.proofs.Adding.{authority, record_added, some_added}
use Rattle.zone_lookup.proofs.sections.push_soa.Goals as goal

pub returns-in-Some : goal.returns-in-Some
returns-in-Some c =
    let a = c.args in
    let r = record_at a.owner.now a.class c.in-Some.soa.now in
    let is : c.new.result ≡ r = c.new.ensures ∙ rw (c.borrowed.ensures.value, c.ttl.ensures, c.data.ensures.rtype, c.data.ensures.fields) refl in
    λ h qs answers before stands. some_added (λ (x : TypedRecord). record_at a.owner.now a.class x ∷ []) c.in-Some.soa.now _ (λ rs. in_authority h qs answers rs) before a.section.now c.push.new.self c.push.result
    (sym (ap option_copied c.in-Some.is)) (record_added 8 _ (λ rs. in_authority h qs answers rs) before c.new.result r a.section.now c.push.new.self c.push.result (authority h qs answers) is stands c.push.ensures.adds)
