use Rattle.std.proofs.Common.{◌≡◌, ap, sym, ◌∙◌}
use Rattle.dns_name.specs.Names.{under}
use Rattle.dns_numbers.specs.Codes.{type_soa}
use Rattle.dns_rdata.specs.ZoneData.{data_fields}
use Rattle.zone_model.specs.Version.{Version}
use Rattle.zone_model.specs.Edits.{put_set}
use Rattle.zone_values.specs.TypedSets.{TypedSet}
use Rattle.zone_versions.specs.Puts.{with_soa}
use Rattle.zone_versions.proofs.Outcomes.{on_ok, sound_after}
use Rattle.zone_versions.proofs.Sound.{soa_sound, under_itself}
use Rattle.zone_versions.proofs.version.ZoneVersion.put_soa.Goals as goal

-- The apex stands in the zone, and an SOA set there.
pub put_at-requires-clause-zone : goal.put_at-requires-clause-zone
put_at-requires-clause-zone c =
    let apex = c.self.inside.tree.apex in
    let name : c.to_key_name-apex.result ≡ apex = c.to_key_name-apex.ensures.value ∙ c.apex.ensures ∙ ap (λ (v : Version). v.apex) (sym c.self.view_is) in
    ap (λ n. under n apex) name ∙ under_itself apex

pub put_at-requires-clause-own : goal.put_at-requires-clause-own
put_at-requires-clause-own c = ap (λ (s : TypedSet). s.rtype) c.in_ok-set.ensures ∙ c.requires

-- One SOA record at the apex keeps the version sound.
pub invariant_of-self : goal.invariant_of-self
invariant_of-self c =
    let before = c.self.inside.tree in
    let name : c.to_key_name-apex.result ≡ before.apex = c.to_key_name-apex.ensures.value ∙ c.apex.ensures ∙ ap (λ (v : Version). v.apex) (sym c.self.view_is) in
    sound_after c.put_at.result before c.put_at.new.tree (with_soa before c.args.ttl (data_fields c.args.item))
    (on_ok c.put_at.result (λ e. e ∙ (λ i. put_set before (name i) type_soa (c.in_ok-set.ensures i).contents)) c.put_at.ensures.ok) c.put_at.ensures.err c.self.invariant
    (soa_sound before c.args.ttl (data_fields c.args.item) c.self.invariant)

pub returns-clause-ok : goal.returns-clause-ok
returns-clause-ok c =
    let before = c.self.inside.tree in
    let name : c.to_key_name-apex.result ≡ before.apex = c.to_key_name-apex.ensures.value ∙ c.apex.ensures ∙ ap (λ (v : Version). v.apex) (sym c.self.view_is) in
    on_ok c.put_at.result
    (λ e. e ∙ (λ i. put_set before (name i) type_soa (c.in_ok-set.ensures i).contents) ∙ ap (λ (v : Version). with_soa v c.args.ttl (data_fields c.args.item)) c.self.view_is)
    c.put_at.ensures.ok
