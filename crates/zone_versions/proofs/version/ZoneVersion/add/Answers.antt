use Rattle.std.proofs.Common.{◌≡◌, true, ap, sym, ◌∙◌}
use Rattle.dns_name.specs.Names.{under}
use Rattle.dns_rdata.specs.ZoneData.{data_fields}
use Rattle.zone_model.specs.Version.{Version}
use Rattle.zone_versions.proofs.Adding.{alone_at, added_sound}
use Rattle.zone_versions.proofs.version.ZoneVersion.add.Goals as goal

pub put_last-requires-clause-zone : goal.put_last-requires-clause-zone
put_last-requires-clause-zone c = ap (λ (v : Version). under c.args.key.0 v.apex) c.self.view_is ∙ sym c.if-not-is_in_zone.ensures

-- Data that aren't refused keep the version sound.
pub invariant_of-self : goal.invariant_of-self
invariant_of-self c =
    let before = c.self.inside.tree in
    let u : under c.args.key.0 before.apex ≡ true = ap (λ (v : Version). under c.args.key.0 v.apex) c.self.view_is ∙ sym c.if-not-is_in_zone.ensures in
    added_sound before c.put_last.new.tree c.args.key c.args.ttl (data_fields c.args.item) c.stands_alone-alone.result c.put_last.result c.self.invariant c.put_last.ensures.folded u
    (c.stands_alone-alone.ensures ∙ ap (λ (v : Version). alone_at v c.args.key) (sym c.self.view_is)) c.put_last.ensures.ok c.put_last.ensures.cause c.put_last.ensures.err
