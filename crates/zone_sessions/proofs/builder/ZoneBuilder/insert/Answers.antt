use Rattle.std.proofs.Common.{◌≡◌, true, refl, sym, ◌∙◌}
use Rattle.dns_name.specs.Names.{under}
use Rattle.dns_rdata.specs.Records.{Record}
use Rattle.zone_model.specs.Version.{Version}
use Rattle.zone_versions.specs.Puts.{adds_alias}
use Rattle.zone_sessions.proofs.builder.ZoneBuilder.insert.Goals as goal

zoned : {v w : Version} (r : Record) → v ≡ w → under r.owner v.apex ≡ true → under r.owner w.apex ≡ true
zoned r e h = sym (λ i. under r.owner (e i).apex) ∙ h

aliased : {v w : Version} (r : Record) → v ≡ w → adds_alias v r ≡ true → adds_alias w r ≡ true
aliased r e h = sym (λ i. adds_alias (e i) r) ∙ h

pub returns-then-adds_alias-clause-alias : goal.returns-then-adds_alias-clause-alias
returns-then-adds_alias-clause-alias c = (
  λ e. (
    zoned c.args.added c.self.view_is (sym (λ i. under (c.owner.ensures i) (c.apex.ensures i)) ∙ sym c.ends_with.ensures ∙ c.if-not-ends_with.false),
    aliased c.args.added c.self.view_is (sym c.adds_alias.ensures ∙ c.if-adds_alias.true),
  ),
  λ both. refl,
)
