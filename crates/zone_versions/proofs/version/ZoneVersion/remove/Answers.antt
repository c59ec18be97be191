use Rattle.std.proofs.Common.{◌≡◌, Ok, not, filter, ap, sym, subst, ◌∙◌}
use Rattle.dns_name.specs.Names.{under}
use Rattle.dns_rdata.specs.Records.{same_data}
use Rattle.zone_model.specs.Version.{Version, data_at}
use Rattle.zone_model.specs.Edits.{delete, put_set}
use Rattle.zone_versions.specs.Held.{counted}
use Rattle.zone_versions.specs.Trees.{built}
use Rattle.zone_versions.specs.Puts.{without}
use Rattle.zone_versions.proofs.Outcomes.{on_ok, sound_after}
use Rattle.zone_versions.proofs.Sound.{delete_sound, delete_in_zone}
use Rattle.zone_versions.proofs.version.ZoneVersion.remove.Goals as goal

-- A record that isn't refused stands in the zone.
pub take_out-requires : goal.take_out-requires
take_out-requires c =
    let before = c.self.inside.tree in
    let r = c.args.deleted.now in
    ap (λ n. under n before.apex) c.owner.ensures
    ∙ delete_in_zone before (without before r) r (subst (λ (v : Version). delete v r ≡ Ok (without v r)) (sym c.self.view_is) c.requires)

-- Its owner, TTL and data are what is taken out, and that leaves the version sound.
pub invariant_of-self : goal.invariant_of-self
invariant_of-self c =
    let before = c.self.inside.tree in
    let r = c.args.deleted.now in
    let data_is = c.data-item.ensures in
    sound_after c.take_out.result before c.take_out.new.self (without before r)
    (on_ok c.take_out.result
    (λ e. e ∙ (λ i. put_set before (c.owner.ensures i) (data_is.rtype i) (record { ttl = c.ttl-ttl.ensures i; items = filter (λ d. not (same_data (data_is.fields i) d)) (data_at before (c.owner.ensures i) (data_is.rtype i)) })))
    c.take_out.ensures.ok)
    c.take_out.ensures.err c.self.invariant (delete_sound before (without before r) r c.self.invariant (subst (λ (v : Version). delete v r ≡ Ok (without v r)) (sym c.self.view_is) c.requires))

pub returns-clause-ok : goal.returns-clause-ok
returns-clause-ok c =
    let before = c.self.inside.tree in
    let data_is = c.data-item.ensures in
    on_ok c.take_out.result
    (λ e. e ∙ (λ i. put_set before (c.owner.ensures i) (data_is.rtype i) (record { ttl = c.ttl-ttl.ensures i; items = filter (λ d. not (same_data (data_is.fields i) d)) (data_at before (c.owner.ensures i) (data_is.rtype i)) }))
    ∙ ap (λ (v : Version). without v c.args.deleted.now) c.self.view_is)
    c.take_out.ensures.ok

pub returns-clause-steps : goal.returns-clause-steps
returns-clause-steps c =
    on_ok c.take_out.result
    (λ e. e ∙ (λ i. counted c.args.steps.now (built (c.self.view_is i) c.take_out.new.self (c.owner.ensures i) (c.data-item.ensures.rtype i))))
    c.take_out.ensures.steps
