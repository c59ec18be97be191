use Rattle.std.proofs.Common.{◌≡◌, true, false, ap, sym, subst, ◌∙◌}
use Rattle.dns_name.specs.Names.{under}
use Rattle.zone_model.specs.Version.{Version}
use Rattle.zone_model.specs.Edits.{put_set, is_bad_alias}
use Rattle.zone_versions.proofs.NodeEdits.{put_sound}
use Rattle.zone_versions.proofs.Outcomes.{on_ok, sound_after}
use Rattle.zone_versions.proofs.version.ZoneVersion.put_set.Goals as goal

-- A set that is no bad alias keeps the version sound.
pub invariant_of-self : goal.invariant_of-self
invariant_of-self c =
    let before = c.self.inside.tree in
    let n = c.args.owner.now in
    let t = c.args.set.rtype in
    let s = c.args.set.contents in
    sound_after c.put_at.result before c.put_at.new.tree (put_set before n t s) (on_ok c.put_at.result (λ e. e ∙ ap (λ r. put_set before n r s) c.rtype-rtype.ensures) c.put_at.ensures.ok) c.put_at.ensures.err c.self.invariant
    (put_sound before n t s c.self.invariant (subst (λ (v : Version). under n v.apex ≡ true) (sym c.self.view_is) c.requires.zone) c.requires.differ
    (subst (λ (v : Version). is_bad_alias v n t s ≡ false) (sym c.self.view_is) c.requires.alias))

pub returns-clause-ok : goal.returns-clause-ok
returns-clause-ok c =
    on_ok c.put_at.result
    (λ e. e ∙ ap (λ r. put_set c.self.inside.tree c.args.owner.now r c.args.set.contents) c.rtype-rtype.ensures ∙ ap (λ (v : Version). put_set v c.args.owner.now c.args.set.rtype c.args.set.contents) c.self.view_is)
    c.put_at.ensures.ok
