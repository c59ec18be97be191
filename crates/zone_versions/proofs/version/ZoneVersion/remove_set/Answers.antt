use Rattle.std.proofs.Common.{ap, sym, subst, ◌∙◌}
use Rattle.dns_name.specs.Names.{under}
use Rattle.zone_model.specs.Version.{Version}
use Rattle.zone_model.specs.Edits.{remove_set}
use Rattle.zone_versions.specs.Sound.{IsSound}
use Rattle.zone_versions.proofs.NodeEdits.{remove_sound}
use Rattle.zone_versions.proofs.Outcomes.{on_ok, sound_after}
use Rattle.zone_versions.proofs.Standing.{none_outside}
use Rattle.zone_versions.proofs.version.ZoneVersion.remove_set.Goals as goal

-- No set stands outside the zone.
pub returns-then-not-ends_with-clause-ok : goal.returns-then-not-ends_with-clause-ok
returns-then-not-ends_with-clause-ok c =
    none_outside c.args.self.now c.args.owner.now c.args.rtype (subst (λ (v : Version). IsSound v) c.self.view_is c.self.invariant)
    (ap (λ a. under c.args.owner.now a) (sym c.apex.ensures) ∙ sym c.if-not-ends_with.ensures)

-- What is left is sound.
pub invariant_of-self : goal.invariant_of-self
invariant_of-self c =
    let before = c.self.inside.tree in
    sound_after c.with_set.result before c.with_set.new.self (remove_set before c.args.owner.now c.args.rtype) c.with_set.ensures.ok c.with_set.ensures.err c.self.invariant
    (remove_sound before c.args.owner.now c.args.rtype c.self.invariant)

pub returns-clause-ok : goal.returns-clause-ok
returns-clause-ok c = on_ok c.with_set.result (λ e. e ∙ ap (λ (v : Version). remove_set v c.args.owner.now c.args.rtype) c.self.view_is) c.with_set.ensures.ok
