use Rattle.std.proofs.Common.{ap, ◌∙◌}
use Rattle.zone_model.specs.Version.{Version}
use Rattle.zone_model.specs.Edits.{clear}
use Rattle.zone_versions.proofs.NodeEdits.{clear_sound}
use Rattle.zone_versions.proofs.Outcomes.{on_ok, sound_after}
use Rattle.zone_versions.proofs.version.ZoneVersion.clear.Goals as goal

-- What is left is sound.
pub invariant_of-self : goal.invariant_of-self
invariant_of-self c =
    let before = c.self.inside.tree in
    sound_after c.clear.result before c.clear.new.self (clear before c.args.name.now) c.clear.ensures.ok c.clear.ensures.err c.self.invariant (clear_sound before c.args.name.now c.self.invariant)

pub returns-clause-ok : goal.returns-clause-ok
returns-clause-ok c = on_ok c.clear.result (λ e. e ∙ ap (λ (v : Version). clear v c.args.name.now) c.self.view_is) c.clear.ensures.ok
