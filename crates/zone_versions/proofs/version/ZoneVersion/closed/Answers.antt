use Rattle.std.proofs.Common.{◌≡◌, if◌then◌else◌, ap, sym, subst, ◌∙◌}
use Rattle.zone_model.specs.Version.{Version, IsValid}
use Rattle.zone_model.specs.Edits.{remove_set, close}
use Rattle.zone_versions.proofs.Dropping.{dropped, dropped_all}
use Rattle.zone_versions.proofs.Sound.{close_sound}
use Rattle.zone_versions.proofs.version.ZoneVersion.closed.Goals as goal

-- One more key was looked at.
pub loop-key-preserved : goal.loop-key-preserved
loop-key-preserved c =
    let v = c.args.self.now in
    let copy = c.loop-key.copy in
    let k = c.in-Some.key in
    ap (λ w. dropped v w c.next.new.self) (c.in_ok-drop_if.ensures ∙ ap (λ b. if b then remove_set copy k.0 k.1 else copy) c.is_stray.ensures)
    ∙ ap (dropped v copy) (sym c.in-Some.ensures.steps) ∙ c.loop-key.invariant

-- No key is left.
pub returns-clause-is : goal.returns-clause-is
returns-clause-is c =
    let v = c.args.self.now in
    ap (dropped v c.loop-key.copy) (sym c.in-None.ensures.steps.0) ∙ c.loop-key.invariant ∙ dropped_all v c.keys-key-items.ensures.sound

pub returns-clause-valid : goal.returns-clause-valid
returns-clause-valid c =
    let v = c.args.self.now in
    let made : c.loop-key.copy ≡ close v = ap (dropped v c.loop-key.copy) (sym c.in-None.ensures.steps.0) ∙ c.loop-key.invariant ∙ dropped_all v c.keys-key-items.ensures.sound in
    subst (λ (w : Version). IsValid w) (sym made) (close_sound v c.keys-key-items.ensures.sound)
