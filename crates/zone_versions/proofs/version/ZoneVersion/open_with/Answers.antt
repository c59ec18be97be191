use Rattle.std.proofs.Common.{◌≡◌, true, false, ap, sym, subst, ◌∙◌}
use Rattle.dns_name.specs.Names.{under}
use Rattle.zone_model.specs.Version.{Version}
use Rattle.zone_model.specs.Classify.{opened_with}
use Rattle.zone_versions.specs.Puts.{opened_by, adds_alias}
use Rattle.zone_versions.proofs.Distinct.{opens_as_file}
use Rattle.zone_versions.proofs.Outcomes.{on_ok, sound_after}
use Rattle.zone_versions.proofs.Putting.{opened_put}
use Rattle.zone_versions.proofs.Sound.{opened_sound, distinct_data}
use Rattle.zone_versions.proofs.version.ZoneVersion.open_with.Goals as goal

-- The record is no second CNAME, so the version stays sound.
pub invariant_of-self : goal.invariant_of-self
invariant_of-self c =
    let before = c.self.inside.tree in
    let r = c.args.added in
    sound_after c.put_opening.result before c.put_opening.new.tree (opened_by before r) (on_ok c.put_opening.result (λ e. e ∙ opened_put before r) c.put_opening.ensures.ok) c.put_opening.ensures.err c.self.invariant
    (opened_sound before r c.self.invariant (subst (λ (v : Version). under r.owner v.apex ≡ true) (sym c.self.view_is) c.requires.zone)
    (subst (λ (v : Version). adds_alias v r ≡ false) (sym c.self.view_is) c.requires.no_alias))

pub returns-clause-ok : goal.returns-clause-ok
returns-clause-ok c =
    let before = c.self.inside.tree in
    let r = c.args.added in
    on_ok c.put_opening.result
    (λ e. e ∙ opened_put before r ∙ opens_as_file before r (distinct_data before c.self.invariant) ∙ ap (λ (v : Version). opened_with v r) c.self.view_is)
    c.put_opening.ensures.ok
