use Rattle.std.proofs.Common.{◌≡◌, true, false, ap, sym, subst, ◌∙◌}
use Rattle.std.specs.Cmp.{first_so}
use Rattle.dns_name.specs.Names.{under}
use Rattle.zone_model.specs.Version.{Version}
use Rattle.zone_model.specs.Edits.{has_data}
use Rattle.zone_versions.specs.Nodes.{is_address_in, with_glue}
use Rattle.zone_versions.proofs.NodeEdits.{glue_put, with_glue_sound}
use Rattle.zone_versions.proofs.Outcomes.{on_ok, sound_after}
use Rattle.zone_versions.proofs.version.ZoneVersion.put_glue.Goals as goal

-- An address in the zone stands in it.
pub put_opening-requires : goal.put_opening-requires
put_opening-requires c =
    first_so (under c.args.added.owner c.self.inside.tree.apex) _ (subst (λ (v : Version). is_address_in v c.args.added ≡ true) (sym c.self.view_is) c.requires.address)

-- An address is no alias, so the version stays sound.
pub invariant_of-self : goal.invariant_of-self
invariant_of-self c =
    let before = c.self.inside.tree in
    let fresh : has_data before c.args.added ≡ false = subst (λ (v : Version). has_data v c.args.added ≡ false) (sym c.self.view_is) c.requires.fresh in
    sound_after c.put_opening.result before c.put_opening.new.tree (with_glue before c.args.added) (on_ok c.put_opening.result (λ e. e ∙ glue_put before c.args.added fresh) c.put_opening.ensures.ok) c.put_opening.ensures.err c.self.invariant
    (with_glue_sound before c.args.added c.self.invariant (subst (λ (v : Version). is_address_in v c.args.added ≡ true) (sym c.self.view_is) c.requires.address) fresh)

pub returns-clause-ok : goal.returns-clause-ok
returns-clause-ok c =
    let before = c.self.inside.tree in
    let fresh : has_data before c.args.added ≡ false = subst (λ (v : Version). has_data v c.args.added ≡ false) (sym c.self.view_is) c.requires.fresh in
    on_ok c.put_opening.result (λ e. e ∙ glue_put before c.args.added fresh ∙ ap (λ (v : Version). with_glue v c.args.added) c.self.view_is) c.put_opening.ensures.ok
