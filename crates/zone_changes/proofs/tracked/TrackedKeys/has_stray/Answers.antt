use Rattle.std.proofs.Common.{◌≡◌, false, List, Option, sym, ◌∙◌, subst}
use Rattle.std.specs.List.{list_any}
use Rattle.zone_model.specs.Version.{Key}
use Rattle.zone_changes.specs.Touched.{Covers, CoversIn, is_stray_beside}
use Rattle.zone_changes.proofs.Straying.{none_beside, valid_closed}
use Rattle.zone_changes.proofs.tracked.TrackedKeys.has_stray.Goals as goal

-- Where keys are kept, a set that goes stands at the owner of one.
pub returns-in-Some-clause-none : goal.returns-in-Some-clause-none
returns-in-Some-clause-none c none =
    let base = c.args.base.now in
    let v = c.args.version.now in
    let covered : Covers c.in-Some.keys base.sets v.sets =
    subst (λ (kept : Option (List Key)). CoversIn kept base.sets v.sets) (sym c.self.view_is ∙ c.in-Some.is) c.requires.covered in
    let nowhere : list_any (is_stray_beside v) c.in-Some.keys ≡ false = sym c.has_stray.ensures ∙ none in
    none_beside v base c.in-Some.keys c.requires.began.valid c.requires.began.apex covered nowhere c.soundness.ensures

pub returns-in-Some-clause-valid : goal.returns-in-Some-clause-valid
returns-in-Some-clause-valid c none =
    let base = c.args.base.now in
    let v = c.args.version.now in
    let covered : Covers c.in-Some.keys base.sets v.sets =
    subst (λ (kept : Option (List Key)). CoversIn kept base.sets v.sets) (sym c.self.view_is ∙ c.in-Some.is) c.requires.covered in
    let nowhere : list_any (is_stray_beside v) c.in-Some.keys ≡ false = sym c.has_stray.ensures ∙ none in
    valid_closed v c.soundness.ensures (none_beside v base c.in-Some.keys c.requires.began.valid c.requires.began.apex covered nowhere c.soundness.ensures)
