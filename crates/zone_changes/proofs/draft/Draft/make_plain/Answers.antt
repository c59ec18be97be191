use Rattle.std.proofs.Common.{refl, ap, ◌∙◌}
use Rattle.zone_changes.specs.Touched.{noted_in}
use Rattle.zone_changes.specs.Drafts.{without_special}
use Rattle.zone_changes.proofs.Drafting.{covers_in, covers_noted_in, covers_is, covers_either, special, special_in, special_is, covers_special, covers_special_keys, began_either}
use Rattle.zone_changes.proofs.draft.Draft.make_plain.Goals as goal

-- More keys cover no less.
pub invariant_of-self-in_err-note-2 : goal.invariant_of-self-in_err-note-2
invariant_of-self-in_err-note-2 c =
    let kept = c.self.inside.touched in
    let v = c.self.inside.version.value in
    let base = c.self.inside.base.value.sets in
    (covers_is (noted_in kept c.new.result) c.note-2.new.self base v v (c.in_err-note-2.ensures.err ∙ c.in_ok-note.ensures.ok) refl (covers_noted_in kept c.new.result base v.sets c.self.invariant.0), c.self.invariant.1)

pub invariant_of-self-in_err-note-3 : goal.invariant_of-self-in_err-note-3
invariant_of-self-in_err-note-3 c =
    let kept = c.self.inside.touched in
    let v = c.self.inside.version.value in
    let base = c.self.inside.base.value.sets in
    let one = noted_in kept c.new.result in (
      covers_is (noted_in one c.new-2.result) c.note-3.new.self base v v (c.in_err-note-3.ensures.err ∙ c.in_ok-note-2.ensures.ok ∙ ap (λ ks. noted_in ks c.new-2.result) c.in_ok-note.ensures.ok) refl
          (covers_noted_in one c.new-2.result base v.sets (covers_noted_in kept c.new.result base v.sets c.self.invariant.0)),
      c.self.invariant.1,
    )

-- The three sets were noted.
pub invariant_of-self-2 : goal.invariant_of-self-2
invariant_of-self-2 c =
    let kept = c.self.inside.touched in
    let v = c.self.inside.version.value in
    let base = c.self.inside.base.value.sets in
    let n = c.args.owner.now in (
      covers_either c.remove_special.result (special_in kept n) c.note-3.new.self base v c.remove_special.new.pending.value (without_special v n)
          (special_is kept c.note.new.self c.note-2.new.self c.note-3.new.self c.new.result c.new-2.result c.new-3.result n c.new.ensures c.new-2.ensures c.new-3.ensures c.in_ok-note.ensures.ok c.in_ok-note-2.ensures.ok c.in_ok-note-3.ensures.ok)
          c.remove_special.ensures.ok c.remove_special.ensures.err
          (covers_in (λ keys. special keys n) kept base v.sets base (without_special v n).sets (λ keys h. covers_special keys base v n h) c.self.invariant.0)
          (covers_in (λ keys. special keys n) kept base v.sets base v.sets (λ keys h. covers_special_keys keys base v n h) c.self.invariant.0),
      began_either c.remove_special.result c.self.inside.base.value v c.remove_special.new.pending.value (without_special v n) c.remove_special.ensures.ok c.remove_special.ensures.err refl c.self.invariant.1,
    )
