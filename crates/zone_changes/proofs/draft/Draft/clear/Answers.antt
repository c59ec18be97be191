use Rattle.std.proofs.Common.{refl, ap, ◌∙◌}
use Rattle.zone_model.specs.Version.{Version}
use Rattle.zone_model.specs.Edits.{clear}
use Rattle.zone_changes.specs.Touched.{noted_all, noted_all_in, keys_below}
use Rattle.zone_changes.proofs.Covering.{covers_clear, covers_noted_all}
use Rattle.zone_changes.proofs.Drafting.{covers_in, covers_either, began_either}
use Rattle.zone_changes.proofs.draft.Draft.clear.Goals as goal

-- The sets that go were noted.
pub invariant_of-self-2 : goal.invariant_of-self-2
invariant_of-self-2 c =
    let kept = c.self.inside.touched in
    let v = c.self.inside.version.value in
    let base = c.self.inside.base.value.sets in
    let n = c.args.name.now in (
      covers_either c.clear.result (noted_all_in kept (keys_below v n)) c.note_below.new.self base v c.clear.new.pending.value (clear v n)
          (c.in_ok-note_below.ensures.ok ∙ ap (λ (x : Version). noted_all_in kept (keys_below x n)) c.deref.ensures) c.clear.ensures.ok c.clear.ensures.err
          (covers_in (λ keys. noted_all keys (keys_below v n)) kept base v.sets base (clear v n).sets (λ keys h. covers_clear keys base v n h) c.self.invariant.0)
          (covers_in (λ keys. noted_all keys (keys_below v n)) kept base v.sets base v.sets (λ keys h. covers_noted_all keys (keys_below v n) base v.sets h) c.self.invariant.0),
      began_either c.clear.result c.self.inside.base.value v c.clear.new.pending.value (clear v n) c.clear.ensures.ok c.clear.ensures.err refl c.self.invariant.1,
    )
